-- How large the numbers of a reduction limit can be.
-- Assumes nothing.
use mathlib.Core.Bool.{◌||◌}
use Prim.Native.Nat.{ℕ, ◌≤◌, ◌<◌}
use native.Mathlib.Omega.{arith}
use lib.Dec.{leb, eqb}
use borrow.Author.Tests.{eqb-true, eqb-false}
use Rattle.common.proofs.Tests.{by_test}
use Rattle.common.proofs.Choice.{either}
use Rattle.reduction.specs.declared.Application.{Application}
use Rattle.reduction.specs.Range.{out_of_range, InRange}
use Rattle.reduction.specs.Search.{candidate_of, below_npa}
use Rattle.reduction.specs.Answer.{potential_shown, reduction_by, reduction_limit_of}
use Rattle.reduction.specs.Bounds.{most_potential, ReductionBounds}
use Rattle.reduction.proofs.Range.{in_range}
use Rattle.reduction.proofs.Candidates.{earliest_age, most_at}
use Rattle.reduction.proofs.Earliest.{given_earliest}

module _ (a : Application) where
  module _ (in_it : InRange a) where
    -- an age that is given is below NPA
    age_most : earliest_age a ≤ 69
    age_most =
        by_test (eqb (earliest_age a) 0)
        (λ e. omega (arith, eqb-true (earliest_age a) 0 e))
        (λ e. let f = given_earliest a (eqb-false (earliest_age a) 0 e) in omega (arith, f.is, f.passes.below, in_it.npa_high))

    shown_most : (age k : ℕ) → k < 3 → potential_shown a age k ≤ most_potential
    unfolding potential_shown
    shown_most age k among =
        by_test (below_npa a k)
        (λ b. rw b
        (either (λ (n : ℕ). n ≤ most_potential) (eqb age 0 || leb (candidate_of a k) age) {y = 0}
        (most_at a in_it k among) (omega arith)))
        (λ b. rw b (omega arith))

  pub reduction_bounds : ReductionBounds (reduction_limit_of a)
  unfolding reduction_limit_of reduction_by
  reduction_bounds =
      by_test (out_of_range a)
      (λ e.
      rw e
      record {
        refusal_most = omega arith;
        age_most = omega arith;
        first_most = omega arith;
        second_most = omega arith;
        third_most = omega arith;
      })
      (λ e.
      let in_it = in_range a e in
      rw e
      record {
        refusal_most = omega arith;
        age_most = age_most in_it;
        first_most = shown_most in_it _ 0 (omega arith);
        second_most = shown_most in_it _ 1 (omega arith);
        third_most = shown_most in_it _ 2 (omega arith);
      })
