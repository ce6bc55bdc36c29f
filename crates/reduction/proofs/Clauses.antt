-- What holds of every reduction limit.
-- Assumes nothing.
use mathlib.Core.Bool.{Bool, true, false}
use mathlib.Core.Logic.{inl, inr, ⊎_elim}
use mathlib.Core.Path.{◌≡◌, refl, sym, ap, ◌∙◌}
use Prim.Native.Nat.{ℕ, zero, suc, ◌<◌}
use native.Mathlib.Omega.{arith}
use lib.Dec.{leb, eqb}
use borrow.Author.Tests.{eqb-true, leb-true, eq-eqb, le-leb, le-ltb}
use Rattle.common.specs.Choice.{pick}
use Rattle.common.proofs.Tests.{by_test, or_true}
use Rattle.reduction.specs.declared.Application.{Application}
use Rattle.reduction.specs.Range.{out_of_range, InRange}
use Rattle.reduction.specs.Search.{candidate_of, potential_at, candidate_is_taken, below_npa, search_by}
use Rattle.reduction.specs.Answer.{ReductionNumbers, potential_shown, refused_with, refused_reduction, reduction_by, reduction_limit_of}
use Rattle.reduction.specs.Clauses.{given_for, CandidateShown, ReductionRefusals, ReductionAnswered}
use Rattle.reduction.proofs.Near.{near_wider}
use Rattle.reduction.proofs.Range.{in_range, not_out, out_by}
use Rattle.reduction.proofs.Headroom.{taken_none}
use Rattle.reduction.proofs.Candidates.{earliest_age, below_npa_lem, is_below, first_below, close_at}
use Rattle.reduction.proofs.Earliest.{given_earliest, none_given, given_none}

module _ (a : Application) where
  abbrev answer : ReductionNumbers
  answer = reduction_limit_of a

  -- out of range
  pub reduction_refused : out_of_range a ≡ true → answer ≡ refused_reduction
  unfolding reduction_limit_of reduction_by
  reduction_refused e = rw e

  -- with the number that the code gives
  pub refused_by : {n : ℕ} → n ≡ pick (out_of_range a) 18 0 → 0 < n → refused_with n ≡ answer
  refused_by is some =
      let e = out_by a is some in
      ap refused_with (is ∙ ap (λ (out : Bool). pick out 18 0) e) ∙ sym (reduction_refused e)

  -- an answer that is no refusal
  fine : answer.refusal ≡ 0 → out_of_range a ≡ false
  unfolding reduction_limit_of reduction_by
  fine z = by_test (out_of_range a) (λ e. absurd (eighteen (rw e at z))) (λ e. e)
    where
      eighteen : (◌≡◌ {A = ℕ} 18 0) → ⊥
      eighteen e = omega arith

  -- in range
  module _ (in_it : out_of_range a ≡ false) where
    no_refusal : answer.refusal ≡ 0
    unfolding reduction_limit_of reduction_by
    no_refusal = rw in_it

    age_is : answer.age ≡ earliest_age a
    unfolding reduction_limit_of reduction_by
    age_is = rw in_it

    given_is : (k : ℕ) → k < 3 → given_for answer k ≡ potential_shown a (earliest_age a) k
    unfolding reduction_limit_of reduction_by
    given_is zero h = rw in_it
    given_is (suc zero) h = rw in_it
    given_is (suc (suc zero)) h = rw in_it
    given_is (suc (suc (suc k))) h = absurd (omega arith)

    -- with nothing existing the first candidate is taken
    untested : a.existing.0 ≡ 0 → earliest_age a ≡ candidate_of a 0
    unfolding search_by candidate_is_taken
    untested none =
        rw (
          below_npa_lem a 0 (first_below a (in_range a in_it)),
          taken_none (potential_at a 0) a.existing.0 a.limit.0 (le-ltb 0 a.existing.0 (omega arith)),
        )

    -- what is shown, and what is not
    shows : (k : ℕ) → CandidateShown a (earliest_age a) k → potential_shown a (earliest_age a) k ≡ potential_at a k
    unfolding potential_shown
    shows k s =
        ⊎_elim
        (λ z. rw (below_npa_lem a k s.below, eq-eqb (earliest_age a) 0 z))
        (λ l. rw (below_npa_lem a k s.below, le-leb (candidate_of a k) (earliest_age a) l, or_true (eqb (earliest_age a) 0)))
        s.until

    hides : (k : ℕ) → k < 3 → (CandidateShown a (earliest_age a) k → ⊥) → potential_shown a (earliest_age a) k ≡ 0
    unfolding potential_shown
    hides k h hidden =
        by_test (below_npa a k)
        (λ b. by_test (eqb (earliest_age a) 0)
        (λ z. absurd (hidden (record { among = h; below = is_below a k b; until = inl (eqb-true (earliest_age a) 0 z) })))
        (λ z. by_test (leb (candidate_of a k) (earliest_age a))
        (λ l. absurd (hidden (record { among = h; below = is_below a k b; until = inr (leb-true (candidate_of a k) (earliest_age a) l) })))
        (λ l. rw (b, z, l))))
        (λ b. rw b)

  pub reduction_refusals : ReductionRefusals a answer
  reduction_refusals =
      record {
        eighteen = λ out. rw (reduction_refused (is_out out));
        zeros = λ out. rw (reduction_refused (is_out out)) (refl, (refl, (refl, refl)));
        none = λ in_it. no_refusal (not_out a in_it);
        in_range = λ z. in_range a (fine z);
      }
    where
      is_out : (InRange a → ⊥) → out_of_range a ≡ true
      is_out out = by_test (out_of_range a) (λ e. e) (λ e. absurd (out (in_range a e)))

  pub reduction_answered : ReductionAnswered a answer
  reduction_answered =
      record {
        earliest = λ z some. rw (age_is (fine z)) (given_earliest a (λ e. some (age_is (fine z) ∙ e)));
        no_scope = λ z none. none_given a (sym (age_is (fine z)) ∙ none);
        none_passes = λ z fails. age_is (fine z) ∙ given_none a fails;
        untested = λ z none. (age_is (fine z) ∙ untested (fine z) none, given_shown (fine z) 0 (first_shown (fine z) none));
        shown = λ z k s. given_shown (fine z) k s;
        others = λ z k h hidden. given_is (fine z) k h ∙ hides (fine z) k h (λ s. hidden (rw (age_is (fine z)) s));
        near = λ z k s. rw (given_shown (fine z) k s) (near_wider (omega arith) (close_at a (in_range a (fine z)) k s.among));
      }
    where
      first_shown : (in_it : out_of_range a ≡ false) → a.existing.0 ≡ 0 → CandidateShown a answer.age 0
      first_shown in_it none =
          record {
            among = omega arith;
            below = first_below a (in_range a in_it);
            until = inr (omega (arith, age_is in_it, untested in_it none));
          }

      given_shown : (in_it : out_of_range a ≡ false) (k : ℕ) → CandidateShown a answer.age k → given_for answer k ≡ potential_at a k
      given_shown in_it k s = given_is in_it k s.among ∙ shows in_it k (rw (age_is in_it) at s)
