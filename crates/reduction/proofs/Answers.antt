-- The B that an answer shows, by what the search found.
-- Assumes nothing.
use mathlib.Core.Bool.{true, false}
use mathlib.Core.List.{List, [], ◌∷◌}
use mathlib.Core.Path.{◌≡◌}
use Prim.Native.Nat.{ℕ, ◌+◌, ◌<◌}
use native.Mathlib.Omega.{arith}
use lib.Dec.{ltb, eqb}
use borrow.Author.Tests.{ltb-true, ltb-false, le-leb, lt-leb, ne_eqb}
use Rattle.common.specs.Choice.{pick}
use Rattle.common.proofs.Tests.{by_test, or_true, and_false}
use Rattle.money.specs.declared.PensionPence.{PensionPence}
use Rattle.money.specs.Money.{pension}
use Rattle.reduction.specs.declared.Application.{Application}
use Rattle.reduction.specs.Range.{InRange}
use Rattle.reduction.specs.Search.{candidate_of, potential_at, below_npa}
use Rattle.reduction.specs.Answer.{potential_shown, answered_reduction, reduction_by, reduction_limit_of}
use Rattle.reduction.proofs.Range.{not_out}
use Rattle.reduction.proofs.Candidates.{earliest_age, candidate_least, candidates_rise, candidates_apart, below_npa_lem}

-- B of candidate j where it is one of the first m, else 0
unfoldable pub tried_of : Application → (m j : ℕ) → ℕ
tried_of a m j = pick (ltb j m) (potential_at a j) 0

-- the B of the first m candidates
abbrev pub tried : Application → (m : ℕ) → List PensionPence
tried a m = pension (tried_of a m 0) ∷ pension (tried_of a m 1) ∷ pension (tried_of a m 2) ∷ []

module _ (a : Application) where
  -- an answer that shows the first m
  pub answer_shown : InRange a → (m age : ℕ) → earliest_age a ≡ age → ((j : ℕ) → j < 3 → potential_shown a age j ≡ tried_of a m j)
      → answered_reduction age (tried a m) ≡ reduction_limit_of a
  unfolding reduction_limit_of reduction_by
  answer_shown in_it m age e shown =
      rw (not_out a in_it, e, shown 0 (omega arith), shown 1 (omega arith), shown 2 (omega arith))

  -- none is taken, and the first m are those below NPA
  pub shown_untaken : (m j : ℕ) → below_npa a j ≡ ltb j m → potential_shown a 0 j ≡ tried_of a m j
  unfolding potential_shown tried_of
  shown_untaken m j below = by_test (ltb j m) (λ e. rw (below, e)) (λ e. rw (below, e))

  -- candidate k is taken
  module _ (k : ℕ) (below : candidate_of a k < a.npa) where
    shown_until : (j : ℕ) → ltb j (k + 1) ≡ true → potential_shown a (candidate_of a k) j ≡ tried_of a (k + 1) j
    unfolding potential_shown tried_of
    shown_until j e =
        let up = candidates_rise a j k (omega (arith, ltb-true j (k + 1) e)) in
        rw (e, below_npa_lem a j (omega arith), le-leb (candidate_of a j) (candidate_of a k) up, or_true (eqb (candidate_of a k) 0))

    not_shown : (j : ℕ) → ltb j (k + 1) ≡ false → potential_shown a (candidate_of a k) j ≡ tried_of a (k + 1) j
    unfolding potential_shown tried_of
    not_shown j e =
        let after = candidates_apart a k j (omega (arith, ltb-false j (k + 1) e)) in
        rw (
          e,
          lt-leb (candidate_of a j) (candidate_of a k) after,
          ne_eqb (candidate_of a k) 0 (λ z. omega (arith, candidate_least a k)),
          and_false (below_npa a j),
        )

    pub shown_taken : (j : ℕ) → potential_shown a (candidate_of a k) j ≡ tried_of a (k + 1) j
    shown_taken j = by_test (ltb j (k + 1)) (shown_until j) (not_shown j)
