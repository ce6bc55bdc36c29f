-- The candidates of an application, and which of them are below NPA.
-- Assumes nothing.
use mathlib.Core.Bool.{true, false}
use mathlib.Core.Path.{◌≡◌}
use Prim.Native.Nat.{ℕ, ◌+◌, ◌-◌, ◌≤◌, ◌<◌, max}
use native.Mathlib.Omega.{arith}
use borrow.Author.Tests.{lt-ltb, le-ltb, ltb-true, ltb-false}
use Rattle.reduction.specs.declared.Application.{Application}
use Rattle.reduction.specs.Potential.{NearPotential}
use Rattle.reduction.specs.Range.{InRange}
use Rattle.reduction.specs.Search.{candidate_of, factor_of, years_to, potential_at, candidate_is_taken, below_npa, search_by}
use Rattle.reduction.specs.Bounds.{most_potential}
use Rattle.reduction.proofs.Distance.{potential_most, potential_close}

-- the age that the search gives by B < C, and what is left of that search from candidate k on
abbrev pub search_from : Application → (k n : ℕ) → ℕ
search_from a = search_by (candidate_is_taken a) a

abbrev pub earliest_age : Application → ℕ
earliest_age a = search_from a 0 3

module _ (a : Application) where
  pub candidate_least : (k : ℕ) → 65 ≤ candidate_of a k
  unfolding candidate_of
  candidate_least k = omega arith

  -- the first
  pub candidate_first : {age : ℕ} → age ≡ max 65 (a.npa - 3) → age ≡ candidate_of a 0
  unfolding candidate_of
  candidate_first e = omega arith

  -- each is so many years after the one before
  pub candidate_later : (k j : ℕ) → candidate_of a (k + j) ≡ candidate_of a k + j
  unfolding candidate_of
  candidate_later k j = omega arith

  pub candidates_rise : (k j : ℕ) → k ≤ j → candidate_of a k ≤ candidate_of a j
  unfolding candidate_of
  candidates_rise k j h = omega arith

  pub candidates_apart : (k j : ℕ) → k < j → candidate_of a k < candidate_of a j
  unfolding candidate_of
  candidates_apart k j h = omega arith

  pub below_npa_lem : (k : ℕ) → candidate_of a k < a.npa → below_npa a k ≡ true
  unfolding below_npa
  below_npa_lem k h = lt-ltb (candidate_of a k) a.npa h

  pub not_below_npa : (k : ℕ) → a.npa ≤ candidate_of a k → below_npa a k ≡ false
  unfolding below_npa
  not_below_npa k h = le-ltb (candidate_of a k) a.npa h

  pub is_below : (k : ℕ) → below_npa a k ≡ true → candidate_of a k < a.npa
  unfolding below_npa
  is_below k e = ltb-true (candidate_of a k) a.npa e

  pub is_not_below : (k : ℕ) → below_npa a k ≡ false → a.npa ≤ candidate_of a k
  unfolding below_npa
  is_not_below k e = ltb-false (candidate_of a k) a.npa e

  module _ (in_it : InRange a) where
    pub first_below : candidate_of a 0 < a.npa
    unfolding candidate_of
    first_below = omega (arith, in_it.npa_low)

    -- every candidate is a later age, and each of the three at most 45 years away
    pub age_before : (k : ℕ) → a.age ≤ candidate_of a k
    age_before k = omega (arith, in_it.age_high, candidate_least k)

    pub years_few : (k : ℕ) → k < 3 → years_to a k ≤ 45
    unfolding years_to candidate_of
    years_few k h = omega (arith, in_it.npa_high, in_it.age_low)

    pub factor_most : (k : ℕ) → factor_of a k ≤ 1000
    unfolding factor_of
    factor_most k = in_it.factors_high k

    -- B of one of the three
    module _ (k : ℕ) (among : k < 3) where
      pub close_at : NearPotential 1 (years_to a k) a.pay (factor_of a k) (potential_at a k)
      unfolding potential_at
      close_at = potential_close (years_to a k) a.pay (factor_of a k) (years_few k among) in_it.pay_high

      pub most_at : potential_at a k ≤ most_potential
      unfolding potential_at
      most_at = potential_most (years_to a k) a.pay (factor_of a k) (years_few k among) in_it.pay_high
