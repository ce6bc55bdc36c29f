-- Whole-year credits by year and in the row, for any rounding: they never fall, and neither they nor the value at a month pass the amount.
-- Assumes nothing.
use mathlib.Core.List.{List}
use mathlib.Core.Logic.{◌⊎◌, inl, inr, ⊎_elim}
use mathlib.Core.Path.{◌≡◌, refl, sym, ap, ◌∙◌}
use Prim.Native.Nat.{ℕ, zero, suc, ◌*◌, ◌/◌, ◌%◌, ◌≤◌, ◌<◌}
use native.Mathlib.Decide.{le_ind}
use native.Mathlib.Nat.{mul-le-mul_left, le_refl, le_trans, zero-add}
use native.Mathlib.Omega.{arith}
use borrow.Author.Tests.{ne_eqb, le-leb, lt-leb, leb-true, leb-false, ltb-true, ltb-false}
use lib.Dec.{leb, ltb}
use lib.ListN.{get_or, get_or-eq_default}
use Rattle.common.specs.Calendar.{months_in_year}
use Rattle.common.proofs.Tests.{by_test}
use Rattle.common.proofs.Table.{length_tabulate, get_d_tabulate}
use Rattle.scheme.specs.Scheme.{longest_term, row_places}
use Rattle.rounding.specs.Rounding.{WithinHalf, Monotone}
use Rattle.rounding.proofs.Laws.{round_most, blended_most}
use Rattle.years.specs.Years.{Purchase, own_contribution, year_credit, year_credits, month_value, FallingRates}

module _ (round : ℕ → ℕ → ℕ) (p : Purchase) where
  pub year_none : year_credit round p 0 ≡ 0
  unfolding year_credit
  year_none = refl

  pub year_within : (n : ℕ) → 0 < n → n ≤ p.term → year_credit round p n ≡ round (own_contribution p * p.unit) (p.rate n)
  unfolding year_credit
  year_within n low within = rw (ne_eqb n 0 (λ z. omega arith), le-leb n p.term within)

  pub year_past : (n : ℕ) → p.term < n → year_credit round p n ≡ 0
  unfolding year_credit
  year_past n past = rw (ne_eqb n 0 (λ z. omega arith), lt-leb n p.term past)

  -- the row of 21 has every year's credit, those past its end being 0
  pub row_year : p.term ≤ longest_term → (n : ℕ) → get_or (year_credits round p) n 0 ≡ year_credit round p n
  unfolding year_credits
  row_year short n =
      by_test (ltb n row_places)
      (λ h. get_d_tabulate (year_credit round p) 0 row_places n (ltb-true n row_places h) ∙ ap (year_credit round p) (zero-add n))
      (λ h. get_or-eq_default (year_credits round p) 0 (omega (arith, length_tabulate (year_credit round p) 0 row_places, ltb-false n row_places h))
      ∙ sym (year_past n (omega (arith, ltb-false n row_places h))))

-- a year has no credit by any rounding, or it is one from 1 to the term
pub year_or_none : (p : Purchase) (n : ℕ) → ((round : ℕ → ℕ → ℕ) → year_credit round p n ≡ 0) ⊎ ((0 < n) × (n ≤ p.term))
year_or_none p zero = inl (λ round. year_none round p)
year_or_none p (suc n) =
    by_test (leb (suc n) p.term) (λ h. inr (omega arith, leb-true (suc n) p.term h))
    (λ h. inl (λ round. year_past round p (suc n) (leb-false (suc n) p.term h)))

-- no rate up to the term is below the term's, so none buys more than the amount
pub own_most : (p : Purchase) → FallingRates p → (n : ℕ) → 0 < n → n ≤ p.term → own_contribution p * p.unit ≤ p.units * p.unit * p.rate n
own_most p falling n low within = omega (arith, mul-le-mul_left (p.units * p.unit) (least p.term within (le_refl p.term)))
  where
    least : (m : ℕ) → n ≤ m → m ≤ p.term → p.rate m ≤ p.rate n
    least =
        le_ind (λ (m : ℕ). m ≤ p.term → p.rate m ≤ p.rate n) (λ l. le_refl (p.rate n))
        (λ m h before l. le_trans (falling.falls m (omega arith) l) (before (omega arith)))

module _ (round : ℕ → ℕ → ℕ) (half : WithinHalf round) where
  -- no year is worth more than the amount
  pub year_most : (p : Purchase) → FallingRates p → (n : ℕ) → year_credit round p n ≤ p.units * p.unit
  year_most p falling n =
      ⊎_elim (λ none. rw (none round) (omega arith))
      (λ h. rw (year_within round p n h.0 h.1)
      (round_most round half _ _ _ (falling.positive n h.0 h.1) (own_most p falling n h.0 h.1)))
      (year_or_none p n)

  pub years_most : (p : Purchase) → p.term ≤ longest_term → FallingRates p → (n : ℕ) → get_or (year_credits round p) n 0 ≤ p.units * p.unit
  years_most p short falling n = rw (row_year round p short n) (year_most p falling n)

  -- a bound of all the years bounds the value at a month
  pub month_most : (years : List ℕ) (u : ℕ) → ((n : ℕ) → get_or years n 0 ≤ u) → (month : ℕ) → month_value round years month ≤ u
  unfolding month_value
  month_most years u most month =
      blended_most round half (month % months_in_year) _ _ u (omega arith) (most (month / months_in_year)) (most (suc (month / months_in_year)))

pub year_rises : (round : ℕ → ℕ → ℕ) → Monotone round → (p : Purchase) → FallingRates p → (n : ℕ) → n < p.term
    → year_credit round p n ≤ year_credit round p (suc n)
year_rises round mono p falling zero h = rw (year_none round p) (omega arith)
year_rises round mono p falling (suc n) h =
    let own = own_contribution p * p.unit in
    rw (year_within round p (suc n) (omega arith) (omega arith), year_within round p (suc (suc n)) (omega arith) h)
    (mono.keeps own (p.rate (suc n)) own (p.rate (suc (suc n))) (falling.positive (suc n) (omega arith) (omega arith))
    (falling.positive (suc (suc n)) (omega arith) h) (mul-le-mul_left own (falling.falls (suc n) (omega arith) h)))
