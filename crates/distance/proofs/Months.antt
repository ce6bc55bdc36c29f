-- The value at a contract month: its numerator goes by the years, and it never falls, so that a credit is the sum of its growth.
-- Assumes nothing.
use mathlib.Core.List.{List}
use mathlib.Core.Path.{◌≡◌, ap, ◌∙◌}
use Prim.Native.Nat.{ℕ, suc, ◌*◌, ◌/◌, ◌%◌, ◌≤◌, ◌<◌}
use native.Mathlib.Nat.{mul-le-mul_right}
use native.Mathlib.Omega.{arith}
use lib.ListN.{length, get_or}
use Rattle.common.specs.Calendar.{months_in_year}
use Rattle.scheme.specs.Scheme.{longest_term}
use Rattle.rounding.specs.Rounding.{WithinHalf, Monotone}
use Rattle.rounding.proofs.Laws.{blended_none}
use Rattle.years.specs.Years.{Purchase, year_credit, year_credits, month_numerator, month_value, FallingRates}
use Rattle.credit.specs.Credit.{credit_over, credit_in}
use Rattle.credit.specs.Months.{growth, sum_over_paid}
use Rattle.years.proofs.Years.{row_year, year_rises}
use Rattle.credit.proofs.Months.{by_months}
use Rattle.distance.proofs.Numerator.{numerator_rises}

module _ (round : ℕ → ℕ → ℕ) (p : Purchase) (short : p.term ≤ longest_term) where
  -- its numerator goes by the years
  numerator_is : (i : ℕ) → month_numerator (λ n. get_or (year_credits round p) n 0) i ≡ month_numerator (year_credit round p) i
  numerator_is i = rw (row_year round p short (i / 12), row_year round p short (suc (i / 12)))

  pub by_numerator : (i : ℕ) → month_value round (year_credits round p) i ≡ round (month_numerator (year_credit round p) i) 12
  unfolding month_value
  by_numerator i = ap (λ (n : ℕ). round n 12) (numerator_is i)

module _ (round : ℕ → ℕ → ℕ) (half : WithinHalf round) (p : Purchase) (short : p.term ≤ longest_term) where
  -- the value at the end of a whole year
  pub month_year : (n : ℕ) → month_value round (year_credits round p) (12 * n) ≡ year_credit round p n
  month_year n =
      let q : 12 * n / 12 ≡ n = omega arith in
      let r : 12 * n % 12 ≡ 0 = omega arith in
      by_numerator round p short (12 * n) ∙ rw (q, r) (blended_none round half (year_credit round p n) (year_credit round p (suc n)))

module _ (round : ℕ → ℕ → ℕ) (mono : Monotone round) (p : Purchase) (short : p.term ≤ longest_term) (falling : FallingRates p) where
  -- the month value never falls within the term
  pub month_rises : (a b : ℕ) → a ≤ b → b ≤ months_in_year * p.term
      → month_value round (year_credits round p) a ≤ month_value round (year_credits round p) b
  month_rises a b h l =
      rw (by_numerator round p short a, by_numerator round p short b)
      (mono.keeps (month_numerator (year_credit round p) a) 12 (month_numerator (year_credit round p) b) 12 (omega arith) (omega arith)
      (mul-le-mul_right 12 (numerator_rises (year_credit round p) p.term (year_rises round mono p falling) a b h l)))

  -- so not from a month to the next
  pub next_rises : (i : ℕ) → i < months_in_year * p.term
      → month_value round (year_credits round p) i ≤ month_value round (year_credits round p) (suc i)
  next_rises i h = month_rises i (suc i) (omega arith) h

  -- the credit is the sum, over the paid months, of the value after the month less the value before it
  pub credit_by_months : (marks : List ℕ) → length marks ≤ months_in_year * p.term
      → credit_in round p marks ≡ sum_over_paid (growth (month_value round (year_credits round p))) marks
  unfolding credit_in credit_over
  credit_by_months marks fits = by_months (month_value round (year_credits round p)) marks (λ i h. next_rises i (omega arith))
