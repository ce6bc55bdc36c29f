-- The exact credit over one denominator: each paid month adds the step of a line that never falls, so no difference is cut off at 0.
-- Assumes nothing.
use mathlib.Core.Bool.{Bool, true, false}
use mathlib.Core.List.{List, [], ◌∷◌}
use mathlib.Core.Path.{◌≡◌, ap}
use Prim.Native.Nat.{ℕ, zero, suc, ◌+◌, ◌*◌, ◌-◌, ◌/◌, ◌≤◌, ◌<◌}
use native.Mathlib.Nat.{mul-le-mul_left, le_of_mul-le-mul_right, div-mul_cancel}
use native.Mathlib.Omega.{arith}
use lib.ListN.{length}
use Rattle.common.specs.Calendar.{months_in_year}
use Rattle.years.specs.Years.{Purchase, own_contribution, year_credit, FallingRates, month_numerator}
use Rattle.credit.specs.Months.{sum_over_paid_from}
use Rattle.years.proofs.Years.{year_none, year_within}
use Rattle.distance.specs.Exact.{exact_year, exact_month, exact_from}
use Rattle.distance.proofs.Denominator.{IsOver, none_is, plus_is, minus_is, divided_is, product, product_positive, divides_product}
use Rattle.distance.proofs.Numerator.{numerator_step}

-- one denominator for all years of a table
pub denominator : Purchase → ℕ
denominator p = product p.rate p.term

-- n ÷ d over that denominator, for a d that divides it: nothing is rounded
pub share : Purchase → ℕ → ℕ → ℕ
share p n d = n * (denominator p / d)

-- exact year n over that denominator: the year credit with `share` as its rounding
abbrev pub exact_over : Purchase → ℕ → ℕ
exact_over p = year_credit (share p) p

-- what a paid mark at index i adds, over twelve times it
abbrev pub month_over : Purchase → ℕ → ℕ
month_over p i = exact_over p (suc (i / 12)) - exact_over p (i / 12)

module _ (p : Purchase) (falling : FallingRates p) where
  pub denominator_positive : 0 < denominator p
  unfolding denominator
  denominator_positive = product_positive p.rate p.term falling.positive

  share_exact : (m n : ℕ) → 0 < n → n ≤ p.term → share p m (p.rate n) * p.rate n ≡ m * denominator p
  unfolding share denominator
  share_exact m n a b = omega (arith, ap (λ t. m * t) (div-mul_cancel (p.rate n) (divides_product p.rate p.term n a b)))

  pub over_exact : (n : ℕ) → 0 < n → n ≤ p.term → exact_over p n * p.rate n ≡ own_contribution p * p.unit * denominator p
  over_exact n a b = rw (year_within (share p) p n a b) (share_exact (own_contribution p * p.unit) n a b)

  year_is : (n : ℕ) → n ≤ p.term → IsOver (exact_year p n) (exact_over p n) (denominator p)
  unfolding exact_year
  year_is zero h = rw (year_none (share p) p) (none_is (denominator p))
  year_is (suc n) h =
      record { same = omega (arith, over_exact (suc n) (omega arith) h); positive = falling.positive (suc n) (omega arith) h }

  over_rises : (n : ℕ) → n < p.term → exact_over p n ≤ exact_over p (suc n)
  over_rises zero h = rw (year_none (share p) p) (omega arith)
  over_rises (suc n) h =
      le_of_mul-le-mul_right {k = p.rate (suc n)}
      (omega (
        arith,
        over_exact (suc n) (omega arith) (omega arith),
        over_exact (suc (suc n)) (omega arith) h,
        mul-le-mul_left (exact_over p (suc (suc n))) (falling.falls (suc n) (omega arith) h),
      ))
      (falling.positive (suc n) (omega arith) (omega arith))

  -- the exact years never fall, so every difference that the exact credit takes is a true one
  pub exact_rises : (n : ℕ) → n < p.term
      → (exact_year p n).num * (exact_year p (suc n)).den ≤ (exact_year p (suc n)).num * (exact_year p n).den
  unfolding exact_year
  exact_rises zero h = omega arith
  exact_rises (suc n) h = mul-le-mul_left (p.unit * own_contribution p) (falling.falls (suc n) (omega arith) h)

  pub over_step : (i : ℕ) → i < months_in_year * p.term → month_numerator (exact_over p) i + month_over p i ≡ month_numerator (exact_over p) (suc i)
  over_step i h = omega (arith, numerator_step (exact_over p) i, over_rises (i / 12) (omega arith))

  pub exact_is : (ps : List Bool) (i : ℕ) → i + length ps ≤ months_in_year * p.term
      → IsOver (exact_from p i ps) (sum_over_paid_from (month_over p) i ps) (12 * denominator p)
  unfolding exact_from exact_month sum_over_paid_from
  exact_is [] i h = none_is (12 * denominator p)
  exact_is (true ∷ ps) i h =
      plus_is (divided_is 12 (omega arith) (minus_is (year_is (suc (i / 12)) (omega arith)) (year_is (i / 12) (omega arith))))
      (exact_is ps (suc i) (omega arith))
  exact_is (false ∷ ps) i h = exact_is ps (suc i) (omega arith)
