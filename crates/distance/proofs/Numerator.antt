-- The numerator of a month's value by any years: its step is the year's, so it never falls where the years never fall.
-- Assumes nothing.
use mathlib.Core.Path.{◌≡◌}
use Prim.Native.Nat.{ℕ, suc, ◌+◌, ◌*◌, ◌-◌, ◌/◌, ◌%◌, ◌≤◌, ◌<◌}
use native.Mathlib.Decide.{dec_lt, le_ind}
use native.Mathlib.Nat.{le_refl}
use native.Mathlib.Omega.{arith}
use Rattle.common.specs.Calendar.{months_in_year}
use Rattle.years.specs.Years.{month_numerator}

pub numerator_step : (f : ℕ → ℕ) (i : ℕ) → month_numerator f (suc i) + f (i / 12) ≡ month_numerator f i + f (suc (i / 12))
numerator_step f i = go (dec_lt (i % 12) 11)
  where
    go : Dec (i % 12 < 11) → month_numerator f (suc i) + f (i / 12) ≡ month_numerator f i + f (suc (i / 12))
    go (yes h) =
        let q : suc i / 12 ≡ i / 12 = omega arith in
        let r : suc i % 12 ≡ suc (i % 12) = omega arith in
        let s : 12 - i % 12 ≡ suc (12 - suc (i % 12)) = omega arith in
        rw (q, r, s) (omega arith)
    go (no h) =
        let q : suc i / 12 ≡ suc (i / 12) = omega arith in
        let r : suc i % 12 ≡ 0 = omega arith in
        let s : i % 12 ≡ 11 = omega arith in
        rw (q, r, s) (omega arith)

pub numerator_rises : (f : ℕ → ℕ) (T : ℕ) → ((n : ℕ) → n < T → f n ≤ f (suc n)) → (a b : ℕ) → a ≤ b → b ≤ months_in_year * T → month_numerator f a ≤ month_numerator f b
numerator_rises f T step a =
    le_ind (λ (b : ℕ). b ≤ months_in_year * T → month_numerator f a ≤ month_numerator f b) (λ l. le_refl (month_numerator f a))
    (λ i h before l. omega (arith, before (omega arith), numerator_step f i, step (i / 12) (omega arith)))
