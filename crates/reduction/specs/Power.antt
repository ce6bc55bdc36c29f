-- "The reduction buy-out limit", L5: 1.015 to a number of years, kept in billionths.
-- Assumes nothing.
use Rattle.std.specs.Prelude.{ℕ, zero, suc, ◌*◌, ◌^◌, ◌≤◌}
use Rattle.rounding.specs.Nearest.{half_up}
use Rattle.reduction.specs.Near.{Near}

-- L5: the billionths in 1
abbrev pub billion : ℕ
billion = 1000000000

-- L5: each year the power before is multiplied by 1,015 and divided by 1,000, to the nearest, a half going up
unfoldable pub power_of : (years : ℕ) → ℕ
power_of zero = billion
power_of (suc n) = half_up (power_of n * 1015) 1000

-- L5: the exact power in billionths, a fraction: 1.015 is 1015 ÷ 1000, here to the n-th power
abbrev pub power_num : ℕ → ℕ
power_num n = billion * 1015 ^ n

abbrev pub power_den : ℕ → ℕ
power_den n = 1000 ^ n

-- L5: p is within s billionths of it
abbrev pub NearPower : (s n p : ℕ) → Type 0
NearPower s n p = Near s p (power_num n) (power_den n)

-- L5: up to 45 years the power is within 32 billionths of the exact one, and even within 2
pub record PowerDistance : Type 0 where
  pub near : (n : ℕ) → n ≤ 45 → NearPower 32 n (power_of n)
  pub close : (n : ℕ) → n ≤ 45 → NearPower 2 n (power_of n)
