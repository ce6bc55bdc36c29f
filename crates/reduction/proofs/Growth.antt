-- Up to 45 years the power is at most that of 45 and lies within 2 billionths of the exact one: a test computed over all those years,
-- carried to each. So it lies within the 32 of L5.
-- Assumes nothing.
use mathlib.Core.List.{List, [], ◌∷◌}
use mathlib.Core.Path.{◌≡◌}
use Prim.Native.Nat.{ℕ, ◌+◌, ◌*◌, ◌≤◌}
use native.Mathlib.Nat.{one-le-pow}
use native.Mathlib.Numerals.{add-one}
use native.Mathlib.Omega.{arith}
use lib.Dec.{T}
use Rattle.common.proofs.Computed.{Comparison, always, AllTrue, compare, compared, all, all_at}
use Rattle.rounding.specs.Nearest.{half_up}
use Rattle.reduction.specs.Power.{power_of, power_num, power_den, NearPower, PowerDistance}
use Rattle.reduction.proofs.Near.{near_wider}

-- the power of 45 years
abbrev pub most_power : ℕ
most_power = 1954213015

-- no power is more; each is near from above and from below
abbrev comparisons : ℕ → List Comparison
comparisons n =
    always (power_of n) most_power
    ∷ always (power_of n * power_den n) (power_num n + 2 * power_den n)
    ∷ always (power_num n) ((power_of n + 2) * power_den n)
    ∷ []

years_pass : T (all (λ (n : ℕ). compare (comparisons n)) 0 46)
unfolding power_of half_up
years_pass = tt

-- one year more
pub power_more : (n p : ℕ) → p ≡ power_of n → half_up (p * 1015) 1000 ≡ power_of (n + 1)
unfolding power_of
power_more n p e = rw (e, add-one)

module _ (n : ℕ) (few : n ≤ 45) where
  facts : AllTrue (comparisons n)
  facts = compared (comparisons n) (all_at (λ (n : ℕ). compare (comparisons n)) 0 46 years_pass n (omega arith) (omega arith))

  pub power_most : power_of n ≤ most_power
  power_most = facts.0

  pub power_close : NearPower 2 n (power_of n)
  power_close = record { positive = one-le-pow n 1000 (omega arith); above = facts.1.0; below = facts.1.1.0 }

pub power_distance : PowerDistance
power_distance =
    record {
      near = λ n few. near_wider (omega arith) (power_close n few);
      close = λ n few. near_wider (omega arith) (power_close n few);
    }
