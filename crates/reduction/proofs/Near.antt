-- What is near is also near by any larger distance.
-- Assumes nothing.
use Prim.Native.Nat.{ℕ, ◌≤◌}
use native.Mathlib.Nat.{mul-le-mul_right}
use native.Mathlib.Omega.{arith}
use Rattle.reduction.specs.Near.{Near}

pub near_wider : {s t r num den : ℕ} → s ≤ t → Near s r num den → Near t r num den
near_wider {s} {t} {r} {num} {den} h n =
    record {
      positive = n.positive;
      above = omega (arith, n.above, mul-le-mul_right den h);
      below = omega (arith, n.below, mul-le-mul_right den h);
    }
