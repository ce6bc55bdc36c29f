-- `rounding::twelfths` meets its contract: each product of two 32-bit numbers fits, and so does the weighted sum.
-- Assumes nothing.
use mathlib.Core.Path.{◌≡◌, refl, ap}
use Prim.Native.Nat.{ℕ, ◌+◌, ◌*◌, ◌-◌, ◌≤◌, ◌<◌, ◌^◌}
use native.Mathlib.Nat.{mul-le-mul}
use native.Mathlib.Decide.{dec_le}
use native.Mathlib.Omega.{arith}
use Rattle.common.proofs.Product.{product_fits}
use Rattle.rounding.proofs.twelfths.Goals as goal

sum_fits : (a x b y : ℕ) → a < 16 → x < 2 ^ 32 → b < 16 → y < 2 ^ 32 → a * x + b * y < 2 ^ 64
sum_fits a x b y al xl bl yl =
    omega (
      arith,
      mul-le-mul {n₁ = a} {m₁ = x} {n₂ = 15} {m₂ = 2 ^ 32 - 1} (omega arith) (omega arith),
      mul-le-mul {n₁ = b} {m₁ = y} {n₂ = 15} {m₂ = 2 ^ 32 - 1} (omega arith) (omega arith),
    )

-- past a year nothing is left of the first weight
whole_fits : (m x b y : ℕ) → x < 2 ^ 32 → b ≡ m → b < 2 ^ 32 → y < 2 ^ 32 → (12 - m) * x + b * y < 2 ^ 64
whole_fits m x b y xl e bl yl = go (dec_le m 12)
  where
    go : Dec (m ≤ 12) → (12 - m) * x + b * y < 2 ^ 64
    go (yes h) = sum_fits (12 - m) x b y (omega arith) xl (omega arith) yl
    go (no h) =
        let z : 12 - m ≡ 0 = omega arith in
        omega (arith, ap (λ t. t * x) z, product_fits b y bl yl)

pub overflow_add-result : goal.overflow_add-result
overflow_add-result c =
    let a = c.args in
    rw c.saturating_sub-rest.ensures (record { fits = whole_fits a.m a.lo a.m a.hi (omega arith) refl (omega arith) (omega arith) })
