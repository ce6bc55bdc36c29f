-- Division with a rest, as half to even uses it.
-- Assumes nothing.
use mathlib.Core.Path.{◌≡◌}
use Prim.Native.Nat.{ℕ, ◌+◌, ◌*◌, ◌-◌, ◌%◌, ◌≤◌, ◌<◌}
use native.Mathlib.Nat.{mod-lt, mul-le-mul_left}
use native.Mathlib.Omega.{arith}

-- the rest is below the divisor
pub rest_low : (n d : ℕ) → (d ≡ 0 → ⊥) → n % d < d
rest_low n d h = mod-lt n (omega arith)

-- where the rest is half of the divisor or more, the divisor is above 1, so there is room for one more than the whole part
pub room : (n d q r k : ℕ) → q * d + r ≡ n → r < d → d - r ≤ r → n < 2 * k → 1 < k → q + 1 < 2 * k
room n d q r k e l h small one =
    let two : 2 ≤ d = omega arith in
    omega (arith, mul-le-mul_left q two)
