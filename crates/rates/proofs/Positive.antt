-- A proof by whether a number is above 0.
-- Assumes nothing.
use Prim.Native.Nat.{ℕ, zero, suc, ◌<◌}
use native.Mathlib.Omega.{arith}

-- what holds of 0, and of n where n is above 0, holds of n
pub by_positive : (P : ℕ → Type 0) (n : ℕ) → P 0 → (0 < n → P n) → P n
by_positive P zero none some = none
by_positive P (suc n) none some = some (omega arith)
