-- The cap decision is the greatest multiple of £250 that fits.
-- Assumes nothing.
use Prim.Native.Nat.{ℕ}
use native.Mathlib.Omega.{arith}
use Rattle.quotes.specs.Cap.{cap_decision_of, GreatestUnderCap}

pub cap_decision_greatest : (existing : ℕ) → GreatestUnderCap existing (cap_decision_of existing)
unfolding cap_decision_of
cap_decision_greatest existing =
    record {
      multiple = omega arith;
      fits = λ h. omega arith;
      none = λ h. omega arith;
      greatest = λ x whole h. omega arith;
    }
