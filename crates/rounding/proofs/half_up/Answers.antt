-- `rounding::half_up` meets its contract: 0 below half of the divisor, from there on 1 and one more for each further divisor.
-- Assumes nothing.
use mathlib.Core.Path.{◌≡◌, refl, sym}
use Prim.Native.Nat.{ℕ, ◌+◌, ◌*◌, ◌-◌, ◌/◌}
use native.Mathlib.Nat.{div-zero, div-le_self}
use native.Mathlib.Omega.{arith}
use Rattle.rounding.specs.Nearest.{half_up}
use Rattle.rounding.proofs.HalfUp.{half_up_zero, half_up_further}
use Rattle.rounding.proofs.half_up.Goals as goal
use Rattle.rounding.proofs.half_up.Goals.{then-d-eq0-via-then-d-eq0, then-d-eq0-via-else-d-eq0+then-n-half}

none : (n d : ℕ) → d ≡ 0 → 0 ≡ half_up n d
unfolding half_up
none n d e = rw e (sym (div-zero (2 * n + 0)))

pub returns-then-d-eq0 : goal.returns-then-d-eq0
returns-then-d-eq0 c =
    elim c.then-d-eq0.branch [
      | then-d-eq0-via-then-d-eq0 w ↦ none _ _ w.if-d-eq0.true
      | then-d-eq0-via-else-d-eq0+then-n-half w ↦ half_up_zero _ _ _ refl w.if-n-half.true
    ]

pub overflow_add-result : goal.overflow_add-result
overflow_add-result c =
    let n = c.args.n in
    let d = c.args.d in
    omega (arith, div-le_self (n - (d - d / 2)) d, c.if-n-half.false, c.if-d-eq0.false)

pub returns : goal.returns
returns c = half_up_further _ _ _ (omega (arith, c.if-d-eq0.false)) refl c.if-n-half.false
