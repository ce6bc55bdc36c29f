-- `rounding::half_even` meets its contract: the rest, counted for one more above an odd number, is compared with what is missing to the divisor.
-- Assumes nothing.
use mathlib.Core.Path.{◌≡◌, refl, sym}
use Prim.Native.Nat.{ℕ, ◌+◌, ◌*◌, ◌-◌, ◌%◌, ◌≤◌, ◌<◌, ◌^◌}
use native.Mathlib.Nat.{div-add-mod'}
use native.Mathlib.Omega.{arith}
use Rattle.rounding.specs.HalfEven.{half_even}
use Rattle.rounding.proofs.Division.{rest_low, room}
use Rattle.rounding.proofs.HalfEven.{half_even_low, half_even_high, half_even_none}
use Rattle.rounding.proofs.half_even.Goals as goal

none : (n d : ℕ) → d ≡ 0 → 0 ≡ half_even n d
none n d e = rw e (sym (half_even_none n))

-- n divided by d is q with the rest r, and w is 1 where q is odd
module _ (n d q r w : ℕ) (e : q * d + r ≡ n) (l : r < d) (odd : w ≡ q % 2) where
  down : r + w ≤ d - r → q ≡ half_even n d
  down h = half_even_low n d q r e l (omega arith)

  up : d - r < r + w → q + 1 ≡ half_even n d
  up h = half_even_high n d q r e l (omega arith)

  room_up : (k : ℕ) → d - r < r + w → n < 2 * k → 1 < k → q + 1 < 2 * k
  room_up k h = room n d q r k e l (omega arith)

pub returns-then-d-eq0 : goal.returns-then-d-eq0
returns-then-d-eq0 c = none _ _ c.if-d-eq0.true

pub overflow_add-rest : goal.overflow_add-rest
overflow_add-rest c =
    let a = c.args in
    omega (arith, rest_low a.n a.d c.if-d-eq0.false)

pub overflow_sub-d : goal.overflow_sub-d
overflow_sub-d c =
    let a = c.args in
    omega (arith, rest_low a.n a.d c.if-d-eq0.false)

pub returns-then-rest-odd : goal.returns-then-rest-odd
returns-then-rest-odd c = down _ _ _ _ _ (div-add-mod' _ _) (rest_low _ _ c.if-d-eq0.false) refl c.if-rest-odd.true

pub overflow_add-result : goal.overflow_add-result
overflow_add-result c =
    record {
      fits =
          room_up _ _ _ _ _ (div-add-mod' _ _) (rest_low _ _ c.if-d-eq0.false) refl (2 ^ 63) c.if-rest-odd.false (omega arith) (omega arith);
    }

pub returns-else-rest-odd : goal.returns-else-rest-odd
returns-else-rest-odd c = up _ _ _ _ _ (div-add-mod' _ _) (rest_low _ _ c.if-d-eq0.false) refl c.if-rest-odd.false
