-- The roundings of a pay-off: how small and how large an increased pension and its cost can be.
-- Assumes nothing.
use mathlib.Core.Path.{◌≡◌, ap}
use Prim.Native.Nat.{ℕ, zero, suc, ◌*◌, ◌-◌, ◌≤◌, ◌<◌, ◌^◌}
use native.Mathlib.Nat.{mul-le-mul, mul-le-mul_left}
use native.Mathlib.Omega.{arith}
use Rattle.common.specs.Calendar.{months_in_year}
use Rattle.rounding.specs.Nearest.{half_up, twelfths}
use Rattle.rounding.proofs.HalfUp.{half_up_within_half}
use Rattle.rounding.proofs.Laws.{weighted_most, weighted_least, round_most, round_least}
use Rattle.scheme.specs.Scheme.{step_pence, cap_pence}
use Rattle.scheme.specs.Bounds.{most_lump_sum_rate}
use Rattle.pay_off.specs.Cost.{increased_by, cost_of}
use Rattle.pay_off.specs.PayOff.{least_increase, most_increase}
use Rattle.pay_off.specs.Bounds.{most_increased, most_cost}

-- the quotient's own bounds hold of what it rounds to
at_most : (n d q : ℕ) → 0 < d → n ≤ q * d → half_up n d ≤ q
at_most = round_most half_up half_up_within_half

at_least : (n d q : ℕ) → 0 < d → q * d ≤ n → q ≤ half_up n d
at_least = round_least half_up half_up_within_half

-- an increase of 1,000 thousandths or more takes nothing away
pub increased_least : (increase p : ℕ) → least_increase ≤ increase → p ≤ increased_by increase p
unfolding increased_by
increased_least increase p h = at_least (p * increase) 1000 p (omega arith) (mul-le-mul_left p h)

-- the cap at the greatest increase
pub increased_most : (increase p : ℕ) → increase ≤ most_increase → p ≤ cap_pence → increased_by increase p ≤ most_increased
unfolding increased_by
increased_most increase p h few =
    at_most (p * increase) 1000 most_increased (omega arith) (omega (arith, mul-le-mul {n₁ = p} {m₁ = increase} {n₂ = cap_pence} {m₂ = most_increase} few h))

-- nothing stays nothing
pub increased_none : (increase : ℕ) → increased_by increase 0 ≡ 0
unfolding increased_by
increased_none increase = omega (arith, at_most (0 * increase) 1000 0 (omega arith) (omega arith))

-- the exact rate lies between bounds of both, where the upper one counts with odd months only
twelfths_least : (m lower upper least : ℕ) → m ≤ 12 → least ≤ lower → (0 < m → least ≤ upper) → least * 12 ≤ twelfths m lower upper
twelfths_least zero lower upper least h p q = omega arith
twelfths_least (suc m) lower upper least h p q = weighted_least (suc m) lower upper least h p (q (omega arith))

module _ (increased lower upper m : ℕ) (months : m ≤ 12) where
  -- at rates of £250 or more for £250 a year, a pension costs no less than itself
  pub cost_least : step_pence ≤ lower → (0 < m → step_pence ≤ upper) → increased ≤ cost_of increased lower upper m
  unfolding cost_of
  cost_least p q =
      at_least (increased * twelfths m lower upper) (months_in_year * step_pence) increased (omega arith)
      (omega (arith, mul-le-mul_left increased (twelfths_least m lower upper step_pence months p q)))

  -- what the greatest increased pension costs at the greatest lump sum
  pub greatest_cost : increased ≤ most_increased → lower ≤ most_lump_sum_rate → upper ≤ most_lump_sum_rate → cost_of increased lower upper m ≤ most_cost
  unfolding cost_of
  greatest_cost few p q =
      at_most (increased * twelfths m lower upper) (months_in_year * step_pence) most_cost (omega arith)
      (omega (arith, mul-le-mul {n₁ = increased} {m₁ = twelfths m lower upper} {n₂ = most_increased} {m₂ = most_lump_sum_rate * 12} few (weighted_most m lower upper most_lump_sum_rate months p q)))

  -- any two 32-bit rates leave room for the product
  pub product_small : increased < 2 ^ 28 → lower < 2 ^ 32 → upper < 2 ^ 32 → increased * twelfths m lower upper < 2 ^ 64
  product_small few p q =
      omega
      (arith, mul-le-mul {n₁ = increased} {m₁ = twelfths m lower upper} {n₂ = 2 ^ 28 - 1} {m₂ = (2 ^ 32 - 1) * 12} (omega arith) (weighted_most m lower upper (2 ^ 32 - 1) months (omega arith) (omega arith)))

-- nothing costs nothing
pub cost_none : (lower upper m : ℕ) → cost_of 0 lower upper m ≡ 0
unfolding cost_of
cost_none lower upper m = omega (arith, at_most (0 * twelfths m lower upper) (months_in_year * step_pence) 0 (omega arith) (omega arith))

-- at a whole pension age the upper rate does not matter
pub cost_upper : (increased lower a b m : ℕ) → ((m ≡ 0 → ⊥) → a ≡ b) → cost_of increased lower a m ≡ cost_of increased lower b m
unfolding cost_of
cost_upper increased lower a b zero h =
    let same : twelfths 0 lower a ≡ twelfths 0 lower b = omega arith in
    ap (λ (n : ℕ). half_up (increased * n) (months_in_year * step_pence)) same
cost_upper increased lower a b (suc m) h = ap (λ (u : ℕ). cost_of increased lower u (suc m)) (h (λ z. omega arith))
