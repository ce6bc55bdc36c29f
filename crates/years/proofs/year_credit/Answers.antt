-- `years::year_credit` meets its contract: the rounded quotient is at most 2 ^ 32 - 1, as the quotient is.
-- Assumes nothing.
use mathlib.Core.Path.{◌≡◌, ap}
use Prim.Native.Nat.{ℕ, ◌*◌, ◌-◌, ◌^◌}
use native.Mathlib.Omega.{arith}
use Rattle.rounding.specs.Nearest.{nearest}
use Rattle.rounding.proofs.InForce.{nearest_within_half}
use Rattle.rounding.proofs.Laws.{round_most}
use Rattle.money.specs.Money.{pension}
use Rattle.money.specs.declared.PensionPence.{PensionPence}
use Rattle.years.proofs.year_credit.Goals as goal

bought : (own unit rate : ℕ) (r : PensionPence) → r ≡ pension (nearest (own * unit) rate) → r.0 ≡ nearest (own * unit) rate
bought own unit rate r e = ap (λ (p : PensionPence). p.0) e

pub overflow_cast-result : goal.overflow_cast-result
overflow_cast-result c =
    let a = c.args in
    let pre = c.requires in
    omega (arith, round_most nearest nearest_within_half (a.own.0 * a.unit.0) a.rate (2 ^ 32 - 1) pre.0 pre.1, bought _ _ _ _ c.buys.ensures)
