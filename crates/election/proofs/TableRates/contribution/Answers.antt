-- `election::TableRates::contribution` meets its contract: at most twenty-six times £250 at a bounded rate fit, and the upper table counts with odd
-- months alone.
-- Assumes nothing.
use mathlib.Core.Path.{sym, ap, ◌∙◌}
use Prim.Native.Nat.{ℕ, ◌*◌, ◌/◌, ◌≤◌, ◌<◌, ◌^◌}
use native.Mathlib.Nat.{mul-le-mul}
use native.Mathlib.Omega.{arith}
use Rattle.scheme.specs.Scheme.{step_pounds, cap_pounds}
use Rattle.scheme.specs.Bounds.{most_lump_sum_rate, most_steps}
use Rattle.election.proofs.Laws.{table_rate_most, upper_rate_is}
use Rattle.election.proofs.TableRates.contribution.Goals as goal

fits : (amount rate : ℕ) → amount ≤ cap_pounds → rate ≤ most_lump_sum_rate → amount / step_pounds * rate < 2 ^ 32
fits amount rate p q =
    omega (arith, mul-le-mul {n₁ = amount / step_pounds} {m₁ = rate} {n₂ = most_steps} {m₂ = most_lump_sum_rate} (omega arith) q)

pub blend-requires : goal.blend-requires
blend-requires c =
    let t = c.args.t in
    let p = c.requires in
    let upper = upper_rate_is t c.in-Some.rate (sym (ap (λ r. r.upper) p.1) ∙ c.in-Some.is) in (
      rw (c.of_units-own.ensures, c.units-units.ensures, p.1) (fits t.amount _ p.0 (table_rate_most t t.pnpa_years)),
      rw (c.of_units.ensures, c.units-units.ensures, upper.1) (fits t.amount _ p.0 (table_rate_most t _)),
    )
