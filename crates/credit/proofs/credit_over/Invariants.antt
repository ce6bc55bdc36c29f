-- `credit::credit_over` meets its contract. The loop's invariant: what the runs before month i earned and what the runs from there on
-- earn are together the credit, and no month earned 2 ^ 32 pence. Assumes nothing.
use mathlib.Core.Path.{◌≡◌}
use Prim.Native.Nat.{◌+◌, ◌*◌, ◌-◌, ◌≤◌, ◌^◌}
use lib.ListN.{length}
use Rattle.rounding.specs.Nearest.{nearest}
use Rattle.years.specs.Years.{month_value}
use Rattle.credit.specs.Credit.{credit_over}
use Rattle.credit.proofs.ByRuns.{sum_from}
use Rattle.credit.proofs.credit_over.Given as goal

abbrev pub invariant-loop-i : goal.invariant-loop-i
invariant-loop-i l =
    (l.i ≤ length l.marks) × (l.sum.0 ≤ l.i * 2 ^ 32) × (l.sum.0 + sum_from (month_value nearest l.years) l.marks l.i ≡ credit_over nearest l.years l.marks)

abbrev pub decreases-loop-i : goal.decreases-loop-i
decreases-loop-i l = length l.marks - l.i
