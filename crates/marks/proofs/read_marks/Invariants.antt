-- `marks::read_marks` meets its contract. The loop's invariant: `r` is the reading of the marks before `rest`.
-- Assumes nothing.
use Prim.Native.Nat.{◌≤◌}
use lib.ListN.{length}
use Rattle.marks.specs.Kind.{kind_of, mark_limit}
use Rattle.marks.specs.Reading.{as_read}
use Rattle.marks.proofs.Runs.{ReadBefore}
use Rattle.marks.proofs.read_marks.Given as goal

abbrev pub invariant-loop-mark : goal.invariant-loop-mark
invariant-loop-mark l =
    (length l.marks ≤ mark_limit l.term) × ReadBefore (kind_of l.term) l.open_months l.marks l.rest (as_read l.r)

abbrev pub decreases-loop-mark : goal.decreases-loop-mark
decreases-loop-mark l = length l.rest
