-- "Marks and status", M7: the numbers of the statuses, 0 to 6.
-- Assumes nothing.
use Rattle.std.specs.Prelude.{ℕ}
use Rattle.marks.specs.declared.statuses.Status.{Status}
use Rattle.marks.specs.declared.statuses.Status.TheVariants.{NoMarksYet, Paying, InGap, Complete, Ceased, Refunded, LumpSum}

-- M7: of what a contract can be
abbrev pub status_number : Status → ℕ
status_number NoMarksYet = 0
status_number Paying = 1
status_number InGap = 2
status_number Complete = 3
status_number Ceased = 4
status_number Refunded = 5
status_number LumpSum = 6
