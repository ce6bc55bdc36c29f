-- `schedule::fill_lump_sum` meets its contract. After i marks i entries are written.
-- Assumes nothing.
use mathlib.Core.Path.{◌≡◌}
use Rattle.common.proofs.Written.{Written}
use Rattle.scheme.specs.Scheme.{pounds_in_pence}
use Rattle.schedule.specs.Schedule.{entry_of}
use Rattle.schedule.proofs.fill_lump_sum.Given as goal

abbrev pub invariant-loop-i : goal.invariant-loop-i
invariant-loop-i l = (l.amount ≡ pounds_in_pence l.fn.t.amount) × Written (entry_of l.fn.t l.marks) l.initial.out l.out l.i
