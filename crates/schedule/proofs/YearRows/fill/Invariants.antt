-- `schedule::YearRows::fill` meets its contract. After i marks the walk is that of the first i marks, and i entries are written.
-- Assumes nothing.
use mathlib.Core.List.{List}
use mathlib.Core.Path.{◌≡◌}
use Prim.Native.Nat.{ℕ}
use lib.ListN.{take}
use Rattle.common.proofs.Written.{Written}
use Rattle.schedule.specs.Schedule.{entry_of}
use Rattle.schedule.specs.Walk.{as_walked, walk_of}
use Rattle.schedule.specs.declared.YearRows.{YearRows}
use Rattle.schedule.specs.declared.Walk.{Walk}
use Rattle.schedule.proofs.YearRows.fill.Given as goal

-- the walk and the list after i marks
pub record Progress (s : YearRows) (marks old out : List ℕ) (w : Walk) (i : ℕ) : Type 0 where
  pub walked : as_walked w ≡ walk_of s (take i marks)
  pub written : Written (entry_of s.election.terms marks) old out i

abbrev pub invariant-loop-i : goal.invariant-loop-i
invariant-loop-i l = Progress l.self l.marks l.initial.out l.out l.w l.i
