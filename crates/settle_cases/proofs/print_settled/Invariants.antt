-- `settle_cases::print_settled`: the open line is what is kept after the bytes that are gone.
-- Assumes nothing.
use Rattle.std.proofs.Common.{List, ℕ, length, ◌++◌, ◌≡◌}
use Rattle.casefile.specs.declared.open_line.OpenLine.{OpenLine}
use Rattle.settle_cases.specs.HandedOn.{KeptAfter}
use Rattle.settle_cases.proofs.print_settled.Given as goal

-- `rest` is left of what was read, and `line` is open before it, where `before` was open
pub record Kept (before : OpenLine) (read rest : List ℕ) (line : OpenLine) : Type 0 where
  pub gone : List ℕ
  pub whole : gone ++ rest ≡ read
  pub after : KeptAfter before gone line

abbrev pub invariant-loop-rest : goal.invariant-loop-rest
invariant-loop-rest g l = Kept l.initial.line l.read l.rest l.line

abbrev pub decreases-loop-rest : goal.decreases-loop-rest
decreases-loop-rest g l = length l.rest
