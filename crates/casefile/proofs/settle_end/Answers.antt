-- `casefile::settle_end` meets its contract.
-- Assumes nothing.
use Rattle.std.proofs.Common.{arith, ap, sym, ◌∙◌, Some, length}
use Rattle.case_line.specs.Line.{line_of}
use Rattle.casefile.proofs.Last.{no_last_line, last_line}
use Rattle.casefile.proofs.settle_end.Goals as goal

pub returns-in-empty : goal.returns-in-empty
returns-in-empty c = no_last_line _ (omega (arith, ap length (sym c.bytes.ensures)))

pub returns-in_default : goal.returns-in_default
returns-in_default c =
    ap Some (c.settle_line.ensures ∙ ap line_of c.bytes.ensures) ∙ last_line _ (omega (arith, ap length (sym c.bytes.ensures)))
