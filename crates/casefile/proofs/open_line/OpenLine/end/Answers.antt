-- `OpenLine::end` meets its contract: the bytes of a line that are kept tell as much as all of it.
-- Assumes nothing.
use Rattle.std.proofs.Common.{ap, ◌∙◌}
use Rattle.case_line.specs.Line.{line_of}
use Rattle.casefile.proofs.Chunks.{line_kept}
use Rattle.casefile.proofs.open_line.OpenLine.end.Goals as goal

pub returns-clause-row : goal.returns-clause-row
returns-clause-row c = c.settle_line-row.ensures ∙ ap line_of (c.bytes.ensures ∙ c.keep.ensures) ∙ line_kept _
