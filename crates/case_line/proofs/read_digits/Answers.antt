-- `case_line::read_digits` meets its contract. The invariant: what is passed is digits, and their numbers are written.
-- Assumes nothing.
use Rattle.case_line.proofs.Marks.{mark_more, marks_end}
use Rattle.case_line.proofs.read_digits.Goals as goal

pub loop-i-preserved : goal.loop-i-preserved
loop-i-preserved c =
    let digit = c.if-not-is_ascii_digit.ensures.cases in
    mark_more _ _ _ _ c.loop-i.invariant c.loop-i-test.true c.requires digit.0 digit.1

pub returns : goal.returns
returns c = marks_end _ _ _ _ c.loop-i.invariant c.loop-i-test.false
