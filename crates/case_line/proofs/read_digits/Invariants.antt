-- `case_line::read_digits` meets its contract. The invariant: what is passed is digits, and their numbers are written.
-- Assumes nothing.
use Rattle.case_line.proofs.Marks.{DigitsPassed}
use Rattle.case_line.proofs.read_digits.Given as goal

abbrev pub invariant-loop-i : goal.invariant-loop-i
invariant-loop-i l = DigitsPassed l.digits l.initial.marks l.marks l.i
