-- `case_line::settle_shape` meets its contract.
-- Assumes nothing.
use Rattle.std.proofs.Common.{sym, ◌∙◌, arith}
use Rattle.case_line.proofs.Shapes.{whole_line, wrong_marks}
use Rattle.case_line.proofs.settle_shape.Goals as goal

pub returns-in_err-read_digits : goal.returns-in_err-read_digits
returns-in_err-read_digits c =
    let e = sym c.read_fields.ensures ∙ c.in_ok-case.was in
    rw c.from_residual-in_err-read_digits.ensures
    (sym (whole_line c.args.line.now (omega arith) (omega arith) e ∙ wrong_marks c.in_ok-case.case _ c.in_err-read_digits.ensures))
