-- `paid_runs::run_end` meets its contract: a run ends within the marks.
-- Assumes nothing.
use Rattle.std.proofs.Common.{◌≡◌, ◌-◌, length, length-drop, take, drop, List, ℕ, ◌+◌, ◌∙◌, ap, arith}
use lib.Seq.{take-length}
use Rattle.paid_runs.specs.PaidRun.{paid_run}
use Rattle.paid_runs.proofs.PaidRun.{run_ends, run_inside}
use Rattle.paid_runs.proofs.run_end.Goals as goal

whole : (ms : List ℕ) (i : ℕ) → take (length ms - i) (drop i ms) ≡ drop i ms
whole ms i = rw (← length-drop i ms) (take-length (drop i ms))

pub returns-then-from-marks : goal.returns-then-from-marks
returns-then-from-marks c = omega (arith, run_ends c.args.marks.now c.args.from c.if-from-marks.true)

pub overflow_add-result : goal.overflow_add-result
overflow_add-result c =
    let ms = c.args.marks.now in
    let i = c.args.from in
    omega (arith, c.paid_first.ensures ∙ ap paid_run (whole ms i), run_inside (drop i ms), length-drop i ms)

pub returns : goal.returns
returns c = rw (← whole c.args.marks.now c.args.from) (ap (λ n. c.args.from + n) c.paid_first.ensures)
