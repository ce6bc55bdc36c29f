-- `paid_runs::paid_first` meets its contract.
-- Assumes nothing.
use Rattle.std.proofs.Common.{◌+◌, length-drop, arith}
use lib.Seq.{get_or-drop}
use Rattle.paid_runs.proofs.Eight.{past_eight}
use Rattle.paid_runs.proofs.PaidRun.{run_ones, run_inside}
use Rattle.paid_runs.proofs.paid_first.Goals as goal

pub loop-eight-preserved : goal.loop-eight-preserved
loop-eight-preserved c =
    let w = c.loop-eight.invariant in
    let split = c.in-Some.ensures.cases in
    let rest = c.loop-eight.rest.now in
    let eight = past_eight rest c.in-Some.eight.now _ split.0 (omega (arith, split.2)) w.bytes c.from_le_bytes-number.ensures c.if-number-ne-EIGHT_PAID.false in
    record {
      within = omega (arith, split.2, w.within);
      same_end = rw split.1 (omega (arith, eight, w.same_end, length-drop 8 rest, split.2));
      bytes = λ i. rw (split.1, get_or-drop) (w.bytes (8 + i));
    }

pub overflow_add-result : goal.overflow_add-result
overflow_add-result c =
    omega (arith, c.loop-eight.invariant.within, run_ones c.loop-eight.rest.now, c.ones_first.ensures, run_inside c.loop-eight.rest.now)

pub returns : goal.returns
returns c = omega (arith, c.loop-eight.invariant.same_end, c.loop-eight.invariant.within, run_ones c.loop-eight.rest.now, c.ones_first.ensures)
