-- `schedule::fill_lump_sum` meets its contract. After i marks i entries are written.
-- Assumes nothing.
use mathlib.Core.Path.{sym, ap, ◌∙◌}
use Prim.Native.Nat.{◌<◌}
use native.Mathlib.Omega.{arith}
use lib.ListN.{length}
use Rattle.money.specs.declared.PensionPence.{PensionPence}
use Rattle.common.proofs.Written.{written_none, written_more}
use Rattle.examination.proofs.Laws.{settled_terms}
use Rattle.schedule.specs.Schedule.{entry_of}
use Rattle.schedule.proofs.Laws.{lump_sum_entry, all_written}
use Rattle.schedule.proofs.fill_lump_sum.Goals as goal

pub overflow_cast-amount : goal.overflow_cast-amount
overflow_cast-amount c =
    omega (arith, ap (λ (p : PensionPence). p.0) c.of_pounds-amount.ensures, (settled_terms c.args.t c.args.marks.now c.requires.none_refused).under_cap)

pub loop-i-init : goal.loop-i-init
loop-i-init c =
    (ap (λ (p : PensionPence). p.0) c.of_pounds-amount.ensures, written_none (entry_of c.args.t c.args.marks.now) c.args.out.now)

pub loop-i-preserved : goal.loop-i-preserved
loop-i-preserved c =
    let l = c.loop-i in
    let inside : l.i < length c.args.out.now = omega (arith, c.requires.marks_in_bounds, c.loop-i-test.true) in
    let held = rw l.invariant.0 at c.lump_sum_held.ensures in (
      l.invariant.0,
      written_more _ _ _ _ _ inside l.invariant.1
          (held ∙ sym (lump_sum_entry c.args.t c.args.marks.now l.i c.requires.lump_sum c.requires.none_refused c.loop-i-test.true)),
    )

pub returns : goal.returns
returns c =
    let l = c.loop-i in
    all_written _ c.args.marks.now _ _ c.requires.marks_in_bounds (omega (arith, c.loop-i-test.false, l.auto.i-end)) l.invariant.1
