-- `marks::read_marks` meets its contract. The loop's invariant: `r` is the reading of the marks before `rest`.
-- Assumes nothing.
use Rattle.std.proofs.Common.{rules, ◌≡◌, refl}
use native.Mathlib.Omega.{arith}
use borrow.Author.Tests.{le-ltb}
use Rattle.std.proofs.lemmas.List.{take_rest}
use Rattle.refusals.proofs.Numbers.{refusal_positive}
use Rattle.paid_runs.specs.PaidRun.{paid_run}
use Rattle.paid_runs.proofs.PaidRun.{run_inside}
use Rattle.marks.specs.Reading.{marks_reading}
use Rattle.marks.proofs.Runs.{none_read, one_read, run_passed, refused_read, all_read}
use Rattle.marks.proofs.read_marks.Goals as goal

pub loop-mark-init : goal.loop-mark-init
loop-mark-init c = (search rules, rw (c.start-r.ensures, c.of.ensures) (none_read _ _ c.args.marks.now))

pub returns-in_err-r : goal.returns-in_err-r
unfolding marks_reading
returns-in_err-r c =
    let b = rw c.in-Some.ensures.cases.0 at c.loop-mark.invariant.1 in
    let e = c.in_err-r.field-0.0 in
    let is = refused_read _ _ c.args.marks.now (omega arith) _ _ _ b _ c.in_err-r.ensures (refusal_positive e.refusal) in
    rw (le-ltb _ _ c.loop-mark.invariant.0, ← is) (search rules)

pub paid_on-r-requires : goal.paid_on-r-requires
paid_on-r-requires c =
    let b = rw c.in-Some.ensures.cases.0 at c.loop-mark.invariant.1 in
    let a = one_read _ _ c.args.marks.now (omega arith) _ _ _ b _ c.in_ok-r.ensures refl in
    omega (arith, a.count, a.within, c.run_end-run.ensures, run_inside c.in-Some.later.now)

pub loop-mark-preserved-then-mark-eq1 : goal.loop-mark-preserved-then-mark-eq1
loop-mark-preserved-then-mark-eq1 c =
    let b = rw c.in-Some.ensures.cases.0 at c.loop-mark.invariant.1 in
    let run : c.run_end-run.result ≡ paid_run c.in-Some.later.now = omega (arith, c.run_end-run.ensures) in
    let a = run_passed _ _ c.args.marks.now (omega arith) _ _ _ b _ c.in_ok-r.ensures refl c.if-mark-eq1.true in
    (c.loop-mark.invariant.0, rw (c.paid_on-r.ensures, run, take_rest) a)

pub loop-mark-preserved : goal.loop-mark-preserved
loop-mark-preserved c =
    let b = rw c.in-Some.ensures.cases.0 at c.loop-mark.invariant.1 in
    (c.loop-mark.invariant.0, one_read _ _ c.args.marks.now (omega arith) _ _ _ b _ c.in_ok-r.ensures refl)

pub returns : goal.returns
unfolding marks_reading
returns c =
    rw (le-ltb _ _ c.loop-mark.invariant.0) (all_read _ _ c.args.marks.now _ _ c.in_default.ensures.cases c.loop-mark.invariant.1)
