-- `records::check_record` meets its contract: the tests in turn, then Settle of the marks in use.
-- Assumes nothing.
use Rattle.std.proofs.Common.{arith, ◌≡◌, sym, ap, ◌∙◌, length}
use Rattle.refusals.proofs.Numbers.{refusal_positive}
use Rattle.scheme.specs.Scheme.{most_marks}
use Rattle.settlement.specs.Settle.{SettleNumbers, settle_of}
use Rattle.records.specs.Check.{credited}
use Rattle.records.proofs.Bad.{refused_bad, count_bad, unused_bad, bad_check_lem, credited_check}
use Rattle.records.proofs.check_record.Goals as goal

pub returns-in_default : goal.returns-in_default
returns-in_default c =
    let full : length c.args.c.marks ≡ most_marks = omega arith in
    bad_check_lem c.args.c (count_bad c.args.c (omega (arith, c.in_default.ensures.cases)))

pub returns-then-not-all_zero : goal.returns-then-not-all_zero
returns-then-not-all_zero c =
    let parts = c.in-Some.ensures.cases in
    bad_check_lem c.args.c (unused_bad c.args.c (rw parts.2 at (sym c.if-not-all_zero.ensures)))

pub returns-in-Err : goal.returns-in-Err
returns-in-Err c =
    let parts = c.in-Some.ensures.cases in
    let is = c.in-Err.ensures.is ∙ ap (settle_of c.args.c.terms) parts.1 in
    bad_check_lem c.args.c
    (refused_bad c.args.c (λ z. omega (arith, refusal_positive c.in-Err.field-0.refusal, ap (λ (n : SettleNumbers). n.refusal) is, z)))

pub returns-in-Ok : goal.returns-in-Ok
returns-in-Ok c =
    let parts = c.in-Some.ensures.cases in
    let is = c.in-Ok.ensures.is ∙ ap (settle_of c.args.c.terms) parts.1 in
    let full : length c.args.c.marks ≡ most_marks = omega arith in
    ap (λ (n : SettleNumbers). credited n.credit) is
    ∙ credited_check c.args.c (
    record {
      settled = sym (ap (λ (n : SettleNumbers). n.refusal) is);
      few = omega (arith, parts.0);
      zeros = rw parts.2 at (sym c.if-not-all_zero.ensures);
    })
