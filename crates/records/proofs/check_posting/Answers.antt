-- `records::check_posting` meets its contract: a bad record, then no month left, then the mark after those in use.
-- Assumes nothing.
use Rattle.std.proofs.Common.{arith, ◌≡◌, length, sym, ap, ◌∙◌}
use Rattle.std.proofs.lemmas.Result.{err_from_is_err_and}
use Rattle.refusals.proofs.Numbers.{refusal_positive}
use Rattle.scheme.specs.Scheme.{most_marks}
use Rattle.marks.specs.Reading.{ReadSoFar, count_up, step_by}
use Rattle.records.proofs.Bad.{not_bad, check_refused, check_passed}
use Rattle.records.proofs.Posting.{bad_answer, over_answer, read_answer, early_answer}
use Rattle.records.proofs.check_posting.Goals as goal

pub returns-in_err-check_record : goal.returns-in_err-check_record
returns-in_err-check_record c =
    let p = err_from_is_err_and c.from_residual.result c.from_residual.ensures.1 in
    let e = check_refused c.args.c c.in_err-check_record.field-0.0 c.in_err-check_record.ensures in
    rw (p.1, p.2, e.1) (sym (bad_answer c.args.c c.args.mark e.0))

pub returns-then-c-mark_limit : goal.returns-then-c-mark_limit
returns-then-c-mark_limit c =
    let full : length c.args.c.marks ≡ most_marks = omega arith in
    let good = (check_passed c.args.c c.in_ok-check_record.ensures).0 in
    rw c.into.ensures (sym (over_answer c.args.c c.args.mark full good (omega (arith, c.mark_limit.ensures, c.if-c-mark_limit.true))))

pub split_at-requires : goal.split_at-requires
split_at-requires c =
    let full : length c.args.c.marks ≡ most_marks = omega arith in
    omega (arith, (not_bad c.args.c (check_passed c.args.c c.in_ok-check_record.ensures).0).few)

pub returns-in_err-read : goal.returns-in_err-read
returns-in_err-read c =
    let p = err_from_is_err_and c.from_residual-in_err-read.result c.from_residual-in_err-read.ensures.1 in
    let full : length c.args.c.marks ≡ most_marks = omega arith in
    let good = (check_passed c.args.c c.in_ok-check_record.ensures).0 in
    let e = c.in_err-read.field-0.0 in
    rw (p.1, p.2) (early_answer c.args.c c.args.mark full good (omega (arith, c.mark_limit.ensures, c.if-c-mark_limit.false)) _ (rw c.split_at.ensures.front at c.in_err-read.ensures) (refusal_positive e.refusal))

pub returns-in_err-read_mark : goal.returns-in_err-read_mark
returns-in_err-read_mark c =
    let p = err_from_is_err_and c.from_residual-in_err-read_mark.result c.from_residual-in_err-read_mark.ensures.1 in
    let full : length c.args.c.marks ≡ most_marks = omega arith in
    let good = (check_passed c.args.c c.in_ok-check_record.ensures).0 in
    rw (p.1, p.2)
    (read_answer c.args.c c.args.mark full good (omega (arith, c.mark_limit.ensures, c.if-c-mark_limit.false)) _
    (c.in_err-read_mark.ensures ∙ ap (λ (r : ReadSoFar). step_by count_up r c.args.mark) (rw c.split_at.ensures.front at c.in_ok-read.ensures)))

pub returns : goal.returns
returns c =
    let full : length c.args.c.marks ≡ most_marks = omega arith in
    let good = (check_passed c.args.c c.in_ok-check_record.ensures).0 in
    read_answer c.args.c c.args.mark full good (omega (arith, c.mark_limit.ensures, c.if-c-mark_limit.false)) _
    (c.in_ok-read_mark.ensures ∙ ap (λ (r : ReadSoFar). step_by count_up r c.args.mark) (rw c.split_at.ensures.front at c.in_ok-read.ensures))
