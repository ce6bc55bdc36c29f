-- `records::post` meets its contract: a mark that is taken stands at the count; a refusal writes nothing.
-- Assumes nothing.
use Rattle.std.proofs.Common.{arith, ◌≡◌, length, sym, ap}
use Rattle.std.proofs.lemmas.Result.{err_from_is_err_and}
use Rattle.refusals.proofs.Numbers.{refusal_positive}
use Rattle.scheme.specs.Scheme.{most_marks}
use Rattle.refusals.specs.Places.{RefusedAt}
use Rattle.records.specs.Post.{post_of}
use Rattle.records.proofs.Posting.{taken, success_record, refusal_record}
use Rattle.records.proofs.post.Goals as goal

pub returns-in_err-check_posting : goal.returns-in_err-check_posting
returns-in_err-check_posting c =
    let p = err_from_is_err_and c.from_residual.result c.from_residual.ensures.1 in
    let e = c.in_err-check_posting.field-0.0 in
    let is = c.in_err-check_posting.ensures in
    let some : (post_of c.args.c.now c.args.mark).refusal ≡ 0 → ⊥ =
    λ z. omega (arith, refusal_positive e.refusal, ap (λ (p : RefusedAt). p.refusal) is, z) in
    rw (p.1, p.2) (is, sym (refusal_record c.args.c.now c.args.mark some))

pub bounds-c-c : goal.bounds-c-c
bounds-c-c c =
    let full : length c.args.c.now.marks ≡ most_marks = omega arith in
    let none = sym (ap (λ (p : RefusedAt). p.refusal) c.in_ok-check_posting.ensures) in
    (taken c.args.c.now c.args.mark full none).room

pub overflow_add-c : goal.overflow_add-c
overflow_add-c c =
    let full : length c.args.c.now.marks ≡ most_marks = omega arith in
    let none = sym (ap (λ (p : RefusedAt). p.refusal) c.in_ok-check_posting.ensures) in
    omega (arith, (taken c.args.c.now c.args.mark full none).room)

pub returns : goal.returns
returns c =
    let none = sym (ap (λ (p : RefusedAt). p.refusal) c.in_ok-check_posting.ensures) in
    (c.in_ok-check_posting.ensures, success_record c.args.c.now c.args.mark none)
