-- `postings::post_times` meets its contract.
use Rattle.std.proofs.Common.{◌≡◌, ◌<◌, ◌-◌, ◌+◌, arith, sym, ◌∙◌, refl, replicate}
use Rattle.refusals.specs.Places.{refused_in}
use Rattle.records.specs.History.{posted_all}
use Rattle.posting.specs.Postings.{last_answer}
use Rattle.posting.proofs.Posted.{record_after_one, answer_after_one}
use Rattle.posting.proofs.postings.post_times.Goals as goal

pub loop-preserved : goal.loop-preserved
loop-preserved c =
    let w = c.loop in
    let some_left : 0 < c.args.n - w.counter = omega arith in
    let one_less : c.args.n - (w.counter + 1) ≡ c.args.n - w.counter - 1 = omega arith in
    rw (c.post-last.ensures.0, c.post-last.ensures.1, one_less) (
      sym (record_after_one w.c (c.args.n - w.counter) c.args.mark some_left) ∙ w.invariant.0,
      sym (answer_after_one (refused_in w.last) w.c (c.args.n - w.counter) c.args.mark some_left) ∙ w.invariant.1,
    )

pub returns-clause-answer : goal.returns-clause-answer
unfolding last_answer
returns-clause-answer c =
    let none_left : c.args.n - c.loop.counter ≡ 0 = omega arith in
    let of_none : last_answer (refused_in c.loop.last) c.loop.c (replicate (c.args.n - c.loop.counter) c.args.mark) ≡ refused_in c.loop.last = rw none_left refl in
    sym of_none ∙ c.loop.invariant.1

pub returns-clause-record_left : goal.returns-clause-record_left
unfolding posted_all
returns-clause-record_left c =
    let none_left : c.args.n - c.loop.counter ≡ 0 = omega arith in
    let of_none : posted_all c.loop.c (replicate (c.args.n - c.loop.counter) c.args.mark) ≡ c.loop.c = rw none_left refl in
    sym of_none ∙ c.loop.invariant.0
