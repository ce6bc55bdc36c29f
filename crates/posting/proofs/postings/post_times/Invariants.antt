-- `postings::post_times`: the postings that are left, into the record as it is, come to all of them into the record as it was.
use Rattle.std.proofs.Common.{◌≡◌, ◌-◌, replicate}
use Rattle.refusals.specs.Places.{refused_in}
use Rattle.records.specs.History.{posted_all}
use Rattle.posting.specs.Postings.{last_answer}
use Rattle.posting.proofs.postings.post_times.Given as goal

abbrev pub invariant-loop : goal.invariant-loop
invariant-loop l =
    (posted_all l.c (replicate (l.fn.n - l.counter) l.mark) ≡ posted_all l.initial.c (replicate l.fn.n l.mark))
    × (last_answer (refused_in l.last) l.c (replicate (l.fn.n - l.counter) l.mark) ≡ last_answer (refused_in l.fn.before) l.initial.c (replicate l.fn.n l.mark))
