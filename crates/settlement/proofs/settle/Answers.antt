-- `settlement::settle` meets its contract: the numbers are those defined, and so demand 3 holds of them.
-- Assumes nothing.
use mathlib.Core.List.{List}
use mathlib.Core.Path.{◌≡◌}
use Prim.Native.Nat.{ℕ, ◌≤◌, ◌<◌, ◌^◌}
use native.Mathlib.Omega.{arith}
use Rattle.scheme.specs.Scheme.{most_marks}
use Rattle.refusals.specs.Places.{refusing}
use Rattle.election.specs.ContributionOf.{contribution_of}
use Rattle.election.proofs.Laws.{contribution_most}
use Rattle.terms.specs.declared.Terms.{Terms}
use Rattle.marks.proofs.Counts.{payments_most}
use Rattle.money.specs.Contribution.{contribution}
use Rattle.money.specs.declared.ContributionPence.{ContributionPence}
use Rattle.examination.proofs.Laws.{settled_terms, settled_few}
use Rattle.examination.proofs.Unrefused.{unrefused}
use Rattle.examination.specs.Refusal.{settle_refusal}
use Rattle.examination.specs.Examine.{ExaminationOf}
use Rattle.examination.specs.declared.Examined.{Examined}
use Rattle.std.proofs.Common.{rules}
use Rattle.common.proofs.Tests.{tests}
use Rattle.settlement.specs.Settle.{settle_of, refund_at_status}
use Rattle.settlement.proofs.LumpSum.{same_lump_sum_answered}
use Rattle.settlement.proofs.settle.Goals as goal

module _ (t : Terms) (ms : List ℕ) where
  module _ (none : refusing 0 0 ≡ settle_refusal t ms) {e : Examined} (told : ExaminationOf t ms e) where
    small : {k : ContributionPence} → k ≡ contribution (contribution_of e.election.terms) → (k.0 < 2 ^ 32) × (e.payments ≤ most_marks)
    small paid =
        rw (paid, told.terms, told.paid)
        (omega (
          arith,
          contribution_most t 0 (settled_terms t ms (unrefused t ms none)),
          payments_most t.term ms most_marks (omega arith) (settled_few t ms (unrefused t ms none)),
        ))

pub refund_at_status-requires : goal.refund_at_status-requires
refund_at_status-requires c =
    let e = c.in_ok-e.ensures in
    small c.args.t c.args.marks.now e.refusal e.found c.contribution-contribution.ensures

pub returns-clause-lump_sum : goal.returns-clause-lump_sum
unfolding settle_of refund_at_status
returns-clause-lump_sum c = same_lump_sum_answered c.args.t c.args.marks.now _ (search (rules, tests))
