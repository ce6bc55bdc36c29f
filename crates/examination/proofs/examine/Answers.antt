-- `examination::examine` meets its contract: the terms' refusal, then the marks', then what both say.
-- Assumes nothing.
use mathlib.Core.List.{List}
use mathlib.Core.Path.{◌≡◌, sym, ap, ◌∙◌}
use Prim.Native.Nat.{ℕ}
use Rattle.scheme.specs.Scheme.{open_months}
use Rattle.refusals.specs.Places.{RefusedAt, refusing}
use Rattle.money.specs.Money.{pension}
use Rattle.money.specs.declared.PensionPence.{PensionPence}
use Rattle.terms.specs.declared.Terms.{Terms}
use Rattle.terms.specs.Rules.{refusal_of}
use Rattle.marks.specs.Reading.{ReadSoFar, as_read, marks_reading, status_from, payments_from}
use Rattle.marks.proofs.StatusOf.{status_lawful, payments_lawful}
use Rattle.marks.proofs.Term.{marks_number, marks_place}
use Rattle.examination.specs.Refusal.{settle_refusal}
use Rattle.examination.proofs.Laws.{refused_by_marks, settled_marks}
use Rattle.examination.proofs.examine.Goals as goal

-- the terms are refused as with nothing existing
with_nothing : (t : Terms) {n : ℕ} {nothing : PensionPence} → n ≡ refusal_of t nothing.0 → nothing ≡ pension 0 → n ≡ refusal_of t 0
with_nothing t e z = e ∙ ap (λ (p : PensionPence). refusal_of t p.0) z

-- the reading has the refusal of the marks
by_marks : (t : Terms) (ms : List ℕ) (r : ReadSoFar) → refusal_of t 0 ≡ 0 → r ≡ marks_reading open_months t.term ms
    → refusing r.refusal r.place ≡ settle_refusal t ms
by_marks t ms r pass e =
    rw (e, marks_number open_months t.term ms, marks_place open_months t.term ms) (sym (refused_by_marks t ms pass))

pub returns-clause-found : goal.returns-clause-found
returns-clause-found c =
    let t = c.args.t in
    let read = c.in_ok-reading.ensures in
    let pass = sym (with_nothing t c.in_ok-election.ensures.refusal c.none.ensures) in
    let none = by_marks t c.args.marks.now (as_read c.in_ok-reading.reading) pass read in
    let law = settled_marks t c.args.marks.now (sym (ap (λ (r : RefusedAt). r.refusal) none)) in
    record {
      terms = c.in_ok-election.ensures.terms;
      status = c.status.ensures ∙ ap (status_from t.term) read ∙ status_lawful open_months t.term c.args.marks.now law;
      paid = c.payments.ensures ∙ ap (payments_from t.term) read ∙ payments_lawful open_months t.term c.args.marks.now law;
    }
