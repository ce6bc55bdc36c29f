-- The numbers of a settlement refuse marks as M1 to M4 and O9 say it.
-- Assumes nothing.
use mathlib.Core.List.{List}
use mathlib.Core.Path.{◌≡◌, sym, ap, subst, ◌∙◌}
use Prim.Native.Nat.{ℕ, ◌<◌}
use native.Mathlib.Omega.{arith}
use Rattle.scheme.specs.Scheme.{open_months}
use Rattle.terms.specs.declared.Terms.{Terms}
use Rattle.terms.specs.Rules.{refusal_of}
use Rattle.refusals.specs.Places.{RefusedAt, refusing}
use Rattle.marks.specs.Kind.{kind_of}
use Rattle.marks.specs.Refusal.{marks_refusal}
use Rattle.marks.proofs.Outcome.{bad_number}
use Rattle.marks.proofs.Term.{too_many_marks, bad_refused, few_refused, marks_unrefused}
use Rattle.examination.specs.Refusal.{settle_refusal}
use Rattle.examination.proofs.Laws.{refused_by_marks, settled_marks}
use Rattle.settlement.specs.Settle.{SettleNumbers, refused_settlement, settle_of}
use Rattle.settlement.specs.Marks.{MarksAnswered}
use Rattle.settlement.proofs.Laws.{settle_refused, settle_refusal_lem}

module _ (t : Terms) (ms : List ℕ) where
  -- marks that are refused, under terms that are not
  marks_refused : refusal_of t 0 ≡ 0 → (k i : ℕ) → 0 < k → marks_refusal open_months t.term ms ≡ refusing k i
      → ((settle_of t ms).refusal ≡ k) × ((settle_of t ms).place ≡ i)
  marks_refused pass k i some e =
      let is = refused_by_marks t ms pass ∙ e in
      let number : (settle_refusal t ms).refusal ≡ k = ap (λ (r : RefusedAt). r.refusal) is in
      let whole = settle_refused t ms (λ z. omega (arith, number, z, some)) in (
        settle_refusal_lem t ms ∙ number,
        ap (λ (n : SettleNumbers). n.place) whole ∙ ap (λ (r : RefusedAt). r.place) is,
      )

  refused_numbers_lem : refusal_of t 0 ≡ 0 → ((settle_of t ms).refusal ≡ 0 → ⊥)
      → settle_of t ms ≡ refused_settlement (marks_refusal open_months t.term ms).refusal (marks_refusal open_months t.term ms).place
  refused_numbers_lem pass some =
      settle_refused t ms (λ z. some (settle_refusal_lem t ms ∙ z)) ∙ rw (refused_by_marks t ms pass)

  pub marks_answered : MarksAnswered t ms (settle_of t ms)
  marks_answered =
      record {
        lawful = λ z. settled_marks t ms (sym (settle_refusal_lem t ms) ∙ z);
        unrefused = λ pass law.
            settle_refusal_lem t ms ∙ ap (λ (r : RefusedAt). r.refusal) (refused_by_marks t ms pass ∙ marks_unrefused open_months t.term ms law);
        too_many = λ pass many. marks_refused pass 10 0 (omega arith) (too_many_marks open_months t.term ms many);
        first_bad = λ pass few k i bad.
            marks_refused pass k i (bad_number (kind_of t.term) open_months ms k i bad) (bad_refused open_months t.term ms k i few bad);
        refused = λ pass few some.
            let is = refused_numbers_lem pass some in
            rw is (few_refused open_months t.term ms few (rw is at some));
      }

  -- and so do equal ones
  pub same_marks_answered : (n : SettleNumbers) → n ≡ settle_of t ms → MarksAnswered t ms n
  same_marks_answered n is = subst (MarksAnswered t ms) (sym is) marks_answered
