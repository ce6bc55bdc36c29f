-- The place of a posting that is refused: the record's count for 11 and 12, else 0.
-- Assumes nothing.
use mathlib.Core.Bool.{false, ◌||◌}
use mathlib.Core.List.{List, [], ◌∷◌, ◌++◌}
use mathlib.Core.Logic.{◌⊎◌, inl, inr}
use mathlib.Core.Path.{◌≡◌, refl, sym, ap, subst, ◌∙◌}
use Prim.Native.Nat.{ℕ, zero, suc, ◌<◌, ◌≤◌}
use native.Mathlib.Decide.{ℕ_discrete}
use native.Mathlib.Omega.{arith}
use borrow.Author.Tests.{ltb-true, ltb-false}
use lib.Dec.{ltb, eqb}
use lib.ListN.{length, take}
use Rattle.common.specs.Choice.{pick}
use Rattle.common.proofs.Tests.{by_test}
use Rattle.scheme.specs.Scheme.{open_months, most_marks}
use Rattle.marks.specs.declared.kinds.Kind.{Kind}
use Rattle.marks.specs.Lawful.{Lawful, FirstBad}
use Rattle.marks.specs.Kind.{kind_of, mark_limit}
use Rattle.marks.specs.Refusal.{marks_refusal}
use Rattle.marks.proofs.Lawful.{lawful_take}
use Rattle.marks.proofs.Lists.{length_last}
use Rattle.marks.proofs.Term.{too_many_marks, few_refused, marks_lawful, marks_unrefused}
use Rattle.examination.proofs.Laws.{settled_marks}
use Rattle.settlement.proofs.Laws.{settle_refusal_lem}
use Rattle.records.specs.declared.Contract.{Contract}
use Rattle.records.specs.Record.{used_marks, bad_record}
use Rattle.refusals.specs.Places.{RefusedAt}
use Rattle.records.specs.Post.{post_of}
use Rattle.records.proofs.Bad.{not_bad}
use Rattle.records.proofs.Posting.{marks_with, used_length, bad_answer, marks_answer}

-- the first of some marks are the same with one more behind them
take_before : (ms : List ℕ) (m k : ℕ) → k ≤ length ms → take k (ms ++ (m ∷ [])) ≡ take k ms
take_before ms m zero h = refl
take_before [] m (suc k) h = absurd (omega arith)
take_before (x ∷ ms) m (suc k) h = ap (λ (l : List ℕ). x ∷ l) (take_before ms m k (omega arith))

-- the mark behind lawful ones is the only one that can be bad
last_bad : (kind : Kind) (o : ℕ) (ms : List ℕ) (m n i : ℕ) → Lawful kind o ms → FirstBad kind o (ms ++ (m ∷ [])) n i → i ≡ length ms
last_bad kind o ms m n i lawful bad =
    by_test (ltb i (length ms))
    (λ t.
    absurd (bad.there
    (subst (Lawful kind o) (sym (take_before ms m (suc i) (omega (arith, ltb-true i (length ms) t)))) (lawful_take kind o ms (suc i) lawful))))
    (λ t. omega (arith, ltb-false i (length ms) t, bad.inside, length_last ms m))

-- the count for these two refusals
abbrev placed : Contract → RefusedAt → ℕ
placed c p = pick (eqb p.refusal 11 || eqb p.refusal 12) c.count 0

module _ (c : Contract) (m : ℕ) (full : length c.marks ≡ most_marks) where
  refusal_placed : bad_record c ≡ false → ((marks_refusal open_months c.terms.term (marks_with c m)).refusal ≡ 0 → ⊥)
      → length (marks_with c m) ≤ mark_limit c.terms.term → (post_of c m).place ≡ placed c (post_of c m)
  refusal_placed b some few =
      let bad = few_refused open_months c.terms.term (marks_with c m) few some in
      let lawful = (settled_marks c.terms (used_marks c) (sym (settle_refusal_lem c.terms (used_marks c)) ∙ (not_bad c b).settled)).lawful in
      let at = last_bad (kind_of c.terms.term) open_months (used_marks c) m _ _ lawful bad ∙ used_length c full b in
      rw (marks_answer c m b) (rw at (go bad.number))
    where
      go : {n x : ℕ} → ((n ≡ 11) × (2 < x)) ⊎ ((n ≡ 12) × (x ≤ 2)) → c.count ≡ pick (eqb n 11 || eqb n 12) c.count 0
      go (inl h) = rw h.0
      go (inr h) = rw h.0

  pub posted_place : (post_of c m).place ≡ pick (eqb (post_of c m).refusal 11 || eqb (post_of c m).refusal 12) c.count 0
  posted_place = by_test (bad_record c) (λ b. rw (bad_answer c m b)) good
    where
      good : bad_record c ≡ false → (post_of c m).place ≡ placed c (post_of c m)
      good b =
          by_test (ltb (mark_limit c.terms.term) (length (marks_with c m)))
          (λ t.
          rw (marks_answer c m b) (rw (too_many_marks open_months c.terms.term (marks_with c m) (ltb-true _ _ t))))
          (λ t. go (ltb-false _ _ t) (ℕ_discrete (marks_refusal open_months c.terms.term (marks_with c m)).refusal 0))
        where
          go : length (marks_with c m) ≤ mark_limit c.terms.term → Dec ((marks_refusal open_months c.terms.term (marks_with c m)).refusal ≡ 0)
              → (post_of c m).place ≡ placed c (post_of c m)
          go few (no some) = refusal_placed b some few
          go few (yes none) =
              rw (marks_answer c m b)
              (rw (marks_unrefused open_months c.terms.term (marks_with c m) (marks_lawful open_months c.terms.term (marks_with c m) none)))
