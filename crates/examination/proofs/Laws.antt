-- What callers use of the refusals, without opening them: refused or not, and what then holds.
-- Assumes nothing.
use mathlib.Core.List.{List}
use mathlib.Core.Path.{◌≡◌, sym, ap, ◌∙◌}
use Prim.Native.Nat.{ℕ, ◌≤◌}
use native.Mathlib.Decide.{ℕ_discrete}
use native.Mathlib.Omega.{arith}
use borrow.Author.Tests.{eq-eqb, ne_eqb}
use lib.ListN.{length, take}
use Rattle.scheme.specs.Scheme.{open_months, most_marks}
use Rattle.terms.specs.declared.Terms.{Terms}
use Rattle.terms.specs.Rules.{refusal_of}
use Rattle.election.specs.TermsAccepted.{TermsAccepted}
use Rattle.election.proofs.Laws.{terms_accepted}
use Rattle.marks.specs.Lawful.{LawfulFor}
use Rattle.marks.proofs.KindOf.{limit_most}
use Rattle.refusals.specs.Places.{RefusedAt, refusing}
use Rattle.marks.specs.Refusal.{marks_refusal}
use Rattle.marks.proofs.Term.{marks_unrefused, marks_lawful, lawful_for_take}
use Rattle.examination.specs.Refusal.{settle_refusal}

module _ (t : Terms) (ms : List ℕ) where
  -- the terms refuse first
  pub refused_by_terms : (refusal_of t 0 ≡ 0 → ⊥) → settle_refusal t ms ≡ refusing (refusal_of t 0) 0
  unfolding settle_refusal
  refused_by_terms h = rw (ne_eqb _ _ h)

  -- then the marks
  pub refused_by_marks : refusal_of t 0 ≡ 0 → settle_refusal t ms ≡ marks_refusal open_months t.term ms
  unfolding settle_refusal
  refused_by_marks h = rw (eq-eqb _ _ h)

  pub terms_unrefused : (settle_refusal t ms).refusal ≡ 0 → refusal_of t 0 ≡ 0
  terms_unrefused z = go (ℕ_discrete (refusal_of t 0) 0)
    where
      go : Dec (refusal_of t 0 ≡ 0) → refusal_of t 0 ≡ 0
      go (yes h) = h
      go (no h) = sym (ap (λ (r : RefusedAt). r.refusal) (refused_by_terms h)) ∙ z

  pub settled_terms : (settle_refusal t ms).refusal ≡ 0 → TermsAccepted t 0
  settled_terms z = terms_accepted t 0 (terms_unrefused z)

  pub settled_marks : (settle_refusal t ms).refusal ≡ 0 → LawfulFor open_months t.term ms
  settled_marks z =
      marks_lawful open_months t.term ms (sym (ap (λ (r : RefusedAt). r.refusal) (refused_by_marks (terms_unrefused z))) ∙ z)

  -- nothing refused has no place
  pub unrefused_place : (settle_refusal t ms).refusal ≡ 0 → (settle_refusal t ms).place ≡ 0
  unrefused_place z =
      ap (λ (r : RefusedAt). r.place)
      (refused_by_marks (terms_unrefused z) ∙ marks_unrefused open_months t.term ms (settled_marks z))

  -- no more marks than the longest term has
  pub settled_few : (settle_refusal t ms).refusal ≡ 0 → length ms ≤ most_marks
  settled_few z = omega (arith, (settled_marks z).few, limit_most t.term (settled_terms z).term_high)

  -- the first of marks that are not refused are not refused
  pub refusal_take : (settle_refusal t ms).refusal ≡ 0 → (i : ℕ) → (settle_refusal t (take i ms)).refusal ≡ 0
  unfolding settle_refusal
  refusal_take z i =
      rw (eq-eqb _ _ (terms_unrefused z), marks_unrefused open_months t.term (take i ms) (lawful_for_take open_months t.term ms i (settled_marks z)))
