-- The answer to a posting, case by case, and what holds of a record into which a mark is taken.
-- Assumes nothing.
use mathlib.Core.Bool.{true, false}
use mathlib.Core.List.{List, [], ◌∷◌, ◌++◌}
use mathlib.Core.Path.{◌≡◌, sym, ap, ◌∙◌}
use Prim.Native.Nat.{ℕ, ◌+◌, ◌<◌, ◌≤◌}
use native.Mathlib.Omega.{arith}
use borrow.Author.Tests.{lt-ltb, eq-eqb, ne_eqb}
use lib.ListN.{length, get_or}
use lib.Seq.{length-take-le, set-get_or}
use Rattle.common.proofs.Tests.{by_test}
use Rattle.scheme.specs.Scheme.{open_months, most_marks}
use Rattle.terms.specs.declared.Terms.{Terms}
use Rattle.marks.specs.Reading.{ReadSoFar, count_up, step_by, marks_reading}
use Rattle.marks.specs.Kind.{mark_limit}
use Rattle.marks.specs.Refusal.{marks_refusal}
use Rattle.marks.proofs.Lists.{length_last}
use Rattle.marks.proofs.Term.{too_many_marks, marks_number, marks_place, marks_last}
use Rattle.examination.proofs.Laws.{terms_unrefused, refused_by_marks, settled_few}
use Rattle.settlement.specs.Settle.{settle_of}
use Rattle.settlement.proofs.Laws.{settle_refusal_lem, settle_place}
use Rattle.settlement.proofs.Bounds.{settle_bounds}
use Rattle.records.specs.declared.Contract.{Contract}
use Rattle.records.specs.Record.{used_marks, bad_record}
use Rattle.refusals.specs.Places.{RefusedAt}
use Rattle.records.specs.Post.{settled_with, post_of, with_mark, posted_record}
use Rattle.records.proofs.Bad.{not_bad}

abbrev posted_at : (refusal place : ℕ) → RefusedAt
posted_at n i = record { refusal = n; place = i }

-- terms that Settle accepts with some marks it refuses with others by the marks alone
module _ (t : Terms) (ms ns : List ℕ) (e : (settle_of t ms).refusal ≡ 0) where
  by_marks : (settle_of t ns).refusal ≡ (marks_refusal open_months t.term ns).refusal
  by_marks =
      settle_refusal_lem t ns ∙ ap (λ (r : RefusedAt). r.refusal) (refused_by_marks t ns (terms_unrefused t ms (sym (settle_refusal_lem t ms) ∙ e)))

  at_marks : (settle_of t ns).place ≡ (marks_refusal open_months t.term ns).place
  at_marks =
      settle_place t ns ∙ ap (λ (r : RefusedAt). r.place) (refused_by_marks t ns (terms_unrefused t ms (sym (settle_refusal_lem t ms) ∙ e)))

pub used_length : (c : Contract) → length c.marks ≡ most_marks → bad_record c ≡ false → length (used_marks c) ≡ c.count
used_length c full b = length-take-le c.count c.marks (omega (arith, (not_bad c b).few))

module _ (c : Contract) (m : ℕ) where
  -- the marks with the new one
  abbrev pub marks_with : List ℕ
  marks_with = used_marks c ++ (m ∷ [])

  pub bad_answer : bad_record c ≡ true → post_of c m ≡ posted_at 13 0
  unfolding post_of
  bad_answer b = rw b

  pub good_answer : bad_record c ≡ false → post_of c m ≡ posted_at (settled_with c m).refusal (settled_with c m).place
  unfolding post_of
  good_answer b = rw b

  pub good_refusal : bad_record c ≡ false → (post_of c m).refusal ≡ (settled_with c m).refusal
  good_refusal b = ap (λ (p : RefusedAt). p.refusal) (good_answer b)

  -- a posting gives 13 just where the record is bad
  pub thirteen_bad : (post_of c m).refusal ≡ 13 → bad_record c ≡ true
  thirteen_bad e =
      by_test (bad_record c) (λ b. b)
      (λ b. absurd (omega (arith, good_refusal b, (settle_bounds c.terms marks_with).refusal_most)))

  pub bad_thirteen : bad_record c ≡ true → (post_of c m).refusal ≡ 13
  bad_thirteen b = ap (λ (p : RefusedAt). p.refusal) (bad_answer b)

  pub marks_answer : bad_record c ≡ false
      → post_of c m ≡ posted_at (marks_refusal open_months c.terms.term marks_with).refusal (marks_refusal open_months c.terms.term marks_with).place
  marks_answer b =
      good_answer b
      ∙ rw (
        by_marks c.terms (used_marks c) marks_with (not_bad c b).settled,
        at_marks c.terms (used_marks c) marks_with (not_bad c b).settled,
      )

  module _ (full : length c.marks ≡ most_marks) where
    pub over_answer : bad_record c ≡ false → mark_limit c.terms.term ≤ c.count → post_of c m ≡ posted_at 10 0
    over_answer b h =
        marks_answer b
        ∙ rw (too_many_marks open_months c.terms.term marks_with (omega (arith, length_last (used_marks c) m, used_length c full b)))

    pub read_answer : bad_record c ≡ false → c.count < mark_limit c.terms.term
        → (r : ReadSoFar) → r ≡ step_by count_up (marks_reading open_months c.terms.term (used_marks c)) m
        → posted_at r.refusal r.place ≡ post_of c m
    read_answer b h r is =
        let n = used_length c full b in
        let most = (not_bad c b).few in
        rw (is, marks_last open_months c.terms.term (used_marks c) m (omega arith) (omega arith))
        (rw (marks_number open_months c.terms.term marks_with, marks_place open_months c.terms.term marks_with) (sym (marks_answer b)))

    -- a refused reading stays refused, whatever mark comes after it
    pub early_answer : bad_record c ≡ false → c.count < mark_limit c.terms.term
        → (r : ReadSoFar) → r ≡ marks_reading open_months c.terms.term (used_marks c) → 0 < r.refusal
        → posted_at r.refusal r.place ≡ post_of c m
    unfolding step_by
    early_answer b h r is some = read_answer b h r (rw (← is, lt-ltb 0 r.refusal some))

    -- what holds where the mark is taken
    pub record Taken : Type 0 where
      pub good : bad_record c ≡ false
      pub accepted : (settled_with c m).refusal ≡ 0
      pub room : c.count < most_marks

    pub taken : (post_of c m).refusal ≡ 0 → Taken
    taken z =
        by_test (bad_record c)
        (λ b. absurd (omega (arith, bad_thirteen b)))
        (λ b.
        let ok = sym (good_refusal b) ∙ z in
        record {
          good = b;
          accepted = ok;
          room =
              omega (
                arith,
                settled_few c.terms marks_with (sym (settle_refusal_lem c.terms marks_with) ∙ ok),
                length_last (used_marks c) m,
                used_length c full b,
              );
        })

-- What posting leaves.

module _ (c : Contract) (m : ℕ) where
  pub success_record : (post_of c m).refusal ≡ 0 → with_mark c c.count m (c.count + 1) ≡ posted_record c m
  unfolding posted_record
  success_record z = rw (eq-eqb (post_of c m).refusal 0 z)

  pub refusal_record : ((post_of c m).refusal ≡ 0 → ⊥) → posted_record c m ≡ c
  unfolding posted_record
  refusal_record h = rw (ne_eqb (post_of c m).refusal 0 h)

-- what stands there, written once more, changes nothing
pub unchanged : (c : Contract) (i : ℕ) → with_mark c i (get_or c.marks i 0) c.count ≡ c
unchanged c i = ap (λ (ms : List ℕ). record { terms = c.terms; marks = ms; count = c.count }) (set-get_or c.marks i 0)
