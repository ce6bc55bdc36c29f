-- A posted history is a settled list: a fresh record holds the marks that are posted into it one after the other, none
-- being refused. A posting that is not refused leaves no bad record. And every list that Settle accepts can be posted.
-- Assumes nothing.
use mathlib.Core.Bool.{false}
use mathlib.Core.List.{List, [], ◌∷◌, ◌++◌, append-nil}
use mathlib.Core.Path.{◌≡◌, refl, sym, ◌∙◌}
use Prim.Native.Nat.{ℕ, suc, ◌+◌}
use native.Mathlib.Numerals.{add-one}
use native.Mathlib.Omega.{arith}
use lib.ListN.{length, length-set}
use lib.Seq.{append_snoc, drop-set-lt, take-suc-set, take-append_seam}
use Rattle.scheme.specs.Scheme.{most_marks}
use Rattle.terms.specs.declared.Terms.{Terms}
use Rattle.settlement.specs.Settle.{settle_of}
use Rattle.examination.proofs.Laws.{refusal_take}
use Rattle.settlement.proofs.Laws.{settle_refusal_lem}
use Rattle.records.specs.declared.Contract.{Contract}
use Rattle.records.specs.Record.{used_marks, all_zero, bad_record}
use Rattle.records.specs.Post.{post_of, with_mark, posted_record}
use Rattle.records.specs.History.{fresh_record, posted_all, NoneRefused, RecordHolds}
use Rattle.records.proofs.Zeros.{zeros_further}
use Rattle.records.proofs.Bad.{Good, good_record, not_bad}
use Rattle.records.proofs.Posting.{taken, good_refusal, success_record}

-- One posting that is not refused, into a record with room for the most marks, as every record in memory is.
module _ (c : Contract) (m : ℕ) (full : length c.marks ≡ most_marks) (z : (post_of c m).refusal ≡ 0) where
  next : Contract
  next = with_mark c c.count m (c.count + 1)

  is_next : posted_record c m ≡ next
  unfolding next
  is_next = sym (success_record c m z)

  next_marks : used_marks next ≡ used_marks c ++ (m ∷ [])
  unfolding next
  next_marks = rw add-one (take-suc-set c.marks c.count m (omega (arith, (taken c m full z).room)))

  next_good : Good next
  unfolding next
  next_good =
      let was = not_bad c (taken c m full z).good in
      record {
        settled = rw next_marks (taken c m full z).accepted;
        few = omega (arith, (taken c m full z).room);
        zeros = rw (add-one, drop-set-lt (suc c.count) c.marks c.count m (omega arith)) (zeros_further c.marks c.count was.zeros);
      }

  -- the record that a posting that is not refused leaves is not bad
  pub posted_good : bad_record (posted_record c m) ≡ false
  posted_good = rw is_next (good_record next next_good)

  posted_full : length (posted_record c m).marks ≡ most_marks
  unfolding next
  posted_full = rw (is_next, length-set) full

  pub posted_marks : used_marks (posted_record c m) ≡ used_marks c ++ (m ∷ [])
  posted_marks = rw is_next next_marks

  posted_terms : (posted_record c m).terms ≡ c.terms
  unfolding next
  posted_terms = rw is_next

  posted_count : (posted_record c m).count ≡ suc c.count
  unfolding next
  posted_count = rw is_next (add-one c.count)

-- Several postings, none refused, into any record: the marks in use are followed by those that are posted.

record Grown (c d : Contract) (ms : List ℕ) : Type 0 where
  terms : d.terms ≡ c.terms
  count : d.count ≡ c.count + length ms
  marks : used_marks d ≡ used_marks c ++ ms

grown : (c : Contract) (ms : List ℕ) → length c.marks ≡ most_marks → NoneRefused c ms → Grown c (posted_all c ms) ms
unfolding posted_all NoneRefused
grown c [] full none = record { terms = refl; count = omega arith; marks = sym (append-nil _) }
grown c (m ∷ ms) full none =
    let z = none.0 in
    let rest = grown (posted_record c m) ms (posted_full c m full z) none.1 in
    record {
      terms = rest.terms ∙ posted_terms c m full z;
      count = omega (arith, rest.count, posted_count c m full z);
      marks = rest.marks ∙ rw (posted_marks c m full z) (append_snoc (used_marks c) m ms);
    }

-- a fresh record holds the marks that are posted into it
pub posted_history : (t : Terms) (ms : List ℕ) → NoneRefused (fresh_record t) ms → RecordHolds (posted_all (fresh_record t) ms) t ms
posted_history t ms none =
    let g = grown (fresh_record t) ms refl none in
    record {
      terms = g.terms;
      count = omega (arith, g.count);
      marks = g.marks;
      settled = rw (g.terms, g.marks);
    }

-- What Settle accepts can be posted.

-- the first marks of a list that Settle accepts
accepted_first : (t : Terms) (xs ys : List ℕ) → (settle_of t (xs ++ ys)).refusal ≡ 0 → (settle_of t xs).refusal ≡ 0
accepted_first t xs ys e =
    settle_refusal_lem t xs
    ∙ rw (take-append_seam xs ys) at (refusal_take t (xs ++ ys) (sym (settle_refusal_lem t (xs ++ ys)) ∙ e) (length xs))

postable : (c : Contract) (ms : List ℕ) → length c.marks ≡ most_marks → bad_record c ≡ false
    → (settle_of c.terms (used_marks c ++ ms)).refusal ≡ 0 → NoneRefused c ms
unfolding NoneRefused
postable c [] full good e = tt
postable c (m ∷ ms) full good e =
    let again = rw (← append_snoc) at e in
    let z = good_refusal c m good ∙ accepted_first c.terms (used_marks c ++ (m ∷ [])) ms again in (
      z,
      postable (posted_record c m) ms (posted_full c m full z) (posted_good c m full z)
          (rw (posted_terms c m full z, posted_marks c m full z) again),
    )

pub accepted_posted : (t : Terms) (ms : List ℕ) → (settle_of t ms).refusal ≡ 0 → NoneRefused (fresh_record t) ms
unfolding all_zero
accepted_posted t ms e =
    postable (fresh_record t) ms refl
    (good_record (fresh_record t) (record { settled = accepted_first t [] ms e; few = omega arith; zeros = refl }))
    e
