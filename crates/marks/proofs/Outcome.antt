-- Marks are lawful, and then nothing refuses them and the reading holds their counts; or there is a first bad mark, and both refuse it.
-- Assumes nothing.
use mathlib.Core.List.{List, [], ◌∷◌, ◌++◌, append-nil}
use mathlib.Core.Logic.{◌⊎◌, inl, inr, ⊎_elim}
use mathlib.Core.Path.{◌≡◌, refl, sym, ◌∙◌}
use Prim.Native.Nat.{ℕ, zero, suc, ◌<◌, ◌≤◌}
use native.Mathlib.Omega.{arith}
use borrow.Author.Tests.{lt-ltb, ltb-true, ltb-false, eqb-true, eqb-false, ne_eqb}
use lib.Dec.{ltb, eqb}
use lib.ListN.{length, get_or-append}
use lib.Seq.{append_snoc, take_all, take-append-le, take-append_seam, get_or-append_seam}
use Rattle.common.specs.Choice.{pick}
use Rattle.common.proofs.Tests.{by_test}
use Rattle.marks.specs.declared.kinds.Kind.{Kind}
use Rattle.marks.specs.Kind.{is_monthly}
use Rattle.marks.specs.Counts.{last_or, paid_months, paid_through, final_gap}
use Rattle.marks.specs.Lawful.{Lawful, FirstBad}
use Rattle.refusals.specs.Places.{refusing}
use Rattle.marks.specs.Refusal.{mark_refusal, first_refusal}
use Rattle.marks.specs.Reading.{refused_reading, next_refusal_of, count_mark, step_by, step_of, read_on, reading_of, counts_of}
use Rattle.marks.proofs.KindOf.{monthly_told, at_once_told}
use Rattle.marks.proofs.Lists.{by_the_last, length_last}
use Rattle.marks.proofs.Counts.{counts_missed, counts_paid, counts_ended}
use Rattle.marks.proofs.Lawful.{Follows, follows_lawful, lawful_follows, none_lawful}
use Rattle.marks.proofs.Steps.{reading_last}

module _ (kind : Kind) (open_months : ℕ) where
  -- one mark more, after lawful marks

  data Next (ms : List ℕ) (m : ℕ) : Type 0 where
    goes_on : Follows kind open_months ms m → mark_refusal kind open_months ms m ≡ 0
        → step_of (counts_of kind open_months ms) m ≡ counts_of kind open_months (ms ++ (m ∷ [])) → Next ms m
    is_bad : (n : ℕ) → mark_refusal kind open_months ms m ≡ n → step_of (counts_of kind open_months ms) m ≡ refused_reading n (length ms)
        → (Follows kind open_months ms m → ⊥) → ((n ≡ 11) × (2 < m)) ⊎ ((n ≡ 12) × (m ≤ 2)) → Next ms m

  next : (ms : List ℕ) (m : ℕ) → Next ms m
  unfolding mark_refusal step_by next_refusal_of count_mark
  next ms zero =
      by_test (eqb (last_or 0 ms) 2)
      (λ t. is_bad 12 (rw t) (rw t) (λ f. omega (arith, f.ends (eqb-true (last_or 0 ms) 2 t))) (inr (refl, omega arith)))
      (λ t.
      by_test (eqb (length ms) 0)
      (λ u. is_bad 12 (rw (t, u)) (rw (t, u)) (λ f. f.begins (eqb-true (length ms) 0 u) refl) (inr (refl, omega arith)))
      (λ u.
      by_test (is_monthly kind)
      (λ v.
      goes_on
      (record {
        known = omega arith;
        begins = λ e z. eqb-false (length ms) 0 u e;
        missed = λ z. monthly_told kind v;
        resumes = λ e. omega arith;
        ends = λ e. absurd (eqb-false (last_or 0 ms) 2 t e);
      })
      (rw (t, u, v)) (rw (t, u, v) (sym (counts_missed kind open_months ms))))
      (λ v. is_bad 12 (rw (t, u, v)) (rw (t, u, v)) (λ f. at_once_told v (f.missed refl)) (inr (refl, omega arith)))))
  next ms (suc zero) =
      by_test (eqb (last_or 0 ms) 2)
      (λ t. is_bad 12 (rw t) (rw t) (λ f. omega (arith, f.ends (eqb-true (last_or 0 ms) 2 t))) (inr (refl, omega arith)))
      (λ t.
      by_test (ltb open_months (final_gap ms))
      (λ u. is_bad 12 (rw (t, u)) (rw (t, u)) (λ f. omega (arith, f.resumes refl, ltb-true open_months (final_gap ms) u)) (inr (refl, omega arith)))
      (λ u.
      goes_on
      (record {
        known = omega arith;
        begins = λ e z. omega arith;
        missed = λ z. absurd (omega arith);
        resumes = λ e. ltb-false open_months (final_gap ms) u;
        ends = λ e. absurd (eqb-false (last_or 0 ms) 2 t e);
      })
      (rw (t, u))
      (rw (t, u) (sym (counts_paid kind open_months ms)))))
  next ms (suc (suc zero)) =
      goes_on
      (record {
        known = omega arith;
        begins = λ e z. omega arith;
        missed = λ z. absurd (omega arith);
        resumes = λ e. absurd (omega arith);
        ends = λ e. refl;
      })
      refl (sym (counts_ended kind open_months ms))
  next ms (suc (suc (suc m))) =
      let above = lt-ltb 2 (suc (suc (suc m))) (omega arith) in
      is_bad 11 (rw above) (rw above) (λ f. omega (arith, f.known)) (inl (refl, omega arith))

  -- with a mark more at the end, the first bad one is what it was, or that mark
  refusal_on : (before ms : List ℕ) (m : ℕ)
      → first_refusal kind open_months before (ms ++ (m ∷ []))
      ≡ pick (eqb (first_refusal kind open_months before ms).refusal 0) (first_refusal kind open_months (before ++ ms) (m ∷ []))
      (first_refusal kind open_months before ms)
  unfolding first_refusal
  refusal_on before [] m = rw append-nil
  refusal_on before (x ∷ ms) m =
      by_test (eqb (mark_refusal kind open_months before x) 0)
      (λ t. rw (t, refusal_on (before ++ (x ∷ [])) ms m, append_snoc))
      (λ t. rw (t, t))

  refusal_last : (ms : List ℕ) (m : ℕ) → first_refusal kind open_months [] ms ≡ refusing 0 0
      → first_refusal kind open_months [] (ms ++ (m ∷ []))
      ≡ pick (eqb (mark_refusal kind open_months ms m) 0) (refusing 0 0) (refusing (mark_refusal kind open_months ms m) (length ms))
  unfolding first_refusal
  refusal_last ms m e = refusal_on [] ms m ∙ rw e

  -- all marks

  pub data ReadOutcome (ms : List ℕ) : Type 0 where
    all_lawful : Lawful kind open_months ms → first_refusal kind open_months [] ms ≡ refusing 0 0
        → reading_of kind open_months ms ≡ counts_of kind open_months ms → ReadOutcome ms
    one_bad : (n i : ℕ) → first_refusal kind open_months [] ms ≡ refusing n i → reading_of kind open_months ms ≡ refused_reading n i
        → FirstBad kind open_months ms n i → ReadOutcome ms

  -- the number of a bad mark is one
  pub bad_number : (ms : List ℕ) (n i : ℕ) → FirstBad kind open_months ms n i → 0 < n
  bad_number ms n i b = ⊎_elim (λ p. omega (arith, p.0)) (λ p. omega (arith, p.0)) b.number

  reading_stays : (ms : List ℕ) (n i m : ℕ) → FirstBad kind open_months ms n i → step_of (refused_reading n i) m ≡ refused_reading n i
  unfolding step_by
  reading_stays ms n i m b = rw (lt-ltb 0 n (bad_number ms n i b))

  refusal_stays : (ms : List ℕ) (n i m : ℕ) → FirstBad kind open_months ms n i → first_refusal kind open_months [] ms ≡ refusing n i
      → first_refusal kind open_months [] (ms ++ (m ∷ [])) ≡ refusing n i
  refusal_stays ms n i m b e =
      refusal_on [] ms m ∙ rw (e, ne_eqb n 0 (λ z. omega (arith, bad_number ms n i b)))

  mark_more : (ms : List ℕ) (m : ℕ) → ReadOutcome ms → ReadOutcome (ms ++ (m ∷ []))
  mark_more ms m (all_lawful h f e) = go (next ms m)
    where
      go : Next ms m → ReadOutcome (ms ++ (m ∷ []))
      go (goes_on g z s) =
          all_lawful (follows_lawful kind open_months ms m h g) (refusal_last ms m f ∙ rw z) (reading_last kind open_months ms m ∙ rw e s)
      go (is_bad n z s wrong w) =
          let one = length_last ms m in
          let some : n ≡ 0 → ⊥ = λ q. ⊎_elim (λ p. omega (arith, p.0)) (λ p. omega (arith, p.0)) w in
          one_bad n (length ms) (refusal_last ms m f ∙ rw (z, ne_eqb n 0 some)) (reading_last kind open_months ms m ∙ rw e s)
          (record {
            inside = omega arith;
            before = rw (take-append_seam ms (m ∷ [])) h;
            there = λ l. wrong (lawful_follows kind open_months ms m (rw (take_all (suc (length ms)) (ms ++ (m ∷ [])) (omega arith)) at l));
            number = rw (get_or-append_seam ms m [] 0) w;
          })
  mark_more ms m (one_bad n i f e b) =
      one_bad n i (refusal_stays ms n i m b f) (reading_last kind open_months ms m ∙ rw e (reading_stays ms n i m b))
      (record {
        inside = omega (arith, length_last ms m, b.inside);
        before = rw (take-append-le i ms (m ∷ []) (omega (arith, b.inside))) b.before;
        there = λ l. b.there (rw (take-append-le (suc i) ms (m ∷ []) (omega (arith, b.inside))) at l);
        number = rw (get_or-append ms (m ∷ []) 0 i b.inside) b.number;
      })

  pub read_outcome : (ms : List ℕ) → ReadOutcome ms
  unfolding read_on last_or paid_months paid_through final_gap first_refusal
  read_outcome ms = by_the_last ReadOutcome mark_more (all_lawful (none_lawful kind open_months) refl refl) ms
