-- Bytes of which none ends a line, and those up to a line end.
-- Assumes nothing.
use mathlib.Core.Bool.{Bool}
use mathlib.Core.List.{List, [], ◌∷◌, ◌++◌, append-nil}
use mathlib.Core.Path.{◌≡◌, refl, sym, ap, subst, ◌∙◌}
use Prim.Native.Nat.{ℕ, suc, ◌+◌, ◌-◌, ◌<◌}
use native.Mathlib.Numerals.{add-one}
use native.Mathlib.Omega.{arith}
use borrow.Author.Tests.{ne_eqb, eqb-true, eqb-false, ltb-true, ltb-false}
use lib.Dec.{ltb, eqb}
use lib.ListN.{length, get_or, take, drop, length-drop, take-append-drop}
use lib.Seq.{drop-cons, take_all, append_snoc}
use Rattle.case_line.specs.Line.{line_of}
use Rattle.common.proofs.Tests.{by_test}
use Rattle.std.proofs.Common.{Some, None}
use Rattle.std.specs.List.{position, position_or_len}
use Rattle.casefile.specs.Stream.{open_after, written_by, taken_with}
use Rattle.casefile.proofs.Chunks.{open_append, written_append}

-- a line end
abbrev pub is_end : ℕ → Bool
is_end b = eqb b 10

-- the index of the first line end, or the length where none stands
abbrev pub index_of_end : List ℕ → ℕ
index_of_end l = position_or_len is_end l

-- no byte ends a line
pub data NoEnd : List ℕ → Type 0 where
  none : NoEnd []
  more : {b : ℕ} {bs : List ℕ} → (b ≡ 10 → ⊥) → NoEnd bs → NoEnd (b ∷ bs)

-- no line end stands before it
none_before : (l : List ℕ) → NoEnd (take (index_of_end l) l)
none_before [] = none
none_before (b ∷ l) =
    let one : 1 + index_of_end l ≡ suc (index_of_end l) = omega arith in
    by_test (eqb b 10) (λ e. rw e none) (λ e. rw e (rw one (more (eqb-false b 10 e) (none_before l))))

-- one stands at that index, where it is within the list
ends_there : (l : List ℕ) → index_of_end l < length l → get_or l (index_of_end l) 0 ≡ 10
ends_there [] h = absurd (omega arith)
ends_there (b ∷ l) h =
    let one : 1 + index_of_end l ≡ suc (index_of_end l) = omega arith in
    by_test (eqb b 10)
    (λ e. rw e (eqb-true b 10 e))
    (λ e. let k = rw e at h in rw e (rw one (ends_there l (omega (arith, k)))))

-- the first line end stands at n, between what is before it and what is left behind it
pub record FirstEnd (l : List ℕ) (n : ℕ) : Type 0 where
  pub within : n < length l
  pub before : NoEnd (take n l)
  pub cut : l ≡ take n l ++ 10 ∷ take (length l - (n + 1)) (drop (n + 1) l)

left_behind : (l : List ℕ) (n : ℕ) → drop (suc n) l ≡ take (length l - (n + 1)) (drop (n + 1) l)
left_behind l n = rw add-one (sym (take_all (length l - suc n) (drop (suc n) l) (omega (arith, length-drop (suc n) l))))

-- what a search gives
pub end_given : (l : List ℕ) {n : ℕ} → Some n ≡ position is_end l → FirstEnd l n
end_given l {n} e =
    by_test (ltb (index_of_end l) (length l))
    (λ t. let k = rw t at e in let same : index_of_end l ≡ n = cc in
    let within : n < length l = omega (arith, same, ltb-true _ _ t) in
    record {
      within = within;
      before = subst (λ (i : ℕ). NoEnd (take i l)) same (none_before l);
      cut =
          sym (take-append-drop n l)
          ∙ ap (λ (r : List ℕ). take n l ++ r) (drop-cons l n 0 within)
          ∙ ap (λ (b : ℕ). take n l ++ b ∷ drop (suc n) l)
          (ap (λ (i : ℕ). get_or l i 0) (sym same) ∙ ends_there l (omega (arith, ltb-true _ _ t)))
          ∙ ap (λ (m : List ℕ). take n l ++ 10 ∷ m) (left_behind l n);
    })
    (λ t. let k = rw t at e in cc)

pub none_given : (l : List ℕ) → None ≡ position is_end l → NoEnd l
none_given l e =
    by_test (ltb (index_of_end l) (length l))
    (λ t. let k = rw t at e in cc)
    (λ t. subst NoEnd (take_all (index_of_end l) l (ltb-false _ _ t)) (none_before l))

pub no_end_open : (p s : List ℕ) → NoEnd s → open_after p s ≡ p ++ s
unfolding open_after
no_end_open p [] none = sym (append-nil p)
no_end_open p (b ∷ s) (more h n) = rw (ne_eqb b 10 h) (no_end_open (p ++ (b ∷ [])) s n ∙ append_snoc p b s)

pub no_end_written : (p s : List ℕ) → NoEnd s → written_by p s ≡ []
unfolding written_by
no_end_written p [] none = refl
no_end_written p (b ∷ s) (more h n) = rw (ne_eqb b 10 h) (no_end_written (p ++ (b ∷ [])) s n)

pub no_end_taken : (n : ℕ) (s rest : List ℕ) → NoEnd s → taken_with (suc n) (s ++ rest) ≡ length s + taken_with (suc n) rest
unfolding taken_with
no_end_taken n [] rest none = omega arith
no_end_taken n (b ∷ s) rest (more h e) = rw (ne_eqb b 10 h) (ap suc (no_end_taken n s rest e) ∙ omega arith)

-- after a line end
pub end_open : (p s : List ℕ) → open_after p (s ++ (10 ∷ [])) ≡ []
unfolding open_after
end_open p s = open_append p s (10 ∷ [])

pub end_written : (p s : List ℕ) → NoEnd s → written_by p (s ++ (10 ∷ [])) ≡ line_of (p ++ s)
unfolding written_by
end_written p s n =
    written_append p s (10 ∷ [])
    ∙ rw (no_end_written p s n, no_end_open p s n) (append-nil (line_of (p ++ s)))
