-- What is open and what is written after two parts of a file, and after all of it; the bytes of an open line that are kept stand for all of them.
-- Assumes nothing.
use mathlib.Core.List.{List, [], ◌∷◌, ◌++◌, append_assoc}
use mathlib.Core.Path.{◌≡◌, refl, sym, ap, ◌∙◌}
use Prim.Native.Nat.{ℕ, zero, suc, ◌<◌, ◌≤◌}
use native.Mathlib.Omega.{arith}
use borrow.Author.Tests.{ltb-true, ltb-false}
use lib.Dec.{ltb, eqb}
use lib.ListN.{length, take}
use lib.Seq.{take_all, take-take, length-take-le}
use Rattle.common.proofs.Tests.{by_test}
use Rattle.case_line.specs.Line.{longest_line, line_of}
use Rattle.casefile.specs.File.{last_line_of, lines_after, list_lines}
use Rattle.casefile.specs.Stream.{kept_bytes, open_after, written_by}
use Rattle.case_line.proofs.Shapes.{too_long}

-- the line of the listing for the line that the end of the file ends, if one is open
unfoldable pub written_at_end : List ℕ → List ℕ
written_at_end p = list_lines (last_line_of p)

pub open_append : (p a b : List ℕ) → open_after p (a ++ b) ≡ open_after (open_after p a) b
unfolding open_after
open_append p [] b = refl
open_append p (x ∷ a) b = by_test (eqb x 10) (λ e. rw e (open_append [] a b)) (λ e. rw e (open_append (p ++ (x ∷ [])) a b))

pub written_append : (p a b : List ℕ) → written_by p (a ++ b) ≡ written_by p a ++ written_by (open_after p a) b
unfolding open_after written_by
written_append p [] b = refl
written_append p (x ∷ a) b =
    by_test (eqb x 10)
    (λ e. rw e
    (ap (λ (r : List ℕ). line_of p ++ r) (written_append [] a b)
    ∙ sym (append_assoc (line_of p) (written_by [] a) (written_by (open_after [] a) b))))
    (λ e. rw e (written_append (p ++ (x ∷ [])) a b))

-- the listing is what ends in the file, then what the end of the file ends
pub listing_from : (p bs : List ℕ) → list_lines (lines_after p bs) ≡ written_by p bs ++ written_at_end (open_after p bs)
unfolding lines_after list_lines open_after written_by written_at_end
listing_from p [] = refl
listing_from p (b ∷ bs) =
    by_test (eqb b 10)
    (λ e. rw e
    (ap (λ (r : List ℕ). line_of p ++ r) (listing_from [] bs)
    ∙ sym (append_assoc (line_of p) (written_by [] bs) (written_at_end (open_after [] bs)))))
    (λ e. rw e (listing_from (p ++ (b ∷ [])) bs))

-- the bytes of a line that are kept tell as much as all of it
pub line_kept : (p : List ℕ) → line_of (take kept_bytes p) ≡ line_of p
line_kept p =
    by_test (ltb longest_line (length p))
    (λ e.
    let h : longest_line < length p = ltb-true _ _ e in
    let l : length (take kept_bytes p) ≡ kept_bytes = length-take-le kept_bytes p (omega arith) in
    too_long (take kept_bytes p) (omega arith) (omega arith) ∙ sym (too_long p (omega arith) h))
    (λ e.
    let h : length p ≤ longest_line = ltb-false _ _ e in
    ap line_of (take_all kept_bytes p (omega arith)))

pub kept_more : (n : ℕ) (p s : List ℕ) → take n (p ++ s) ≡ take n (take n p ++ s)
kept_more zero p s = refl
kept_more (suc n) [] s = refl
kept_more (suc n) (x ∷ p) s = ap (λ (r : List ℕ). x ∷ r) (kept_more n p s)

-- two open lines that agree in the bytes that are kept
abbrev Same : List ℕ → List ℕ → Type 0
Same p q = take kept_bytes p ≡ take kept_bytes q

same_line : (p q : List ℕ) → Same p q → line_of p ≡ line_of q
same_line p q e = sym (line_kept p) ∙ ap line_of e ∙ line_kept q

same_more : (p q s : List ℕ) → Same p q → Same (p ++ s) (q ++ s)
same_more p q s e = kept_more kept_bytes p s ∙ ap (λ (r : List ℕ). take kept_bytes (r ++ s)) e ∙ sym (kept_more kept_bytes q s)

same_written : (bs p q : List ℕ) → Same p q → written_by p bs ≡ written_by q bs
unfolding written_by
same_written [] p q e = refl
same_written (b ∷ bs) p q e =
    by_test (eqb b 10)
    (λ t. rw t (ap (λ (r : List ℕ). r ++ written_by [] bs) (same_line p q e)))
    (λ t. rw t (same_written bs (p ++ (b ∷ [])) (q ++ (b ∷ [])) (same_more p q (b ∷ []) e)))

same_open : (bs p q : List ℕ) → Same p q → Same (open_after p bs) (open_after q bs)
unfolding open_after
same_open [] p q e = e
same_open (b ∷ bs) p q e =
    by_test (eqb b 10) (λ t. rw t) (λ t. rw t (same_open bs (p ++ (b ∷ [])) (q ++ (b ∷ [])) (same_more p q (b ∷ []) e)))

same_end : (p q : List ℕ) → Same p q → written_at_end p ≡ written_at_end q
unfolding written_at_end last_line_of list_lines
same_end [] [] e = refl
same_end [] (y ∷ q) e = absurd (omega (arith, ap length e))
same_end (x ∷ p) [] e = absurd (omega (arith, ap length e))
same_end (x ∷ p) (y ∷ q) e = ap (λ (r : List ℕ). r ++ []) (same_line (x ∷ p) (y ∷ q) e)

module _ (p : List ℕ) (bs : List ℕ) where
  same_kept : Same (take kept_bytes p) p
  same_kept = take-take kept_bytes kept_bytes p (omega arith)

  pub written_kept : written_by (take kept_bytes p) bs ≡ written_by p bs
  written_kept = same_written bs (take kept_bytes p) p same_kept

  pub end_kept : written_at_end (open_after (take kept_bytes p) bs) ≡ written_at_end (open_after p bs)
  end_kept = same_end (open_after (take kept_bytes p) bs) (open_after p bs) (same_open bs (take kept_bytes p) p same_kept)

-- what is kept after two parts is told by what is kept after the first
pub open_kept : (p a b : List ℕ) → take kept_bytes (open_after (take kept_bytes (open_after p a)) b) ≡ take kept_bytes (open_after p (a ++ b))
open_kept p a b =
    let q = open_after p a in
    same_open b (take kept_bytes q) q (same_kept q b) ∙ ap (take kept_bytes) (sym (open_append p a b))
