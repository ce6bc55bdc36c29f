-- A field written from its last digit to its first, and how fields follow each other.
-- Assumes nothing.
use mathlib.Core.List.{List, [], ◌∷◌, ◌++◌, append_assoc, append-nil}
use mathlib.Core.Path.{◌≡◌, refl, sym, ap, ◌∙◌}
use Prim.Native.Nat.{ℕ, zero, suc, ◌+◌, ◌-◌, ◌/◌, ◌%◌, ◌<◌, ◌≤◌}
use native.Mathlib.Nat.{add-zero}
use native.Mathlib.Omega.{arith}
use borrow.Author.Tests.{le-leb, lt-leb, leb-true}
use lib.Dec.{leb}
use lib.ListN.{length, take, drop, set, length-append, length-drop, drop_of_length-le, take-append-drop}
use lib.Seq.{append_snoc, take_at, length-take-le, drop-drop}
use borrow.Rule.Slice.PartMut.{put_mid}
use native.Mathlib.Numerals.{add-one, sub-one}
use Rattle.std.proofs.lemmas.List.{drop-set}
use Rattle.common.proofs.Tests.{by_test}
use Rattle.common.proofs.Choice.{either}
use Rattle.text.specs.Column.{glyph_of, front_of, column_of}
use Rattle.text.specs.Steps.{put_at}

length_front : (w v : ℕ) → length (front_of w v) ≡ w
unfolding front_of
length_front zero v = refl
length_front (suc w) v = length-append (front_of w (v / 10)) _ ∙ omega (arith, length_front w (v / 10))

pub length_column : (w v : ℕ) → length (column_of w v) ≡ w
unfolding column_of
length_column zero v = refl
length_column (suc w) v = length-append (front_of w (v / 10)) _ ∙ omega (arith, length_front w (v / 10))

-- a store at k, seen from k
drop_set : (l : List ℕ) (k g : ℕ) → k < length l → drop k (set l k g) ≡ g ∷ drop (suc k) l
drop_set l k g h = drop-set l k g h ∙ rw add-one refl

one_column : (l : List ℕ) (k left : ℕ) (rest : List ℕ) → k < length l → front_of (suc k) left ++ drop (suc k) l ≡ rest
    → front_of k (left / 10) ++ drop k (set l k (glyph_of left)) ≡ rest
unfolding front_of
one_column l k left rest h q =
    rw (drop_set l k (glyph_of left) h) (sym (append_snoc (front_of k (left / 10)) (glyph_of left) (drop (suc k) l)) ∙ q)

-- the last digit, put first
pub last_column : (l : List ℕ) (k v : ℕ) → suc k ≡ length l → front_of k (v / 10) ++ drop k (set l k (48 + v % 10)) ≡ column_of (suc k) v
unfolding column_of
last_column l k v e =
    let h : length l ≤ suc k = omega arith in
    ap (λ (x : List ℕ). front_of k (v / 10) ++ x)
    (drop_set l k (48 + v % 10) (omega arith) ∙ ap (λ (x : List ℕ). (48 + v % 10) ∷ x) (drop_of_length-le l {i = suc k} h))

-- one more column, to the left of those that are there
pub column_more : (l : List ℕ) (j left g : ℕ) (rest : List ℕ) → 0 < j → j ≤ length l → g ≡ glyph_of left
    → front_of j left ++ drop j l ≡ rest → front_of (j - 1) (left / 10) ++ drop (j - 1) (set l (j - 1) g) ≡ rest
column_more l zero left g rest some room e s = absurd (omega arith)
column_more l (suc k) left g rest some room e s = rw (sub-one, e) (one_column l k left rest room s)

module _ (l : List ℕ) (at : ℕ) (bytes : List ℕ) where
  put_fits : at + length bytes ≤ length l → put_at l at bytes ≡ take at l ++ bytes ++ drop (at + length bytes) l
  unfolding put_at
  put_fits h = rw (le-leb (at + length bytes) (length l) h)

  put_short : length l < at + length bytes → put_at l at bytes ≡ l
  unfolding put_at
  put_short h = rw (lt-leb (at + length bytes) (length l) h)

put_nothing : (l : List ℕ) (at : ℕ) → put_at l at [] ≡ l
unfolding put_at
put_nothing l at =
    either (λ (x : List ℕ). x ≡ l) (leb (at + 0) (length l)) (rw (append-nil (take at l), add-zero at) (take-append-drop at l)) refl

module _ (l : List ℕ) (at width v : ℕ) where
  pub put_no_column : width ≡ 0 → put_at l at (column_of width v) ≡ l
  unfolding column_of
  put_no_column e = rw e (put_nothing l at)

  pub put_column_short : length l < at + width → put_at l at (column_of width v) ≡ l
  put_column_short h = put_short l at (column_of width v) (rw (length_column width v) h)

  pub put_column : at + width ≤ length l → put_at l at (column_of width v) ≡ take at l ++ column_of width v ++ drop (at + width) l
  put_column h =
      put_fits l at (column_of width v) (rw (length_column width v) h)
      ∙ ap (λ (n : ℕ). take at l ++ column_of width v ++ drop (at + n) l) (length_column width v)

  -- the columns that were lent out, put back
  pub put_lent : at ≤ length l → width ≤ length l - at → put_mid at (at + width - at) l (column_of width v) ≡ put_at l at (column_of width v)
  put_lent h room =
      let k : at + width - at ≡ width = omega arith in
      rw (k, drop-drop) (sym (append_assoc (take at l) (column_of width v) (drop (at + width) l)) ∙ sym (put_column (omega arith)))

  -- what is there up to the end of the field
  pub put_more : at + width ≤ length l → take (at + width) (put_at l at (column_of width v)) ≡ take at l ++ column_of width v
  put_more h =
      ap (take (at + width)) (put_column h)
      ∙ take_at (take at l ++ column_of width v) (drop (at + width) l) (at + width)
      (length-append (take at l) (column_of width v) ∙ omega (arith, length-take-le at l (omega arith), length_column width v))

pub put_long : (l : List ℕ) (at : ℕ) (bytes : List ℕ) → length (put_at l at bytes) ≡ length l
unfolding put_at
put_long l at bytes =
    by_test (leb (at + length bytes) (length l))
    (λ e.
    let room : at + length bytes ≤ length l = leb-true _ _ e in
    rw e
    (length-append (take at l ++ bytes) (drop (at + length bytes) l)
    ∙ omega (arith, length-append (take at l) bytes, length-take-le at l (omega arith), length-drop (at + length bytes) l)))
    (λ e. rw e)
