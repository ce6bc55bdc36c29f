-- Mark digits read one at a time.
-- Assumes nothing.
use mathlib.Core.Bool.{true, false}
use Rattle.std.proofs.Common.{inl, inr}
use mathlib.Core.List.{List, [], ◌∷◌, ◌++◌, append-nil}
use mathlib.Core.Path.{◌≡◌, sym, ap, ◌∙◌}
use Prim.Native.Nat.{ℕ, ◌+◌, ◌-◌, ◌<◌, ◌≤◌}
use native.Mathlib.Numerals.{add-one}
use native.Mathlib.Omega.{arith}
use borrow.Author.Tests.{lt-ltb, le-ltb}
use Rattle.std.specs.Char.{IsNotAsciiDigit}
use lib.ListN.{length, take, drop, get_or, set, length-set, drop_of_length-le}
use lib.Seq.{drop-cons, take-suc-set, append_snoc}
use Rattle.case_line.specs.Shape.{all_digits, marks_in}

module _ (l : List ℕ) (i : ℕ) where
  pub no_digit : i < length l → IsNotAsciiDigit (get_or l i 0) → all_digits (drop i l) ≡ false
  unfolding all_digits
  no_digit h (inl low) = rw (drop-cons l i 0, lt-ltb (get_or l i 0) 48 low)
  no_digit h (inr high) = rw (drop-cons l i 0, le-ltb (get_or l i 0) 48 (omega arith), lt-ltb 57 (get_or l i 0) high)

  mark_digit : i < length l → 48 ≤ get_or l i 0 → get_or l i 0 ≤ 57 → all_digits (drop i l) ≡ all_digits (drop (i + 1) l)
  unfolding all_digits
  mark_digit h low high = rw (drop-cons l i 0, add-one, le-ltb (get_or l i 0) 48 low, le-ltb 57 (get_or l i 0) high)

  mark_number : i < length l → marks_in (drop i l) ≡ (get_or l i 0 - 48) ∷ marks_in (drop (i + 1) l)
  unfolding marks_in
  mark_number h = rw (drop-cons l i 0, add-one)

-- the loop's state: i digits are passed
pub record DigitsPassed (l old marks : List ℕ) (i : ℕ) : Type 0 where
  pub within : i ≤ length l
  pub long : length marks ≡ length old
  pub digits : all_digits l ≡ all_digits (drop i l)
  pub numbers : marks_in l ≡ take i marks ++ marks_in (drop i l)

pub mark_more : (l old ms : List ℕ) (i : ℕ) → DigitsPassed l old ms i → i < length l → length l ≤ length old
    → 48 ≤ get_or l i 0 → get_or l i 0 ≤ 57 → DigitsPassed l old (set ms i (get_or l i 0 - 48)) (i + 1)
mark_more l old ms i s h room low high =
    let v = get_or l i 0 - 48 in
    let rest = marks_in (drop (i + 1) l) in
    let more : take (i + 1) (set ms i v) ≡ take i ms ++ (v ∷ []) = rw add-one (take-suc-set ms i v (omega (arith, s.long))) in
    record {
      within = omega arith;
      long = length-set ms i _ ∙ s.long;
      digits = s.digits ∙ mark_digit l i h low high;
      numbers = s.numbers ∙ ap (λ (r : List ℕ). take i ms ++ r) (mark_number l i h)
          ∙ sym (append_snoc (take i ms) v rest)
          ∙ ap (λ (r : List ℕ). r ++ rest) (sym more);
    }

pub marks_end : (l old ms : List ℕ) (i : ℕ) → DigitsPassed l old ms i → length l ≤ i → (all_digits l ≡ true) × (take (length l) ms ≡ marks_in l)
unfolding all_digits marks_in
marks_end l old ms i s h =
    let all : length l ≡ i = omega (arith, s.within) in (
      s.digits ∙ rw (drop_of_length-le l h),
      sym (s.numbers ∙ rw (drop_of_length-le l h) (append-nil (take i ms)) ∙ ap (λ (n : ℕ). take n ms) (sym all)),
    )
