-- Which line of the listing each shape of a line has.
-- Assumes nothing.
use mathlib.Core.Bool.{Bool, true, false, ◌||◌, false≢true}
use mathlib.Core.List.{List}
use mathlib.Core.Path.{◌≡◌, refl, sym, ap, ◌∙◌}
use Prim.Native.Nat.{ℕ, ◌-◌, ◌<◌, ◌≤◌}
use native.Mathlib.Omega.{arith}
use borrow.Author.Tests.{lt-ltb, le-ltb}
use lib.Dec.{ltb}
use lib.ListN.{length, take, drop, length-drop}
use lib.Seq.{take_all}
use Rattle.common.specs.Choice.{pick}
use Rattle.common.proofs.Choice.{either}
use Rattle.settlement.specs.Settle.{settle_of}
use Rattle.case_line.specs.declared.Case.{Case}
use Rattle.std.proofs.Common.{Option, Some, None}
use Rattle.case_line.specs.Shape.{fields_of, all_digits, marks_in}
use Rattle.case_line.specs.Line.{fields_bytes, longest_line, listed_bytes, listed_as, wrong_shape, settled_line, line_of}
use Rattle.case_line.proofs.Row.{length_listed}

module _ (c : Case) (digits : List ℕ) where
  pub wrong_marks : all_digits digits ≡ false → settled_line (Some c) digits ≡ wrong_shape
  unfolding settled_line
  wrong_marks f = rw f

  pub settled_line_lem : (marks : List ℕ) → all_digits digits ≡ true → take (length digits) marks ≡ marks_in digits
      → settled_line (Some c) digits ≡ listed_as c.election (settle_of c.terms (take (length digits) marks))
  unfolding settled_line
  settled_line_lem marks t are = rw t (ap (λ (ms : List ℕ). listed_as c.election (settle_of c.terms ms)) (sym are))

-- where either of two tests is met, what each of them picks
either_wrong : {A : Type 0} (a b : Bool) (wrong right : A) → a || b ≡ true → pick a wrong (pick b wrong right) ≡ wrong
either_wrong true b wrong right e = refl
either_wrong false true wrong right e = refl
either_wrong false false wrong right e = absurd (false≢true e)

module _ (line : List ℕ) where
  -- a line of the wrong length has the wrong shape
  pub not_in_length : ltb (length line) fields_bytes || ltb longest_line (length line) ≡ true → line_of line ≡ wrong_shape
  unfolding line_of
  not_in_length e = either_wrong (ltb (length line) fields_bytes) (ltb longest_line (length line)) _ _ e

  pub too_short : length line < fields_bytes → line_of line ≡ wrong_shape
  unfolding line_of
  too_short h = rw (lt-ltb (length line) fields_bytes h)

  pub too_long : fields_bytes ≤ length line → longest_line < length line → line_of line ≡ wrong_shape
  unfolding line_of
  too_long low h = rw (le-ltb (length line) fields_bytes low, lt-ltb longest_line (length line) h)

  module _ (low : fields_bytes ≤ length line) (high : length line ≤ longest_line) where
    in_length : line_of line ≡ settled_line (fields_of line) (drop fields_bytes line)
    unfolding line_of
    in_length = rw (le-ltb (length line) fields_bytes low, le-ltb longest_line (length line) high)

    pub no_fields : fields_of line ≡ None → line_of line ≡ wrong_shape
    unfolding settled_line
    no_fields e = in_length ∙ rw e

    -- the digits are the whole rest of the line
    pub whole_line : {c : Case} → fields_of line ≡ Some c → line_of line ≡ settled_line (Some c) (take (length line - fields_bytes) (drop fields_bytes line))
    whole_line e =
        in_length ∙ ap (λ (f : Option Case). settled_line f (drop fields_bytes line)) e
        ∙ ap (settled_line _) (sym (take_all (length line - fields_bytes) (drop fields_bytes line) (omega (arith, length-drop fields_bytes line))))

length_wrong : length wrong_shape ≡ listed_bytes
unfolding wrong_shape
length_wrong = length_listed _ _

length_settled : (f : Option Case) (digits : List ℕ) → length (settled_line f digits) ≡ listed_bytes
unfolding settled_line
length_settled None digits = length_wrong
length_settled (Some c) digits = either (λ (l : List ℕ). length l ≡ listed_bytes) (all_digits digits) (length_listed _ _) length_wrong

-- a line of the listing has 46 bytes
pub length_line : (line : List ℕ) → length (line_of line) ≡ listed_bytes
unfolding line_of
length_line line =
    either (λ (l : List ℕ). length l ≡ listed_bytes) (ltb (length line) fields_bytes) length_wrong
    (either (λ (l : List ℕ). length l ≡ listed_bytes) (ltb longest_line (length line)) length_wrong (length_settled (fields_of line) (drop fields_bytes line)))
