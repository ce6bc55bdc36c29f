-- Not rules: what the steps of settling a line promise each other.
-- Assumes nothing.
use Rattle.std.specs.Prelude.{true, false, List, ◌≡◌, Option, Some, None, ℕ, length, take}
use Rattle.case_line.specs.Shape.{all_digits, marks_in}
use Rattle.case_line.specs.Line.{wrong_shape}

-- whether all are digits, and their numbers where they are
abbrev pub DigitsRead : List ℕ → List ℕ → Option (Unit {0}) → Type 0
DigitsRead digits marks (Some _) = (all_digits digits ≡ true) × (take (length digits) marks ≡ marks_in digits)
DigitsRead digits marks None = all_digits digits ≡ false

-- the line of the listing for a line of the right shape, and else that for a wrong one
abbrev pub row_or_wrong_shape : Option (List ℕ) → List ℕ
row_or_wrong_shape (Some row) = row
row_or_wrong_shape None = wrong_shape
