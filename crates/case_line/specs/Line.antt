-- "The case file", F1 and F3 to F7: one line of the file to one line of the listing.
-- Assumes nothing.
use Rattle.std.specs.Prelude.{List, [], ◌∷◌, ◌++◌, ◌≡◌, Option, Some, None, ℕ, ltb, length, drop}
use Rattle.common.specs.Choice.{pick}
use Rattle.text.specs.Field.{field_of}
use Rattle.text.specs.Column.{column_of}
use Rattle.settlement.specs.Settle.{SettleNumbers, settle_of}
use Rattle.case_line.specs.declared.Case.{Case}
use Rattle.case_line.specs.Shape.{fields_of, all_digits, marks_in}

-- F3, F6: bytes before the marks, in the longest line, and in a line of the listing with its line end
abbrev pub fields_bytes : ℕ
fields_bytes = 29

abbrev pub longest_line : ℕ
longest_line = 285

abbrev pub listed_bytes : ℕ
listed_bytes = 46

-- F6: the seven fields of a line of the listing, and its line end
unfoldable pub listed_as : ℕ → SettleNumbers → List ℕ
listed_as election n =
    column_of 6 election
    ++ column_of 3 n.refusal
    ++ column_of 4 n.place
    ++ column_of 2 n.status
    ++ column_of 10 n.contribution
    ++ column_of 10 n.credit
    ++ column_of 10 n.refund
    ++ (10 ∷ [])

-- F7: the line for a wrong shape: the refusal 15 and nothing else
unfoldable pub wrong_shape : List ℕ
wrong_shape = listed_as 0 (record { refusal = 15; place = 0; contribution = 0; status = 0; credit = 0; refund = 0 })

-- F1: fields and marks, settled as Settle does, under the election's own number
unfoldable pub settled_line : Option Case → List ℕ → List ℕ
settled_line None digits = wrong_shape
settled_line (Some c) digits = pick (all_digits digits) (listed_as c.election (settle_of c.terms (marks_in digits))) wrong_shape

-- F3, F4: a line of 29 to 285 bytes has its eight fields and up to 256 marks; any other shape is 15
unfoldable pub line_of : List ℕ → List ℕ
line_of line =
    pick (ltb (length line) fields_bytes) wrong_shape
    (pick (ltb longest_line (length line)) wrong_shape
    (settled_line (fields_of line) (drop fields_bytes line)))

-- F6: the fields of the listing after the election number read back as the numbers that are written there
pub record ListedReadBack (n : SettleNumbers) : Type 0 where
  pub refusal : field_of (column_of 3 n.refusal) ≡ Some n.refusal
  pub place : field_of (column_of 4 n.place) ≡ Some n.place
  pub status : field_of (column_of 2 n.status) ≡ Some n.status
  pub contribution : field_of (column_of 10 n.contribution) ≡ Some n.contribution
  pub credit : field_of (column_of 10 n.credit) ≡ Some n.credit
  pub refund : field_of (column_of 10 n.refund) ≡ Some n.refund
