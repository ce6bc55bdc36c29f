-- "The case file", F2: a number written in a field, right-justified. A column is one byte of it.
-- Assumes nothing.
use Rattle.std.specs.Prelude.{List, [], ◌∷◌, ◌++◌, ℕ, zero, suc, ◌+◌, ◌/◌, ◌%◌, eqb}
use Rattle.common.specs.Choice.{pick}

-- F2: one column: the last digit of v, and a space where v has none left
unfoldable pub glyph_of : ℕ → ℕ
glyph_of v = pick (eqb v 0) 32 (48 + v % 10)

-- F2: the columns before the last digit
unfoldable pub front_of : ℕ → ℕ → List ℕ
front_of zero v = []
front_of (suc w) v = front_of w (v / 10) ++ (glyph_of v ∷ [])

-- F2: v in w columns, filled with spaces on the left; the last always has a digit. Of a longer number only the last w digits
-- (in the listing none occurs: case_line/proofs/Wide)
unfoldable pub column_of : ℕ → ℕ → List ℕ
column_of zero v = []
column_of (suc w) v = front_of w (v / 10) ++ ((48 + v % 10) ∷ [])
