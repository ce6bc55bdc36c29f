-- "The case file", F1, F5 and F6: a whole file to a whole listing.
-- Assumes nothing.
use Rattle.std.specs.Prelude.{List, [], ◌∷◌, ◌++◌, ℕ, eqb}
use Rattle.common.specs.Choice.{pick}
use Rattle.case_line.specs.Line.{line_of}

-- F5: the end of the file ends a line that has begun; after a last byte 10, and in an empty file, none has
unfoldable pub last_line_of : List ℕ → List (List ℕ)
last_line_of [] = []
last_line_of (b ∷ bs) = (b ∷ bs) ∷ []

-- F5: a line ends at byte 10, which is no part of it; p is what is passed of the line
unfoldable pub lines_after : List ℕ → List ℕ → List (List ℕ)
lines_after p [] = last_line_of p
lines_after p (b ∷ bs) = pick (eqb b 10) (p ∷ lines_after [] bs) (lines_after (p ++ (b ∷ [])) bs)

-- F1, F6: a line of the listing for each line, in order; no header
unfoldable pub list_lines : List (List ℕ) → List ℕ
list_lines [] = []
list_lines (l ∷ ls) = line_of l ++ list_lines ls

-- F1: the listing of a file
unfoldable pub listing_of : List ℕ → List ℕ
listing_of file = list_lines (lines_after [] file)
