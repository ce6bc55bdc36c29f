-- "The case file", F9: a file in parts that are cut at line ends.
-- Assumes nothing.
use Rattle.std.specs.Prelude.{List, [], ◌∷◌, ◌++◌, ℕ}
use Rattle.casefile.specs.File.{listing_of}

-- F9: what another part may follow: nothing, or bytes the last of which is 10
pub data WholeLines : List ℕ → Type 0 where
  nothing : WholeLines []
  ended : (bytes : List ℕ) → WholeLines (bytes ++ (10 ∷ []))

-- F9: parts that are cut at line ends: each but the last has whole lines
pub data CutAtLineEnds : List (List ℕ) → Type 0 where
  last : (part : List ℕ) → CutAtLineEnds (part ∷ [])
  before : (part : List ℕ) (parts : List (List ℕ)) → WholeLines part → CutAtLineEnds parts → CutAtLineEnds (part ∷ parts)

-- F9: the parts one after the other
unfoldable pub joined : List (List ℕ) → List ℕ
joined [] = []
joined (part ∷ parts) = part ++ joined parts

-- F9: the listing of each part by itself, one after the other
unfoldable pub listings_of : List (List ℕ) → List ℕ
listings_of [] = []
listings_of (part ∷ parts) = listing_of part ++ listings_of parts
