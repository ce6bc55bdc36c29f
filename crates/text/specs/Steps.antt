-- Not rules: what the steps of reading a field promise each other, and what writing one makes of a list.
-- Assumes nothing.
use Rattle.std.specs.Prelude.{List, ◌++◌, ◌≡◌, ℕ, ◌+◌, ◌<◌, leb, length, get_or, take, drop}
use Rattle.common.specs.Choice.{pick}
use Rattle.text.specs.Field.{field_of}

-- what is left says the same as the whole field, and does not begin with a space
pub record Unpadded (whole left : List ℕ) : Type 0 where
  pub same : field_of left ≡ field_of whole
  pub stops : 0 < length left → get_or left 0 0 ≡ 32 → ⊥

-- the bytes put into a list at an index; as it was where it has no room for them
unfoldable pub put_at : List ℕ → ℕ → List ℕ → List ℕ
put_at l at bytes = pick (leb (at + length bytes) (length l)) (take at l ++ bytes ++ drop (at + length bytes) l) l
