-- Not rules: monthly tables as the code holds them, in tenths of a pound. Rules, and promises to callers, are in pence.
-- Assumes nothing.
use Rattle.std.specs.Prelude.{List, [], Option, Some, None, map, ℕ}
use Rattle.std.specs.Borrow.{Bor}
use Rattle.lookup.specs.Narrow.{tenths_in_pence}

-- a table in tenths of a pound, number by number in pence
abbrev pub table_in_pence : List ℕ → List ℕ
table_in_pence table = map tenths_in_pence table

-- the table that is lent, in pence, and no entries where none is
abbrev pub lent_in_pence : Option (Bor (List ℕ)) → List ℕ
lent_in_pence (Some table) = table_in_pence table.now
lent_in_pence None = []
