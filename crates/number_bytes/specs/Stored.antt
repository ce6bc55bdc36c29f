-- Not rules: what storing numbers makes of a buffer, which the calls of a host go by.
-- Assumes nothing.
use Rattle.std.specs.Prelude.{List, ◌++◌, ℕ, ◌*◌, ltb, length, drop}
use Rattle.common.specs.Choice.{pick}
use Rattle.number_bytes.specs.Bytes.{in_bytes}

-- 8-byte numbers at the front of a buffer; where they have not room, it stays as it is
unfoldable pub stored_in : (numbers buffer : List ℕ) → List ℕ
stored_in ns buffer = pick (ltb (length buffer) (8 * length ns)) buffer (in_bytes ns ++ drop (8 * length ns) buffer)
