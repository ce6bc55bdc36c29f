-- "The calls of a host", O22: numbers as bytes.
-- Assumes nothing.
use Rattle.std.specs.Prelude.{List, [], ◌∷◌, ◌++◌, ℕ, zero, suc, ◌/◌, ◌%◌}

-- O22: the k lowest bytes of n, low byte first
unfoldable pub low_bytes : ℕ → ℕ → List ℕ
low_bytes zero n = []
low_bytes (suc k) n = n % 256 ∷ low_bytes k (n / 256)

-- O22: an 8-byte number, low byte first
unfoldable pub eight_bytes : ℕ → List ℕ
eight_bytes n = low_bytes 8 n

-- O22: 8-byte numbers one after another
unfoldable pub in_bytes : List ℕ → List ℕ
in_bytes [] = []
in_bytes (n ∷ ns) = eight_bytes n ++ in_bytes ns
