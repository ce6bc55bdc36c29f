-- The line that the end of the file ends.
-- Assumes nothing.
use mathlib.Core.List.{List, [], ◌∷◌, append-nil}
use mathlib.Core.Path.{◌≡◌, refl, sym}
use Prim.Native.Nat.{ℕ, ◌<◌}
use native.Mathlib.Omega.{arith}
use lib.ListN.{length}
use Rattle.std.proofs.Common.{Some, None}
use Rattle.case_line.specs.Line.{line_of}
use Rattle.casefile.specs.File.{last_line_of, list_lines}
use Rattle.casefile.specs.Stream.{end_of, row_bytes}
use Rattle.casefile.proofs.Chunks.{written_at_end}

pub no_last_line : (p : List ℕ) → length p ≡ 0 → None ≡ end_of p
unfolding end_of
no_last_line [] e = refl
no_last_line (b ∷ p) e = absurd (omega arith)

pub last_line : (p : List ℕ) → 0 < length p → Some (line_of p) ≡ end_of p
unfolding end_of
last_line [] h = absurd (omega arith)
last_line (b ∷ p) h = refl

-- what is written is what the end of the file ends
pub end_writes : (p : List ℕ) → row_bytes (end_of p) ≡ written_at_end p
unfolding end_of written_at_end last_line_of list_lines
end_writes [] = refl
end_writes (b ∷ p) = sym (append-nil (line_of (b ∷ p)))
