-- "The case file", F8, in chunks. Between two chunks only the open line is kept: the bytes since the last line end, of which one more
-- than the longest line has stand for any more, since both are too long.
-- Assumes nothing.
use Rattle.std.specs.Prelude.{List, [], ◌∷◌, ◌++◌, ◌≡◌, ℕ, zero, suc, ◌/◌, eqb, length, take, drop, Option, Some, None}
use Rattle.common.specs.Choice.{pick}
use Rattle.casefile.specs.declared.open_line.OpenLine.{OpenLine}
use Rattle.casefile.specs.declared.ChunkSettled.{ChunkSettled}
use Rattle.case_line.specs.Line.{listed_bytes, longest_line, line_of}

-- F8: the bytes of an open line that are kept
abbrev pub kept_bytes : ℕ
kept_bytes = suc longest_line

-- F8: the line that is open after a chunk, where p was open before it
unfoldable pub open_after : List ℕ → List ℕ → List ℕ
open_after p [] = p
open_after p (b ∷ bs) = pick (eqb b 10) (open_after [] bs) (open_after (p ++ (b ∷ [])) bs)

-- F8: the lines of the listing for the lines that end in the chunk
unfoldable pub written_by : List ℕ → List ℕ → List ℕ
written_by p [] = []
written_by p (b ∷ bs) = pick (eqb b 10) (line_of p ++ written_by [] bs) (written_by (p ++ (b ∷ [])) bs)

-- F8: how many bytes of a chunk are worked through with room for n lines: up to its n-th line end, or all
unfoldable pub taken_with : ℕ → List ℕ → ℕ
taken_with zero bs = 0
taken_with (suc n) [] = 0
taken_with (suc n) (b ∷ bs) = suc (pick (eqb b 10) (taken_with n bs) (taken_with (suc n) bs))

-- F8: the bytes of an open line
abbrev pub bytes_of : OpenLine → List ℕ
bytes_of o = take o.len o.bytes

-- F8: what settling a chunk gives: how many of its bytes are taken, how many are written, the open line after them, and what `out` holds
pub record ChunkNumbers : Type 0 where
  pub taken : ℕ
  pub wrote : ℕ
  pub kept : List ℕ
  pub out : List ℕ

-- F8: these of an answer, beside `out`
abbrev pub numbers_of_chunk : ChunkSettled → List ℕ → ChunkNumbers
numbers_of_chunk r out = record { taken = r.taken; wrote = r.wrote; kept = bytes_of r.after; out = out }

-- F8: where n bytes of a chunk are taken and p was open before it: the lines that end among them stand at the start of `out`, with all
-- after them as it was
abbrev pub taken_of : List ℕ → List ℕ → List ℕ → ℕ → ChunkNumbers
taken_of p chunk out n =
    record {
      taken = n;
      wrote = length (written_by p (take n chunk));
      kept = take kept_bytes (open_after p (take n chunk));
      out = written_by p (take n chunk) ++ drop (length (written_by p (take n chunk))) out;
    }

-- F8: as many bytes are taken as `out` has room for in lines of the listing
unfoldable pub chunk_of : List ℕ → List ℕ → List ℕ → ChunkNumbers
chunk_of p chunk out = taken_of p chunk out (taken_with (length out / listed_bytes) chunk)

-- F5, F8: what the end of the file gives: the open line's line of the listing; nothing where none is open
unfoldable pub end_of : List ℕ → Option (List ℕ)
end_of [] = None
end_of (b ∷ bs) = Some (line_of (b ∷ bs))

-- F5, F8: the bytes that are written for it
abbrev pub row_bytes : Option (List ℕ) → List ℕ
row_bytes None = []
row_bytes (Some row) = row

-- F8: Any calls one after the other, then the call at the end: the open line before them, the bytes that they work through
-- and the bytes that they write.
pub data ListingCalls : OpenLine → List ℕ → List ℕ → Type 0 where
  at_end : {o : OpenLine} {r : Option (List ℕ)} → r ≡ end_of (bytes_of o) → ListingCalls o [] (row_bytes r)
  on_chunk : (o : OpenLine) (chunk out out' rest written : List ℕ) (r : ChunkSettled)
      → numbers_of_chunk r out' ≡ chunk_of (bytes_of o) chunk out → ListingCalls r.after rest written
      → ListingCalls o (take r.taken chunk ++ rest) (take r.wrote out' ++ written)
