-- The listing of a file in parts that are cut at line ends is that of each part, one after the other; it has one line for each of the file.
-- Assumes nothing.
use mathlib.Core.List.{List, [], ◌∷◌, ◌++◌, append_assoc, append-nil}
use mathlib.Core.Path.{◌≡◌, refl, sym, ap, ◌∙◌}
use Prim.Native.Nat.{ℕ, zero, suc, ◌*◌}
use native.Mathlib.Omega.{arith}
use lib.ListN.{length, length-append}
use Rattle.case_line.specs.Line.{listed_bytes, line_of}
use Rattle.case_line.proofs.Shapes.{length_line}
use Rattle.casefile.specs.File.{last_line_of, lines_after, list_lines, listing_of}
use Rattle.casefile.specs.Stream.{open_after, written_by}
use Rattle.casefile.specs.Parts.{WholeLines, nothing, ended, CutAtLineEnds, last, before, joined, listings_of}
use Rattle.casefile.proofs.Chunks.{written_at_end, open_append, written_append, listing_from}

-- no line is open after whole lines
none_open : {part : List ℕ} → WholeLines part → open_after [] part ≡ []
unfolding open_after
none_open nothing = refl
none_open (ended bytes) = open_append [] bytes (10 ∷ [])

-- so the end of the file lists nothing more
all_written : {part : List ℕ} → WholeLines part → listing_of part ≡ written_by [] part
unfolding listing_of written_at_end last_line_of list_lines
all_written {part} whole = listing_from [] part ∙ rw (none_open whole) (append-nil (written_by [] part))

-- two files one after the other, the first empty or ending with byte 10
pub two_parts : (first second : List ℕ) → WholeLines first → listing_of (first ++ second) ≡ listing_of first ++ listing_of second
unfolding listing_of
two_parts first second whole =
    let ends = written_by [] first in
    let both : listing_of (first ++ second) ≡ (ends ++ written_by [] second) ++ written_at_end (open_after [] second) =
    rw (listing_from [] (first ++ second), written_append [] first second, open_append [] first second, none_open whole) in
    both ∙ rw (all_written whole, listing_from [] second) (append_assoc ends (written_by [] second) (written_at_end (open_after [] second)))

-- any number of them
pub all_parts : {parts : List (List ℕ)} → CutAtLineEnds parts → listing_of (joined parts) ≡ listings_of parts
unfolding joined listings_of
all_parts (last part) = ap listing_of (append-nil part) ∙ sym (append-nil (listing_of part))
all_parts (before part parts whole cut) = two_parts part (joined parts) whole ∙ ap (λ (r : List ℕ). listing_of part ++ r) (all_parts cut)

lines_long : (lines : List (List ℕ)) → length (list_lines lines) ≡ listed_bytes * length lines
unfolding list_lines
lines_long [] = refl
lines_long (line ∷ lines) = omega (arith, length-append (line_of line) (list_lines lines), length_line line, lines_long lines)

-- the listing has 46 bytes for each line of the file
pub listing_long : (file : List ℕ) → length (listing_of file) ≡ listed_bytes * length (lines_after [] file)
unfolding listing_of
listing_long file = lines_long (lines_after [] file)
