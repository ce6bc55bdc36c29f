-- What callers use of the stream: a chunk's counts, and that calls on the chunks of a file write its listing.
-- Assumes nothing.
use mathlib.Core.List.{List, [], ◌∷◌, ◌++◌, append_assoc}
use mathlib.Core.Path.{◌≡◌, sym, ap, ◌∙◌}
use Prim.Native.Nat.{ℕ, zero, suc, ◌/◌, ◌<◌, ◌≤◌}
use native.Mathlib.Omega.{arith}
use lib.Dec.{eqb}
use lib.ListN.{length, take, drop, length-append, length-take}
use lib.Seq.{take_at, take_all}
use Rattle.common.proofs.Choice.{either}
use Rattle.case_line.specs.Line.{listed_bytes}
use Rattle.casefile.specs.declared.open_line.OpenLine.{OpenLine}
use Rattle.casefile.specs.declared.ChunkSettled.{ChunkSettled}
use Rattle.casefile.specs.File.{listing_of}
use Rattle.casefile.specs.Stream.{kept_bytes, open_after, written_by, taken_with, bytes_of}
use Rattle.casefile.specs.Stream.{ChunkNumbers, numbers_of_chunk, taken_of, chunk_of, row_bytes, ListingCalls, at_end, on_chunk}
use Rattle.casefile.proofs.Last.{end_writes}
use Rattle.casefile.proofs.Chunks.{written_at_end, open_append, written_append, listing_from, written_kept, end_kept, open_kept}

taken_within : (n : ℕ) (l : List ℕ) → taken_with n l ≤ length l
unfolding taken_with
taken_within zero l = omega arith
taken_within (suc n) [] = omega arith
taken_within (suc n) (b ∷ l) =
    either (λ (k : ℕ). suc k ≤ suc (length l)) (eqb b 10) (omega (arith, taken_within n l)) (omega (arith, taken_within (suc n) l))

taken_some : (n : ℕ) (l : List ℕ) → 0 < n → 0 < length l → 0 < taken_with n l
unfolding taken_with
taken_some zero l p q = absurd (omega arith)
taken_some (suc n) [] p q = absurd (omega arith)
taken_some (suc n) (b ∷ l) p q = omega arith

module _ (o : OpenLine) (chunk out out' : List ℕ) (r : ChunkSettled) (is : numbers_of_chunk r out' ≡ chunk_of (bytes_of o) chunk out) where
  taken_is : r.taken ≡ taken_with (length out / listed_bytes) chunk
  unfolding chunk_of
  taken_is = ap (λ (n : ChunkNumbers). n.taken) is

  by_taken : numbers_of_chunk r out' ≡ taken_of (bytes_of o) chunk out r.taken
  unfolding chunk_of
  by_taken = is ∙ ap (taken_of (bytes_of o) chunk out) (sym taken_is)

  wrote_is : r.wrote ≡ length (written_by (bytes_of o) (take r.taken chunk))
  wrote_is = ap (λ (n : ChunkNumbers). n.wrote) by_taken

  kept_is : bytes_of r.after ≡ take kept_bytes (open_after (bytes_of o) (take r.taken chunk))
  kept_is = ap (λ (n : ChunkNumbers). n.kept) by_taken

  -- no more is taken than there is, and something where a line fits
  pub chunk_taken : r.taken ≤ length chunk
  chunk_taken = omega (arith, taken_is, taken_within (length out / listed_bytes) chunk)

  pub chunk_moves : listed_bytes ≤ length out → 0 < length chunk → 0 < r.taken
  chunk_moves h k = omega (arith, taken_is, taken_some (length out / listed_bytes) chunk (omega arith) k)

  pub chunk_wrote : r.wrote ≤ length out'
  chunk_wrote =
      let w = written_by (bytes_of o) (take r.taken chunk) in
      omega (arith, wrote_is, ap (λ (n : ChunkNumbers). length n.out) by_taken ∙ length-append w (drop (length w) out))

  -- what is open after the part that was taken, where `first` came before it and p was open before that
  pub chunk_keeps : (p first : List ℕ) → bytes_of o ≡ take kept_bytes (open_after p first)
      → bytes_of r.after ≡ take kept_bytes (open_after p (first ++ take r.taken chunk))
  chunk_keeps p first e =
      kept_is ∙ ap (λ (q : List ℕ). take kept_bytes (open_after q (take r.taken chunk))) e ∙ open_kept p first (take r.taken chunk)

  written_is : take r.wrote out' ≡ written_by (bytes_of o) (take r.taken chunk)
  written_is =
      let w = written_by (bytes_of o) (take r.taken chunk) in
      ap (λ (n : ChunkNumbers). take r.wrote n.out) by_taken ∙ take_at w (drop (length w) out) r.wrote (sym wrote_is)

-- at the start all of an open line is kept
pub all_kept : (o : OpenLine) → bytes_of o ≡ take kept_bytes (open_after (bytes_of o) [])
unfolding open_after
all_kept o = sym (take_all kept_bytes (bytes_of o) (omega (arith, length-take o.len o.bytes, o.fits)))

calls_write : {o : OpenLine} {file written : List ℕ} → ListingCalls o file written
    → written ≡ written_by (bytes_of o) file ++ written_at_end (open_after (bytes_of o) file)
unfolding open_after written_by
calls_write {o} (at_end told) = ap row_bytes told ∙ end_writes (bytes_of o)
calls_write (on_chunk o chunk out out' rest written r is calls) =
    let p = bytes_of o in
    let part = take r.taken chunk in
    let q = open_after p part in
    let later : written ≡ written_by q rest ++ written_at_end (open_after q rest) =
    calls_write calls ∙ rw (kept_is o chunk out out' r is, written_kept q rest, end_kept q rest) in
    rw (written_is o chunk out out' r is, later)
    (sym (append_assoc (written_by p part) (written_by q rest) (written_at_end (open_after q rest)))
    ∙ sym (rw (written_append p part rest, open_append p part rest)))

-- calls that begin with no open line write the listing of all that they work through
pub calls_list : {o : OpenLine} {file written : List ℕ} → bytes_of o ≡ [] → ListingCalls o file written → written ≡ listing_of file
unfolding listing_of
calls_list {o} {file} e calls = calls_write calls ∙ rw e (sym (listing_from [] file))
