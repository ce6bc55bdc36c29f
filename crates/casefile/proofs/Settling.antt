-- A chunk settled line by line.
-- Assumes nothing.
use mathlib.Core.List.{List, [], ◌∷◌, ◌++◌, append-nil, append_assoc}
use mathlib.Core.Path.{◌≡◌, refl, sym, ap, ◌∙◌}
use Prim.Native.Nat.{ℕ, zero, suc, ◌+◌, ◌-◌, ◌/◌, ◌<◌, ◌≤◌}
use native.Mathlib.Nat.{zero-add, sub-zero}
use native.Mathlib.Omega.{arith}
use lib.ListN.{length, take, drop, length-append}
use lib.Seq.{paste, length-paste, take_all, take_at, drop-drop, drop-append-add}
use Rattle.case_line.specs.Line.{listed_bytes, line_of}
use Rattle.casefile.specs.Stream.{kept_bytes, open_after, written_by, taken_with, chunk_of}
use Rattle.case_line.proofs.Shapes.{length_line}
use Rattle.casefile.proofs.Chunks.{open_append, written_append, line_kept, kept_more}
use Rattle.casefile.proofs.Ends.{NoEnd, no_end_open, no_end_written, no_end_taken, end_open, end_written}

-- the loop's state: p was open as the chunk began and `old` was lent; `rest` is left of the chunk, `now` is open before it, and `wrote`
-- bytes of `out` are written
pub record Settling (p chunk old now rest out : List ℕ) (wrote : ℕ) : Type 0 where
  pub done : List ℕ
  pub whole : done ++ rest ≡ chunk
  pub out_long : length out ≡ length old
  pub room : wrote ≤ length old
  pub kept : now ≡ take kept_bytes (open_after p done)
  pub count : wrote ≡ length (written_by p done)
  pub written : out ≡ written_by p done ++ drop wrote old
  pub ahead : taken_with (length old / listed_bytes) chunk ≡ length done + taken_with ((length old - wrote) / listed_bytes) rest

pub at_start : (p chunk old : List ℕ) → length p ≤ kept_bytes → Settling p chunk old p chunk old 0
unfolding open_after written_by
at_start p chunk old small =
    record {
      done = [];
      whole = refl;
      out_long = refl;
      room = omega arith;
      kept = sym (take_all kept_bytes p small);
      count = refl;
      written = refl;
      ahead = rw (sub-zero (length old), zero-add (taken_with (length old / listed_bytes) chunk));
    }

-- what is kept of an now line tells the same line
kept_line : (q part : List ℕ) → line_of (take kept_bytes q ++ part) ≡ line_of (q ++ part)
kept_line q part = sym (line_kept (take kept_bytes q ++ part)) ∙ ap line_of (sym (kept_more kept_bytes q part)) ∙ line_kept (q ++ part)

-- a line more behind what is written
row_more : (w old out row : List ℕ) (wrote : ℕ) → wrote ≡ length w → out ≡ w ++ drop wrote old → length row ≡ listed_bytes
    → paste out wrote row listed_bytes ≡ (w ++ row) ++ drop (wrote + listed_bytes) old
row_more w old out row wrote n e long =
    let there : take wrote out ≡ w = ap (take wrote) e ∙ take_at w (drop wrote old) wrote (sym n) in
    let behind : drop (wrote + listed_bytes) out ≡ drop (wrote + listed_bytes) old =
    ap (drop (wrote + listed_bytes)) e ∙ ap (λ (k : ℕ). drop (k + listed_bytes) (w ++ drop wrote old)) n ∙ drop-append-add w (drop wrote old) listed_bytes ∙ drop-drop listed_bytes wrote old in
    rw (there, behind, take_all listed_bytes row (omega arith))

taken_none : (n : ℕ) (l : List ℕ) → length l ≡ 0 → taken_with n l ≡ 0
unfolding taken_with
taken_none zero l e = refl
taken_none (suc n) [] e = refl
taken_none (suc n) (b ∷ l) e = absurd (omega arith)

module _ {p chunk old now rest out : List ℕ} {wrote : ℕ} (s : Settling p chunk old now rest out wrote) where
  module _ (free : listed_bytes ≤ length out - wrote) where
    -- what was open and what was written before the next part of the chunk, and how many lines fit after one more
    abbrev q : List ℕ
    q = open_after p s.done

    abbrev w : List ℕ
    w = written_by p s.done

    abbrev n : ℕ
    n = (length old - (wrote + listed_bytes)) / listed_bytes

    lines : (length old - wrote) / listed_bytes ≡ suc n
    lines = omega (arith, s.out_long)

    -- a line ends: `part` is its last part, and `more` comes behind it
    pub line_ended : (part more : List ℕ) {now' row out' : List ℕ} → NoEnd part → rest ≡ part ++ 10 ∷ more
        → row ≡ line_of (now ++ part) → now' ≡ [] → out' ≡ paste out wrote row listed_bytes
        → Settling p chunk old now' more out' (wrote + listed_bytes)
    unfolding taken_with
    line_ended part more {now'} {row} {out'} no_end cut is closed e =
        let line = part ++ (10 ∷ []) in
        let row_is : row ≡ line_of (q ++ part) = is ∙ ap (λ (r : List ℕ). line_of (r ++ part)) s.kept ∙ kept_line q part in
        let row_long : length row ≡ listed_bytes = ap length row_is ∙ length_line (q ++ part) in
        let opened : open_after p (s.done ++ line) ≡ [] = open_append p s.done line ∙ end_open q part in
        let listed : written_by p (s.done ++ line) ≡ w ++ row =
        written_append p s.done line ∙ ap (λ (r : List ℕ). w ++ r) (end_written q part no_end ∙ sym row_is) in
        let left : taken_with ((length old - wrote) / listed_bytes) rest ≡ length part + suc (taken_with n more) =
        ap (λ (k : ℕ). taken_with k rest) lines ∙ ap (taken_with (suc n)) cut ∙ no_end_taken n part (10 ∷ more) no_end in
        let long : length (s.done ++ line) ≡ length s.done + suc (length part) =
        length-append s.done line ∙ omega (arith, length-append part (10 ∷ [])) in
        record {
          done = s.done ++ line;
          whole = append_assoc s.done line more ∙ ap (λ (r : List ℕ). s.done ++ r) (append_assoc part (10 ∷ []) more ∙ sym cut) ∙ s.whole;
          out_long = ap length e ∙ length-paste out wrote row listed_bytes (omega (arith, s.out_long)) (omega arith) ∙ s.out_long;
          room = omega (arith, s.out_long);
          kept = closed ∙ sym (ap (take kept_bytes) opened);
          count = sym (ap length listed ∙ length-append w row ∙ omega (arith, s.count));
          written = e ∙ row_more w old out row wrote s.count s.written row_long ∙ ap (λ (r : List ℕ). r ++ drop (wrote + listed_bytes) old) (sym listed);
          ahead = s.ahead ∙ ap (λ (k : ℕ). length s.done + k) left ∙ omega (arith, long);
        }

    -- the line goes on past the chunk
    pub line_goes_on : {now' : List ℕ} → NoEnd rest → now' ≡ take kept_bytes (now ++ rest) → Settling p chunk old now' [] out wrote
    unfolding taken_with
    line_goes_on {now'} no_end k =
        let opened : open_after p (s.done ++ rest) ≡ q ++ rest = open_append p s.done rest ∙ no_end_open q rest no_end in
        let listed : written_by p (s.done ++ rest) ≡ w =
        written_append p s.done rest ∙ ap (λ (x : List ℕ). w ++ x) (no_end_written q rest no_end) ∙ append-nil w in
        let left : taken_with ((length old - wrote) / listed_bytes) rest ≡ length rest + taken_with ((length old - wrote) / listed_bytes) [] =
        ap (λ (r : List ℕ). taken_with ((length old - wrote) / listed_bytes) r) (sym (append-nil rest)) ∙ ap (λ (k : ℕ). taken_with k (rest ++ [])) lines
        ∙ no_end_taken n rest [] no_end ∙ ap (λ (k : ℕ). length rest + taken_with k []) (sym lines) in
        record {
          done = s.done ++ rest;
          whole = append-nil (s.done ++ rest) ∙ s.whole;
          out_long = s.out_long;
          room = s.room;
          kept = k ∙ ap (λ (x : List ℕ). take kept_bytes (x ++ rest)) s.kept ∙ sym (kept_more kept_bytes q rest) ∙ ap (take kept_bytes) (sym opened);
          count = s.count ∙ ap length (sym listed);
          written = s.written ∙ ap (λ (x : List ℕ). x ++ drop wrote old) (sym listed);
          ahead = s.ahead ∙ ap (λ (k : ℕ). length s.done + k) left ∙ omega (arith, length-append s.done rest);
        }

  length_whole : length s.done + length rest ≡ length chunk
  length_whole = sym (length-append s.done rest) ∙ ap length s.whole

  -- what is left is no more than the chunk has
  pub left_within : length rest ≤ length chunk
  left_within = omega (arith, length_whole)

  abbrev Settled : Type 0
  Settled = record { taken = length chunk - length rest; wrote = wrote; kept = now; out = out } ≡ chunk_of p chunk old

  at_stop : taken_with ((length old - wrote) / listed_bytes) rest ≡ 0 → Settled
  unfolding chunk_of
  at_stop none =
      let all : taken_with (length old / listed_bytes) chunk ≡ length s.done = s.ahead ∙ omega (arith, none) in
      let gone : length chunk - length rest ≡ length s.done = omega (arith, length_whole) in
      let part : take (length s.done) chunk ≡ s.done = ap (take (length s.done)) (sym s.whole) ∙ take_at s.done rest (length s.done) refl in
      rw (gone, all, part, s.written, s.count, s.kept)

  -- the chunk is through
  pub at_chunk_end : length rest ≡ 0 → Settled
  at_chunk_end h = at_stop (taken_none _ rest h)

  -- no further line fits
  pub at_full : length out - wrote < listed_bytes → Settled
  unfolding taken_with
  at_full h =
      let none : (length old - wrote) / listed_bytes ≡ 0 = omega (arith, s.out_long) in
      at_stop (ap (λ (k : ℕ). taken_with k rest) none)
