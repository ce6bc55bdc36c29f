-- `settle_cases::print_settled` meets its contract: the open line is what is kept after the bytes that are gone, and each call takes some.
-- Assumes nothing.
use Rattle.std.proofs.Common.{List, ℕ, [], ◌++◌, ◌-◌, ◌≡◌, ◌≤◌, ◌<◌, length, take, drop, arith, sym, ap, refl, ◌∙◌, append_assoc, length-append, length-drop}
use lib.ListN.{length-take, take-append-drop}
use lib.Seq.{take_all}
use borrow.Author.Rules.{rules}
use borrow.Author.Tests.{eqb-false}
use Rattle.case_line.specs.Line.{listed_bytes}
use Rattle.casefile.specs.declared.open_line.OpenLine.{OpenLine}
use Rattle.casefile.specs.declared.ChunkSettled.{ChunkSettled}
use Rattle.casefile.specs.Stream.{bytes_of, numbers_of_chunk, chunk_of}
use Rattle.casefile.proofs.Laws.{chunk_taken, chunk_moves, chunk_wrote, chunk_keeps, all_kept}
use Rattle.settle_cases.proofs.print_settled.Invariants.{Kept}
use Rattle.settle_cases.proofs.print_settled.Given.{Over}
use Rattle.settle_cases.proofs.print_settled.Goals.{After-settle_chunk-done}
use Rattle.settle_cases.proofs.print_settled.Goals as goal

-- a call on what is left
record Called (before : OpenLine) (read rest out' : List ℕ) (r : ChunkSettled) : Type 0 where
  some : 0 < r.taken
  taken : r.taken ≤ length rest
  wrote : r.wrote ≤ length out'
  kept : Kept before read (take (length rest - r.taken) (drop r.taken rest)) r.after

called : {before line : OpenLine} {read rest : List ℕ} (out out' : List ℕ) (r : ChunkSettled) → Kept before read rest line
    → numbers_of_chunk r out' ≡ chunk_of (bytes_of line) rest out → listed_bytes ≤ length out → (length rest ≡ 0 → ⊥) → Called before read rest out' r
called {before} {line} {read} {rest} out out' r k is room left =
    let behind = take (length rest - r.taken) (drop r.taken rest) in
    let moves : 0 < r.taken = chunk_moves line rest out out' r is room (omega arith) in
    let all : behind ≡ drop r.taken rest = take_all (length rest - r.taken) (drop r.taken rest) (omega (arith, length-drop r.taken rest)) in
    record {
      some = moves;
      taken = chunk_taken line rest out out' r is;
      wrote = chunk_wrote line rest out out' r is;
      kept = record {
        gone = k.gone ++ take r.taken rest;
        whole =
            append_assoc k.gone (take r.taken rest) behind
            ∙ ap (λ (l : List ℕ). k.gone ++ l) (ap (λ (l : List ℕ). take r.taken rest ++ l) all ∙ take-append-drop r.taken rest)
            ∙ k.whole;
        after = record {
          same = λ e. absurd (omega (arith, e, length-append k.gone (take r.taken rest), length-take r.taken rest));
          kept = chunk_keeps line rest out out' r is (bytes_of before) k.gone k.after.kept;
        };
      };
    }

smaller : (rest : List ℕ) (n : ℕ) → 0 < n → n ≤ length rest → length (take (length rest - n) (drop n rest)) < length rest
smaller rest n some within = omega (arith, length-take (length rest - n) (drop n rest))

one : (g : Over) (c : After-settle_chunk-done g)
    → Called c.args.before c.args.read.now c.loop-rest.rest.now c.settle_chunk-done.new.out c.settle_chunk-done.result
one g c = called c.loop-rest.out c.settle_chunk-done.new.out c.settle_chunk-done.result c.loop-rest.invariant c.settle_chunk-done.ensures (search rules) (eqb-false _ _ (sym c.loop-rest-test.ensures))

pub loop-rest-init : goal.loop-rest-init
loop-rest-init g c = record { gone = []; whole = refl; after = record { same = λ _. refl; kept = all_kept c.args.before } }

pub shared_ref_as_front-write_all : goal.shared_ref_as_front-write_all
shared_ref_as_front-write_all g c =
    let call = one g (goal.at.shared_ref_as_front-write_all g c).After-settle_chunk-done in
    let long : length c.settle_chunk-done.new.out ≡ 65536 = search rules in
    omega (arith, call.wrote)

pub slice_bounds-rest-count : goal.slice_bounds-rest-count
slice_bounds-rest-count g c = (one g (goal.at.slice_bounds-rest-count g c).After-settle_chunk-done).taken

pub slice_bounds-rest-start : goal.slice_bounds-rest-start
slice_bounds-rest-start g c = (one g (goal.at.slice_bounds-rest-start g c).After-settle_chunk-done).taken

pub loop-rest-smaller : goal.loop-rest-smaller
loop-rest-smaller g c =
    let call = one g (goal.at.loop-rest-smaller g c).After-settle_chunk-done in
    smaller c.loop-rest.rest.now c.settle_chunk-done.result.taken call.some call.taken

pub loop-rest-preserved : goal.loop-rest-preserved
loop-rest-preserved g c = (one g (goal.at.loop-rest-preserved g c).After-settle_chunk-done).kept
