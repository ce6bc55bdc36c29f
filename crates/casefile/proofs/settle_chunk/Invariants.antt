-- `casefile::settle_chunk` meets its contract. The invariant: what is gone of the chunk is settled.
-- Assumes nothing.
use lib.ListN.{length}
use Rattle.casefile.specs.Stream.{bytes_of}
use Rattle.casefile.proofs.Settling.{Settling}
use Rattle.casefile.proofs.settle_chunk.Given as goal

abbrev pub invariant-lines : goal.invariant-lines
invariant-lines l = Settling (bytes_of l.initial.line) l.chunk l.initial.out (bytes_of l.line) l.rest l.out l.wrote

abbrev pub decreases-lines : goal.decreases-lines
decreases-lines l = length l.rest
