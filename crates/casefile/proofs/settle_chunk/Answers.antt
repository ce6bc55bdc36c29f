-- `casefile::settle_chunk` meets its contract. The invariant: what is gone of the chunk is settled.
-- Assumes nothing.
use Rattle.std.proofs.Common.{◌≡◌, length, take, arith, sym}
use Rattle.std.proofs.Math.ListN.{length-take}
use Rattle.std.proofs.lemmas.Slice.{put_mid-paste}
use borrow.Author.Rules.{rules}
use borrow.Author.Tests.{eqb-true}
use Rattle.case_line.specs.Line.{listed_bytes}
use Rattle.casefile.proofs.Ends.{end_given, none_given}
use Rattle.casefile.proofs.Settling.{at_start, line_ended, line_goes_on, at_full, at_chunk_end}
use Rattle.casefile.proofs.settle_chunk.Goals as goal
use Rattle.casefile.proofs.settle_chunk.Goals.{then-lines-test+else-out-wrote-ge-LISTED_BYTES, else-lines-test}

pub lines-init : goal.lines-init
lines-init c = at_start _ _ _ (omega (arith, length-take c.args.before.len c.args.before.bytes, c.args.before.fits))

pub lines-preserved-in-Some : goal.lines-preserved-in-Some
lines-preserved-in-Some c =
    let found = end_given c.lines.rest.now c.in-Some.ensures in
    let long : length c.end-row.result ≡ listed_bytes = search rules in
    line_ended c.lines.invariant (omega arith) (take c.in-Some.end c.lines.rest.now) _ found.before found.cut c.end-row.ensures.row
    c.end-row.ensures.none_open (put_mid-paste c.lines.wrote _ _ _ _ listed_bytes c.copy_from_slice.ensures.after (omega arith) (sym long))

pub lines-preserved : goal.lines-preserved
lines-preserved c = line_goes_on c.lines.invariant (omega arith) (none_given c.lines.rest.now c.in-None.ensures) c.keep.ensures

pub returns : goal.returns
returns c =
    elim c.lines-test.branch [
      | then-lines-test+else-out-wrote-ge-LISTED_BYTES w ↦ at_full c.lines.invariant (omega arith)
      | else-lines-test w ↦ at_chunk_end c.lines.invariant (eqb-true _ _ (sym w.lines-test.ensures))
    ]
