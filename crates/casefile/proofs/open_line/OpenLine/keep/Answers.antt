-- `OpenLine::keep` meets its contract.
-- Assumes nothing.
use Rattle.std.proofs.Common.{arith, sym, length, ◌≡◌}
use lib.Seq.{length-take-le}
use borrow.Author.Rules.{rules}
use Rattle.std.proofs.lemmas.Slice.{put_mid-paste}
use Rattle.casefile.specs.Stream.{kept_bytes}
use Rattle.casefile.proofs.Keeping.{kept_part}
use Rattle.casefile.proofs.open_line.OpenLine.keep.Goals as goal

pub returns : goal.returns
returns c =
    let part = c.args.part.now in
    let n = c.min-n.result in
    let long : length c.args.self.now.bytes ≡ kept_bytes = search rules in
    let from = length-take-le n part (omega (arith, c.min-n.ensures)) in
    kept_part c.args.self.now.bytes c.args.self.now.len part long c.args.self.now.fits (omega (arith, c.min-n.ensures))
    (put_mid-paste c.args.self.now.len _ _ _ _ n c.copy_from_slice.ensures.after (omega arith) (sym from))
