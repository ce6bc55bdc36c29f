-- `number_bytes::put_all` meets its contract.
-- Assumes nothing.
use Rattle.std.proofs.Common.{◌∙◌, arith}
use Rattle.number_bytes.proofs.Writing.{eight_are, none_stored, number_stored, all_stored, no_room}
use Rattle.number_bytes.proofs.put_all.Goals as goal

pub returns-then-out-numbers : goal.returns-then-out-numbers
returns-then-out-numbers c = no_room _ _ (omega arith)

pub loop-i-init : goal.loop-i-init
loop-i-init c = none_stored c.args.numbers.now _

pub loop-i-preserved : goal.loop-i-preserved
loop-i-preserved c =
    number_stored _ _ _ _ _ c.loop-i-test.true c.loop-i.invariant (c.copy_from_slice.ensures.after ∙ c.to_le_bytes.ensures ∙ eight_are _)

pub returns : goal.returns
returns c = all_stored _ _ _ _ c.loop-i-test.false c.loop-i.auto.i-end (omega arith) c.loop-i.invariant
