-- `totals::member_total`: the records before the index are good, and the sum is that of their credits.
-- Assumes nothing.
use Rattle.totals.proofs.Adding.{Added}
use Rattle.totals.proofs.member_total.Given as goal

abbrev pub invariant-loop-index : goal.invariant-loop-index
invariant-loop-index l = Added l.records l.index-counter l.sum
