-- The loop of `reduction::reduction_limit`: the candidates before this one were tried and not taken.
-- Assumes nothing.
use Prim.Native.Nat.{◌+◌}
use Rattle.reduction.proofs.Searching.{Searching}
use Rattle.reduction.proofs.reduction_limit.Given as goal

abbrev pub invariant-loop-k : goal.invariant-loop-k
invariant-loop-k l = Searching l.fn.a l.k (l.first + l.k) l.power l.potentials
