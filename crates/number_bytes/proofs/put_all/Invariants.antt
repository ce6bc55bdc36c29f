-- `number_bytes::put_all` meets its contract. The loop's invariant: the numbers before i are stored, and nothing behind them is changed.
-- Assumes nothing.
use Rattle.std.proofs.Common.{◌≡◌}
use Rattle.number_bytes.proofs.Writing.{first_stored}
use Rattle.number_bytes.proofs.put_all.Given as goal

abbrev pub invariant-loop-i : goal.invariant-loop-i
invariant-loop-i l = l.out ≡ first_stored l.numbers l.initial.out l.i
