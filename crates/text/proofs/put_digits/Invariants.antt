-- `text::put_digits` meets its contract. The invariant: the columns from j on are written, and `left` is what those before are to say.
-- Assumes nothing.
use Rattle.std.proofs.Common.{◌≡◌, ◌++◌, suc, drop}
use Rattle.text.specs.Column.{front_of, column_of}
use Rattle.text.proofs.put_digits.Given as goal

abbrev pub invariant-loop-j : goal.invariant-loop-j
invariant-loop-j l = front_of l.j l.left ++ drop l.j l.columns ≡ column_of (suc l.last) l.v
