-- `case_line::listed` meets its contract: seven fields one after the other, then the line end. z1 to z7 are the places after each.
-- Assumes nothing.
use lib.Dec.{lit≤}
use mathlib.Core.Path.{refl}
use Rattle.case_line.specs.Line.{listed_as}
use Rattle.case_line.proofs.Row.{nothing_filled, column_filled, line_ended}
use Rattle.case_line.proofs.listed.Goals as goal

pub returns : goal.returns
unfolding listed_as
returns c =
    let x = c.args in
    let f0 = nothing_filled _ refl in
    let f1 = column_filled 6 x.election f0 c.put_number.ensures (lit≤ tt) in
    let f2 = column_filled 3 x.n.refusal f1 c.put_number-2.ensures (lit≤ tt) in
    let f3 = column_filled 4 x.n.place f2 c.put_number-3.ensures (lit≤ tt) in
    let f4 = column_filled 2 x.n.status f3 c.put_number-4.ensures (lit≤ tt) in
    let f5 = column_filled 10 x.n.contribution f4 c.put_number-5.ensures (lit≤ tt) in
    let f6 = column_filled 10 x.n.credit f5 c.put_number-6.ensures (lit≤ tt) in
    let f7 = column_filled 10 x.n.refund f6 c.put_number-7.ensures (lit≤ tt) in
    line_ended f7
