-- `text::put_number` meets its contract: where the columns are not all there, nothing is written.
-- Assumes nothing.
use Rattle.std.proofs.Common.{◌≡◌, ◌+◌, ◌-◌, length, take, drop, length-take, length-drop, sym, arith}
use Rattle.text.proofs.Writing.{put_no_column, put_column_short, put_lent}
use Rattle.text.proofs.put_number.Goals as goal
use Rattle.text.proofs.put_number.Goals.{else-width-gt0-via-then-width-gt0+then-at-out+else-width-out, else-width-gt0-via-then-width-gt0+else-at-out, else-width-gt0-via-else-width-gt0}

pub returns-then-width-out : goal.returns-then-width-out
returns-then-width-out c =
    let x = c.args in
    let wide : length (take (x.at + x.width - x.at) (drop x.at x.out.now)) ≡ x.width = simp (length-take, length-drop) (omega arith) in
    rw (c.put_digits.ensures, wide) (put_lent x.out.now x.at x.width x.v c.if-at-out.true c.if-width-out.true)

pub returns-else-width-gt0 : goal.returns-else-width-gt0
returns-else-width-gt0 c =
    let x = c.args in
    elim c.else-width-gt0.branch [
      | else-width-gt0-via-then-width-gt0+then-at-out+else-width-out w ↦ sym (put_column_short x.out.now x.at x.width x.v (omega arith))
      | else-width-gt0-via-then-width-gt0+else-at-out w ↦ sym (put_column_short x.out.now x.at x.width x.v (omega arith))
      | else-width-gt0-via-else-width-gt0 w ↦ sym (put_no_column x.out.now x.at x.width x.v (omega arith))
    ]
