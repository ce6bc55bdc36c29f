-- `text::put_digits` meets its contract.
-- Assumes nothing.
use Rattle.std.proofs.Common.{◌≡◌, suc, ◌-◌, length, length-set, ◌∙◌, arith}
use Rattle.text.specs.Column.{front_of}
use Rattle.text.proofs.Writing.{last_column, column_more}
use Rattle.text.proofs.put_digits.Goals as goal

pub loop-j-init : goal.loop-j-init
loop-j-init c = last_column _ _ _ (omega arith)

pub loop-j-preserved : goal.loop-j-preserved
loop-j-preserved c =
    let long : length c.loop-j.columns ≡ length c.args.columns.now = c.loop-j.auto.columns ∙ simp length-set in
    column_more _ _ _ _ _ (omega arith) (omega arith) c.glyph.ensures c.loop-j.invariant

pub returns : goal.returns
unfolding front_of
returns c =
    let none : c.loop-j.j ≡ 0 = omega arith in
    let all : suc (length c.args.columns.now - 1) ≡ length c.args.columns.now = omega arith in
    rw (none, all) at c.loop-j.invariant
