-- `text::digits_in` meets its contract.
-- Assumes nothing.
use Rattle.std.proofs.Common.{sym, ◌∙◌, arith}
use Rattle.text.proofs.Reading.{digit_more, no_digit, too_many, digits_end}
use Rattle.text.proofs.digits_in.Goals as goal
use Rattle.text.proofs.digits_in.Goals.{then-not-is_ascii_digit-via-then-not-is_ascii_digit, then-not-is_ascii_digit-via-else-not-is_ascii_digit+then-value-gt99999999}

pub returns-then-not-is_ascii_digit : goal.returns-then-not-is_ascii_digit
returns-then-not-is_ascii_digit c =
    let w = c.loop-b in
    elim c.then-not-is_ascii_digit.branch [
      | then-not-is_ascii_digit-via-then-not-is_ascii_digit n ↦ sym (no_digit _ _ _ c.loop-b-test.true n.if-not-is_ascii_digit.ensures.cases) ∙ w.invariant.1
      | then-not-is_ascii_digit-via-else-not-is_ascii_digit+then-value-gt99999999 n ↦ sym (too_many _ _ _ c.loop-b-test.true n.if-not-is_ascii_digit.ensures.cases n.if-value-gt99999999.true) ∙ w.invariant.1
    ]

pub loop-b-preserved : goal.loop-b-preserved
loop-b-preserved c =
    let digit = c.if-not-is_ascii_digit.ensures.cases in
    (omega arith, sym (digit_more _ _ _ c.loop-b-test.true digit c.if-value-gt99999999.false) ∙ c.loop-b.invariant.1)

pub returns : goal.returns
returns c = sym (digits_end _ _ _ c.loop-b-test.false) ∙ c.loop-b.invariant.1
