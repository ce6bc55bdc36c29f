-- `text::number_in` meets its contract: past the spaces it is a blank, a digit 0 or other digits.
-- Assumes nothing.
use Rattle.std.proofs.Common.{sym, ◌∙◌}
use Rattle.text.proofs.Reading.{blank_field, said_from, zero_alone, zero_leads, digits_begin}
use Rattle.text.proofs.number_in.Goals as goal

pub returns-in_err-start : goal.returns-in_err-start
returns-in_err-start c = c.from_residual.ensures ∙ sym (blank_field _ (sym c.first_said.ensures ∙ c.in_err-start.was))

pub returns-then-said-eq1 : goal.returns-then-said-eq1
returns-then-said-eq1 c =
    let s = said_from _ _ (sym c.first_said.ensures ∙ c.in_ok-start.was) in
    sym (s.same ∙ zero_alone _ c.if-said-eq-ZERO.true c.if-said-eq1.true)

pub returns-else-said-eq1 : goal.returns-else-said-eq1
returns-else-said-eq1 c =
    let s = said_from _ _ (sym c.first_said.ensures ∙ c.in_ok-start.was) in
    sym (s.same ∙ zero_leads _ c.if-said-eq-ZERO.true c.if-said-eq1.false)

pub returns : goal.returns
returns c =
    let s = said_from _ _ (sym c.first_said.ensures ∙ c.in_ok-start.was) in
    c.digits_in.ensures ∙ sym (s.same ∙ digits_begin _ _ s c.if-said-eq-ZERO.false)
