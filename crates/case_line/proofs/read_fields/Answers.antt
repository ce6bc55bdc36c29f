-- `case_line::read_fields` meets its contract.
-- Assumes nothing.
use Rattle.std.proofs.Common.{sym, ◌∙◌}
use Rattle.case_line.proofs.Reading.{no_election, no_age, no_years, no_months, no_option, no_payer, no_term, no_amount, fields_are}
use Rattle.case_line.proofs.read_fields.Goals as goal

pub returns-in_err-election : goal.returns-in_err-election
returns-in_err-election c = c.from_residual.ensures ∙ sym (no_election c.args.line.now (sym c.number_in.ensures ∙ c.in_err-election.was))

pub returns-in_err-age : goal.returns-in_err-age
returns-in_err-age c = c.from_residual-in_err-age.ensures ∙ sym (no_age c.args.line.now (sym c.number_in.ensures ∙ c.in_ok-election.was) (sym c.number_in-2.ensures ∙ c.in_err-age.was))

pub returns-in_err-pnpa_years : goal.returns-in_err-pnpa_years
returns-in_err-pnpa_years c = c.from_residual-in_err-pnpa_years.ensures ∙ sym (no_years c.args.line.now (sym c.number_in.ensures ∙ c.in_ok-election.was) (sym c.number_in-2.ensures ∙ c.in_ok-age.was) (sym c.number_in-3.ensures ∙ c.in_err-pnpa_years.was))

pub returns-in_err-pnpa_months : goal.returns-in_err-pnpa_months
returns-in_err-pnpa_months c = c.from_residual-in_err-pnpa_months.ensures ∙ sym (no_months c.args.line.now (sym c.number_in.ensures ∙ c.in_ok-election.was) (sym c.number_in-2.ensures ∙ c.in_ok-age.was) (sym c.number_in-3.ensures ∙ c.in_ok-pnpa_years.was) (sym c.number_in-4.ensures ∙ c.in_err-pnpa_months.was))

pub returns-in_err-option : goal.returns-in_err-option
returns-in_err-option c = c.from_residual-in_err-option.ensures ∙ sym (no_option c.args.line.now (sym c.number_in.ensures ∙ c.in_ok-election.was) (sym c.number_in-2.ensures ∙ c.in_ok-age.was) (sym c.number_in-3.ensures ∙ c.in_ok-pnpa_years.was) (sym c.number_in-4.ensures ∙ c.in_ok-pnpa_months.was) (sym c.number_in-5.ensures ∙ c.in_err-option.was))

pub returns-in_err-payer : goal.returns-in_err-payer
returns-in_err-payer c = c.from_residual-in_err-payer.ensures ∙ sym (no_payer c.args.line.now (sym c.number_in.ensures ∙ c.in_ok-election.was) (sym c.number_in-2.ensures ∙ c.in_ok-age.was) (sym c.number_in-3.ensures ∙ c.in_ok-pnpa_years.was) (sym c.number_in-4.ensures ∙ c.in_ok-pnpa_months.was) (sym c.number_in-5.ensures ∙ c.in_ok-option.was) (sym c.number_in-6.ensures ∙ c.in_err-payer.was))

pub returns-in_err-term : goal.returns-in_err-term
returns-in_err-term c = c.from_residual-in_err-term.ensures ∙ sym (no_term c.args.line.now (sym c.number_in.ensures ∙ c.in_ok-election.was) (sym c.number_in-2.ensures ∙ c.in_ok-age.was) (sym c.number_in-3.ensures ∙ c.in_ok-pnpa_years.was) (sym c.number_in-4.ensures ∙ c.in_ok-pnpa_months.was) (sym c.number_in-5.ensures ∙ c.in_ok-option.was) (sym c.number_in-6.ensures ∙ c.in_ok-payer.was) (sym c.number_in-7.ensures ∙ c.in_err-term.was))

pub returns-in_err-amount : goal.returns-in_err-amount
returns-in_err-amount c = c.from_residual-in_err-amount.ensures ∙ sym (no_amount c.args.line.now (sym c.number_in.ensures ∙ c.in_ok-election.was) (sym c.number_in-2.ensures ∙ c.in_ok-age.was) (sym c.number_in-3.ensures ∙ c.in_ok-pnpa_years.was) (sym c.number_in-4.ensures ∙ c.in_ok-pnpa_months.was) (sym c.number_in-5.ensures ∙ c.in_ok-option.was) (sym c.number_in-6.ensures ∙ c.in_ok-payer.was) (sym c.number_in-7.ensures ∙ c.in_ok-term.was) (sym c.number_in-8.ensures ∙ c.in_err-amount.was))

pub returns : goal.returns
returns c =
    sym
    (fields_are c.args.line.now (sym c.number_in.ensures ∙ c.in_ok-election.was) (sym c.number_in-2.ensures ∙ c.in_ok-age.was) (sym c.number_in-3.ensures ∙ c.in_ok-pnpa_years.was) (sym c.number_in-4.ensures ∙ c.in_ok-pnpa_months.was) (sym c.number_in-5.ensures ∙ c.in_ok-option.was) (sym c.number_in-6.ensures ∙ c.in_ok-payer.was) (sym c.number_in-7.ensures ∙ c.in_ok-term.was) (sym c.number_in-8.ensures ∙ c.in_ok-amount.was))
