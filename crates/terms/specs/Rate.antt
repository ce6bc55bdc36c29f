-- "Rates", R1 and R2, and "From rate to contribution and credit", C1: how many units the terms of an election buy, and the rate for one.
-- Assumes nothing.
use Rattle.std.specs.Prelude.{ℕ, ◌/◌, eqb}
use Rattle.common.specs.Choice.{pick}
use Rattle.scheme.specs.Scheme.{step_pounds}
use Rattle.rates.specs.Rates.{rate_of, lump_rate_of}
use Rattle.terms.specs.declared.Terms.{Terms}

-- T6, C1: the amount in steps of £250: a rate is for one
abbrev pub units_of : Terms → ℕ
units_of t = t.amount / step_pounds

-- R1, R2, T5: the rate per £250 for an option, a whole pension age, an age and a term: of Table S for a lump sum, else of the monthly
-- table; 0 where there is none
unfoldable pub rate_for : (option pension_age age term : ℕ) → ℕ
rate_for option pension_age age term = pick (eqb term 0) (lump_rate_of option pension_age age) (rate_of option pension_age age term)

-- C1: that of the terms at a whole pension age
unfoldable pub table_rate : Terms → (pension_age : ℕ) → ℕ
table_rate t pension_age = rate_for t.option pension_age t.age t.term
