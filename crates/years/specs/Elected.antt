-- "From rate to contribution and credit", C1 and C7: what the terms of an election buy by the monthly table of a whole pension age.
-- Assumes nothing.
use Rattle.std.specs.Prelude.{ℕ}
use Rattle.scheme.specs.Scheme.{step_pence}
use Rattle.rates.specs.Rates.{rate_of}
use Rattle.terms.specs.declared.Terms.{Terms}
use Rattle.terms.specs.Rate.{units_of}
use Rattle.years.specs.Years.{Purchase}

-- C1, C7: the table's rates for the option and the age, and the units that the amount has
abbrev pub purchase_in : Terms → (pension_age : ℕ) → Purchase
purchase_in t pension_age =
    record { rate = rate_of t.option pension_age t.age; unit = step_pence; units = units_of t; term = t.term }
