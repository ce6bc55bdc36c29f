-- Not rules: the rates that terms go by, as the code looks them up once and hands them on.
-- Assumes nothing.
use Rattle.std.specs.Prelude.{Option, Some, None, ℕ, ◌+◌, eqb}
use Rattle.common.specs.Choice.{pick}
use Rattle.terms.specs.declared.Terms.{Terms}
use Rattle.terms.specs.Rate.{table_rate}
use Rattle.election.specs.declared.TableRates.{TableRates}

-- a rate that is looked up, where there is one: 0 says that nothing is printed
abbrev pub if_printed : ℕ → Option ℕ
if_printed rate = pick (eqb rate 0) None (Some rate)

-- the rate of the upper pension age, which odd months alone need
unfoldable pub upper_rate : Terms → Option ℕ
upper_rate t = pick (eqb t.pnpa_months 0) None (Some (table_rate t (t.pnpa_years + 1)))

-- that of the only or lower pension age beside it
abbrev pub rates_of : Terms → TableRates
rates_of t = record { lower = table_rate t t.pnpa_years; upper = upper_rate t }
