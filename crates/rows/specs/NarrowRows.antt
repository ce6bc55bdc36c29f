-- "Narrow rates inside the lookup", N3: the greatest monthly rate of all, and what it leads to, as figures in pence.
-- Assumes nothing.
use Rattle.std.specs.Prelude.{List, [], ◌∷◌}
use Rattle.rates.specs.Rates.{rate_of}
use Rattle.lookup.specs.Narrow.{tenths_in_pence}
use Rattle.terms.specs.declared.Terms.{Terms}
use Rattle.election.specs.ContributionOf.{contribution_of}
use Rattle.rows.specs.Rows.{Row, ◌is◌, only}

-- N3: the whole cap from age 63, with dependant's pension, over one year: the one term for which D65 has a rate at that age
abbrev pub greatest : Terms
greatest = record { age = 63; pnpa_years = 65; pnpa_months = 0; option = 2; payer = 1; term = 1; amount = 6500 }

-- N1, N3: the rate is 3,816 tenths of a pound; for twenty-six units that makes 99,216 tenths, more than 16 bits hold
unfoldable pub narrow_rows : List Row
narrow_rows =
    (only (rate_of 2 65 63 1) is only (tenths_in_pence 3816))
    ∷ (only (contribution_of greatest) is only 992160)
    ∷ []
