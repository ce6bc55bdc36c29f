-- Not rules: the upper table's whole-year credits, as the code works them out where they are needed.
-- Assumes nothing.
use Rattle.std.specs.Prelude.{Option, Some, None, List, ℕ, ◌+◌, eqb}
use Rattle.common.specs.Choice.{pick}
use Rattle.rounding.specs.Nearest.{nearest}
use Rattle.terms.specs.declared.Terms.{Terms}
use Rattle.years.specs.Years.{year_credits}
use Rattle.years.specs.Elected.{purchase_in}

-- odd months alone need them
unfoldable pub upper_years : Terms → Option (List ℕ)
upper_years t = pick (eqb t.pnpa_months 0) None (Some (year_credits nearest (purchase_in t (t.pnpa_years + 1))))
