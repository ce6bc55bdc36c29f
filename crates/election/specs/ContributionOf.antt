-- "From rate to contribution and credit", C1 to C3: the contribution of terms.
-- Assumes nothing.
use Rattle.std.specs.Prelude.{ℕ, ◌+◌, ◌*◌}
use Rattle.rounding.specs.Nearest.{combine}
use Rattle.terms.specs.declared.Terms.{Terms}
use Rattle.terms.specs.Rate.{units_of, table_rate}

-- C1: a table's own contribution: units × rate
unfoldable pub contribution_at : Terms → (rate : ℕ) → ℕ
contribution_at t rate = units_of t * rate

-- C1, C3: that of the table of a whole pension age
unfoldable pub contribution_in : Terms → (pension_age : ℕ) → ℕ
contribution_in t pension_age = contribution_at t (table_rate t pension_age)

-- C2 to C4: at a whole pension age that of the one table, exact in pence; with odd months each neighbouring table's own, combined
unfoldable pub contribution_of : Terms → ℕ
contribution_of t = combine t.pnpa_months (contribution_in t t.pnpa_years) (contribution_in t (t.pnpa_years + 1))
