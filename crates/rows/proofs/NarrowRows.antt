-- Each row's figure at the greatest monthly rate is what the definitions give, by computation alone.
-- Assumes nothing.
use mathlib.Core.List.{map}
use mathlib.Core.Path.{◌≡◌, refl}
use Rattle.rounding.specs.Nearest.{combine}
use Rattle.rates.specs.Rates.{table_of, cell_of, rate_by, rate_of}
use Rattle.terms.specs.Rate.{rate_for, table_rate}
use Rattle.election.specs.ContributionOf.{contribution_at, contribution_in, contribution_of}
use Rattle.rows.specs.Rows.{Row}
use Rattle.rows.specs.NarrowRows.{narrow_rows}

pub all_narrow_rows : map (λ (r : Row). r.found) narrow_rows ≡ map (λ (r : Row). r.stated) narrow_rows
unfolding narrow_rows contribution_of contribution_in contribution_at table_rate rate_for rate_of rate_by cell_of table_of combine
all_narrow_rows = refl
