-- Each row's figure at a half is what the definitions give, by computation alone.
-- Assumes nothing.
use mathlib.Core.List.{map}
use mathlib.Core.Path.{◌≡◌, refl}
use Rattle.common.specs.Table.{tabulate}
use Rattle.rounding.specs.HalfEven.{off_by, nearer, half_even}
use Rattle.rounding.specs.Nearest.{nearest, blend, combine}
use Rattle.rates.specs.Rates.{table_of, cell_of, rate_by, rate_of}
use Rattle.terms.specs.Rate.{rate_for, table_rate}
use Rattle.election.specs.ContributionOf.{contribution_at, contribution_in, contribution_of}
use Rattle.years.specs.Years.{year_credit, year_credits, month_value}
use Rattle.credit.specs.Runs.{runs_from, run_from, runs_in}
use Rattle.credit.specs.Credit.{sum_over_runs, credit_over, credit_in}
use Rattle.settlement.specs.Credit.{credit_of}
use Rattle.rows.specs.Rows.{Row}
use Rattle.rows.specs.EvenRows.{even_contributions, even_years, even_months, even_credits, even_rows}

pub all_even_rows : map (λ (r : Row). r.found) even_rows ≡ map (λ (r : Row). r.stated) even_rows
unfolding even_rows even_contributions even_years even_months even_credits credit_of credit_in credit_over sum_over_runs runs_in runs_from run_from month_value year_credits year_credit tabulate contribution_of contribution_in contribution_at table_rate rate_for rate_of rate_by cell_of table_of combine blend nearest half_even nearer off_by
all_even_rows = refl
