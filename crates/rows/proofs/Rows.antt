-- Each row's figure is what the definitions give, by computation alone.
-- Assumes nothing.
use mathlib.Core.List.{map}
use mathlib.Core.Path.{◌≡◌, refl}
use Rattle.common.specs.Table.{tabulate}
use Rattle.rounding.specs.HalfEven.{off_by, nearer, half_even}
use Rattle.rounding.specs.Nearest.{nearest, blend, combine}
use Rattle.rates.specs.Rates.{table_of, cell_of, rate_by, rate_of}
use Rattle.terms.specs.Rate.{rate_for, table_rate}
use Rattle.terms.specs.Rules.{wrong_option, wrong_pension_age, wrong_term, wrong_payer, no_rate, no_upper_rate, wrong_amount, above_cap, refusal_of}
use Rattle.election.specs.ContributionOf.{contribution_at, contribution_in, contribution_of}
use Rattle.marks.specs.Kind.{kind_of, mark_limit}
use Rattle.marks.specs.Counts.{last_or, are_all_paid, paid_months, paid_through, final_gap, payments_of}
use Rattle.marks.specs.Refusal.{mark_refusal, first_refusal, marks_refusal}
use Rattle.marks.specs.Status.{stopped_of, status_of}
use Rattle.years.specs.Years.{year_credit, year_credits, month_value}
use Rattle.credit.specs.Runs.{runs_from, run_from, runs_in}
use Rattle.credit.specs.Credit.{sum_over_runs, credit_over, credit_in}
use Rattle.distance.specs.Exact.{exact_year, exact_month, exact_from, exact_credit}
use Rattle.settlement.specs.Credit.{credit_of, exact_credit_of}
use Rattle.examination.specs.Refusal.{settle_refusal}
use Rattle.settlement.specs.Settle.{credit_at_status, refund_at_status, settle_of}
use Rattle.rows.specs.Rows.{Row, price_rows, credit_rows, exact_rows, status_rows, telling_rows, rows}

pub all_rows : map (λ (r : Row). r.found) rows ≡ map (λ (r : Row). r.stated) rows
unfolding rows price_rows credit_rows exact_rows status_rows telling_rows settle_of settle_refusal credit_at_status refund_at_status credit_of credit_in credit_over sum_over_runs runs_in runs_from run_from month_value year_credits year_credit tabulate marks_refusal mark_limit kind_of first_refusal mark_refusal status_of stopped_of last_or are_all_paid paid_months paid_through final_gap payments_of contribution_of contribution_in contribution_at table_rate rate_for rate_of rate_by cell_of table_of combine blend nearest half_even nearer off_by refusal_of wrong_option wrong_pension_age wrong_term wrong_payer no_rate no_upper_rate wrong_amount above_cap exact_credit_of exact_credit exact_from exact_month exact_year
all_rows = refl
