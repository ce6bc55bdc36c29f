-- Each row's figure of a lump sum is what the definitions give, by computation alone.
-- Assumes nothing.
use mathlib.Core.List.{map}
use mathlib.Core.Path.{◌≡◌, refl}
use Rattle.rounding.specs.HalfEven.{off_by, nearer, half_even}
use Rattle.rounding.specs.Nearest.{nearest, blend, combine}
use Rattle.rates.specs.Rates.{lump_column, lump_rate_of}
use Rattle.terms.specs.Rate.{rate_for, table_rate}
use Rattle.terms.specs.Rules.{wrong_option, wrong_pension_age, wrong_term, wrong_payer, no_rate, no_upper_rate, wrong_amount, above_cap, refusal_of}
use Rattle.election.specs.ContributionOf.{contribution_at, contribution_in, contribution_of}
use Rattle.marks.specs.Kind.{kind_of, mark_limit}
use Rattle.marks.specs.Counts.{last_or, has_ended, final_gap, payments_of}
use Rattle.marks.specs.Refusal.{mark_refusal, first_refusal, marks_refusal}
use Rattle.marks.specs.Status.{status_of}
use Rattle.examination.specs.Refusal.{settle_refusal}
use Rattle.settlement.specs.Settle.{credit_at_status, refund_at_status, settle_of}
use Rattle.rows.specs.Rows.{Row}
use Rattle.rows.specs.LumpSumRows.{staying_rows, leaving_rows, refused_lump_sum_rows, lump_sum_rows}

pub all_lump_sum_rows : map (λ (r : Row). r.found) lump_sum_rows ≡ map (λ (r : Row). r.stated) lump_sum_rows
unfolding lump_sum_rows staying_rows leaving_rows refused_lump_sum_rows settle_of settle_refusal credit_at_status refund_at_status marks_refusal mark_limit kind_of first_refusal mark_refusal status_of last_or has_ended final_gap payments_of contribution_of contribution_in contribution_at table_rate rate_for lump_rate_of lump_column combine blend nearest half_even nearer off_by refusal_of wrong_option wrong_pension_age wrong_term wrong_payer no_rate no_upper_rate wrong_amount above_cap
all_lump_sum_rows = refl
