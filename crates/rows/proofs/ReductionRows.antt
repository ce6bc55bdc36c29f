-- Each row's figure of the reduction limit is what the definitions give, by computation alone.
-- Assumes nothing.
use mathlib.Core.List.{map}
use mathlib.Core.Path.{◌≡◌, refl}
use Rattle.rounding.specs.Nearest.{half_up}
use Rattle.reduction.specs.Power.{power_of}
use Rattle.reduction.specs.Potential.{potential_of}
use Rattle.reduction.specs.Range.{outside_range, out_of_range}
use Rattle.reduction.specs.Search.{candidate_of, factor_of, years_to, potential_at, headroom, is_taken, candidate_is_taken, below_npa, search_by}
use Rattle.reduction.specs.Answer.{potential_shown, reduction_by, reduction_limit_of}
use Rattle.rows.specs.Rows.{Row}
use Rattle.rows.specs.ReductionRows.{example_rows, search_rows, power_rows, potential_rows, out_of_range_rows, reduction_rows}

pub all_reduction_rows : map (λ (r : Row). r.found) reduction_rows ≡ map (λ (r : Row). r.stated) reduction_rows
unfolding reduction_rows example_rows search_rows power_rows potential_rows out_of_range_rows reduction_limit_of reduction_by potential_shown search_by below_npa candidate_is_taken is_taken headroom potential_at potential_of power_of years_to factor_of candidate_of out_of_range outside_range half_up
all_reduction_rows = refl
