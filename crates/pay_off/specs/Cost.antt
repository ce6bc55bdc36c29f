-- "Paying off the rest", P2 and P3: what a remaining pension is raised to, and what the raised pension costs. Both roundings take a half up.
-- Assumes nothing.
use Rattle.std.specs.Prelude.{ℕ, ◌*◌}
use Rattle.common.specs.Calendar.{months_in_year}
use Rattle.rounding.specs.Nearest.{half_up, twelfths}
use Rattle.scheme.specs.Scheme.{step_pence}

-- P2: the pension times the increase, which is in thousandths, to the nearest penny
unfoldable pub increased_by : (increase pension : ℕ) → ℕ
increased_by increase pension = half_up (pension * increase) 1000

-- P3: the pension times the rate m odd months after the lower of two pension ages, divided by £250, to the nearest penny: the one rounding
-- between pension and cost, since the rate is a whole number of twelfths of a penny
unfoldable pub cost_of : (increased lower upper m : ℕ) → ℕ
cost_of increased lower upper m = half_up (increased * twelfths m lower upper) (months_in_year * step_pence)
