-- "What each operation gives", O3: what bounds the numbers of a pay-off.
-- Assumes nothing.
use Rattle.std.specs.Prelude.{ℕ, ◌*◌, ◌-◌, ◌/◌, ◌≤◌}
use Rattle.scheme.specs.Scheme.{step_pence, cap_pence, most_marks}
use Rattle.scheme.specs.Bounds.{most_lump_sum_rate}
use Rattle.pay_off.specs.PayOff.{PayOffNumbers, most_increase}

-- O3: the cap at the greatest increase, £64,993.50, and that at the greatest rate, £1,185,481.44
abbrev pub most_increased : ℕ
most_increased = cap_pence * most_increase / 1000

abbrev pub most_cost : ℕ
most_cost = most_increased * most_lump_sum_rate / step_pence

-- O3: no number of a pay-off is larger
pub record PayOffBounds (n : PayOffNumbers) : Type 0 where
  pub refusal_most : n.refusal ≤ 17
  -- the last index of the marks of the longest term
  pub place_most : n.place ≤ most_marks - 1
  pub remaining_most : n.remaining ≤ cap_pence
  pub increased_most : n.increased ≤ most_increased
  pub cost_most : n.cost ≤ most_cost
