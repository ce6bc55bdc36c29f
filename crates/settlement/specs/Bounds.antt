-- "What each operation gives", O3: what bounds the numbers of a settlement.
-- Assumes nothing.
use Rattle.std.specs.Prelude.{◌-◌, ◌≤◌}
use Rattle.scheme.specs.Scheme.{cap_pence, most_marks}
use Rattle.scheme.specs.Bounds.{most_contribution, most_refund, last_settle_refusal}
use Rattle.settlement.specs.Settle.{SettleNumbers}

-- O3: no number of a settlement is larger
pub record SettleBounds (n : SettleNumbers) : Type 0 where
  pub refusal_most : n.refusal ≤ last_settle_refusal
  -- the last index of the marks of the longest term
  pub place_most : n.place ≤ most_marks - 1
  pub contribution_most : n.contribution ≤ most_contribution
  pub status_most : n.status ≤ 6
  pub credit_most : n.credit ≤ cap_pence
  pub refund_most : n.refund ≤ most_refund
