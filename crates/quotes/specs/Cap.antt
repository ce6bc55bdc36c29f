-- "Cap decision", O7.
-- Assumes nothing.
use Rattle.std.specs.Prelude.{◌≡◌, ℕ, ◌+◌, ◌*◌, ◌-◌, ◌/◌, ◌%◌, ◌≤◌}
use Rattle.scheme.specs.Scheme.{step_pounds, pounds_in_pence, step_pence, cap_pence}

-- O7: the whole steps of £250 in what the existing pension leaves of £6,500, in pounds
unfoldable pub cap_decision_of : (existing : ℕ) → ℕ
cap_decision_of existing = (cap_pence - existing) / step_pence * step_pounds

-- O7: r pounds is a multiple of £250; it fits under the cap where the existing pension does, and is 0 where that takes
-- up the whole cap or more; no greater multiple fits
pub record GreatestUnderCap (existing r : ℕ) : Type 0 where
  pub multiple : r % step_pounds ≡ 0
  pub fits : existing ≤ cap_pence → existing + pounds_in_pence r ≤ cap_pence
  pub none : cap_pence ≤ existing → r ≡ 0
  pub greatest : (x : ℕ) → x % step_pounds ≡ 0 → existing + pounds_in_pence x ≤ cap_pence → x ≤ r
