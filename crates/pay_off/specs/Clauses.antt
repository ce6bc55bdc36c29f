-- "Paying off the rest", P2 to P7: what holds of every pay-off beside its numbers: what is priced, and what refuses in which order.
-- Assumes nothing.
use Rattle.std.specs.Prelude.{List, ◌⊎◌, ◌≡◌, ℕ, ◌+◌, ◌≤◌, ◌<◌}
use Rattle.scheme.specs.Scheme.{pounds_in_pence}
use Rattle.terms.specs.declared.Terms.{Terms}
use Rattle.terms.specs.Printed.{LacksLumpSum}
use Rattle.settlement.specs.Settle.{settle_of}
use Rattle.pay_off.specs.PayOff.{PayOffNumbers, least_increase, most_increase}

-- P2, P7: of a pay-off n of t for the marks, where it is priced
pub record PayOffPriced (t : Terms) (marks : List ℕ) (n : PayOffNumbers) : Type 0 where
  -- remaining and credit are the amount: nothing was cut off at 0
  pub whole : n.refusal ≡ 0 → n.remaining + (settle_of t marks).credit ≡ pounds_in_pence t.amount
  -- a complete contract has nothing left, and costs nothing
  pub complete : n.refusal ≡ 0 → (settle_of t marks).status ≡ 3 → (n.remaining ≡ 0) × ((n.increased ≡ 0) × (n.cost ≡ 0))
  -- what remains never costs less than itself, so the cost is 0 only where nothing remains, and there it is
  pub rises : n.refusal ≡ 0 → (n.remaining ≤ n.increased) × (n.increased ≤ n.cost)
  pub free : n.refusal ≡ 0 → n.cost ≡ 0 → n.remaining ≡ 0
  pub nothing_left : n.refusal ≡ 0 → n.remaining ≡ 0 → n.cost ≡ 0

-- P4: a status that can be paid off: paying, in a gap, complete or ceased
abbrev pub StatusPayable : (status : ℕ) → Type 0
StatusPayable status = (1 ≤ status) × (status ≤ 4)

-- P5: an increase that is taken
abbrev pub IncreaseTaken : (increase : ℕ) → Type 0
IncreaseTaken increase = (least_increase ≤ increase) × (increase ≤ most_increase)

-- P4 to P6: what is refused, and with which number and place
pub record PayOffRefusals (t : Terms) (marks : List ℕ) (age_now increase : ℕ) (n : PayOffNumbers) : Type 0 where
  -- what Settle refuses, as Settle does
  pub settle_first : ((settle_of t marks).refusal ≡ 0 → ⊥) → (n.refusal ≡ (settle_of t marks).refusal) × (n.place ≡ (settle_of t marks).place)
  -- what Settle accepts has no place,
  pub no_place : (settle_of t marks).refusal ≡ 0 → n.place ≡ 0
  -- is 16 at the statuses 0, 5 and 6,
  pub sixteen : (settle_of t marks).refusal ≡ 0
      → (((settle_of t marks).status ≡ 0) ⊎ (((settle_of t marks).status ≡ 5) ⊎ ((settle_of t marks).status ≡ 6))) → n.refusal ≡ 16
  -- so a lump sum always is,
  pub lump_sum : (settle_of t marks).refusal ≡ 0 → t.term ≡ 0 → n.refusal ≡ 16
  -- is 17 at any other status where the increase is out of range,
  pub seventeen : (settle_of t marks).refusal ≡ 0 → StatusPayable (settle_of t marks).status → ((increase < least_increase) ⊎ (most_increase < increase)) → n.refusal ≡ 17
  -- is 5 where it is in range and a lump sum is lacking,
  pub five : (settle_of t marks).refusal ≡ 0 → StatusPayable (settle_of t marks).status → IncreaseTaken increase → LacksLumpSum t age_now → n.refusal ≡ 5
  -- and is priced where none is
  pub priced : (settle_of t marks).refusal ≡ 0 → StatusPayable (settle_of t marks).status → IncreaseTaken increase → (LacksLumpSum t age_now → ⊥) → n.refusal ≡ 0
