-- Not rules: the two lump sums of a contract as the code looks them up.
-- Assumes nothing.
use Rattle.std.specs.Prelude.{Option, Some, None, ◌≡◌, ℕ, ◌+◌}
use Rattle.terms.specs.declared.Terms.{Terms}
use Rattle.election.specs.declared.TableRates.{TableRates}
use Rattle.pay_off.specs.PayOff.{lump_sum_now}

-- the upper one, or 0 where there is none
abbrev pub sum_or_none : Option ℕ → ℕ
sum_or_none (Some sum) = sum
sum_or_none None = 0

abbrev pub upper_sum_or_none : TableRates → ℕ
upper_sum_or_none sums = sum_or_none sums.upper

-- they are those at the age now; the upper one matters with odd months only
pub record SumsLookedUp (t : Terms) (age_now : ℕ) (sums : TableRates) : Type 0 where
  pub low : sums.lower ≡ lump_sum_now t age_now t.pnpa_years
  pub high : (t.pnpa_months ≡ 0 → ⊥) → upper_sum_or_none sums ≡ lump_sum_now t age_now (t.pnpa_years + 1)
