-- "Rates", R10, and "What each operation gives", O3: the largest numbers that the scheme's tables, cap and rules lead to, and the last
-- refusal numbers.
-- Assumes nothing.
use Rattle.std.specs.Prelude.{ℕ, ◌*◌, ◌-◌, ◌/◌, max}
use Rattle.scheme.specs.Scheme.{step_pounds, cap_pounds, ceased_from}

-- R10: the largest rates for a step, in pence: £381.60 a month, and £4,560 as a lump sum
abbrev pub most_monthly_rate : ℕ
most_monthly_rate = 38160

abbrev pub most_lump_sum_rate : ℕ
most_lump_sum_rate = 456000

-- O3: the steps that the cap allows
abbrev pub most_steps : ℕ
most_steps = cap_pounds / step_pounds

-- O3: the largest contributions: £9,921.60 a month, £118,560 as a lump sum
abbrev pub most_monthly_contribution : ℕ
most_monthly_contribution = most_steps * most_monthly_rate

abbrev pub most_lump_sum : ℕ
most_lump_sum = most_steps * most_lump_sum_rate

abbrev pub most_contribution : ℕ
most_contribution = max most_monthly_contribution most_lump_sum

-- O3: the largest refund, £118,560: the months before a contract has ceased cost less than a lump sum
abbrev pub most_refund : ℕ
most_refund = max ((ceased_from - 1) * most_monthly_contribution) most_lump_sum

-- O3, O5, O9: the last number that refuses terms, a quote and a settlement
abbrev pub last_terms_refusal : ℕ
last_terms_refusal = 8

abbrev pub last_quote_refusal : ℕ
last_quote_refusal = 9

abbrev pub last_settle_refusal : ℕ
last_settle_refusal = 12
