-- Not rules: the chain of refusals in parts, as the code decides them. proofs/Laws joins them.
-- Assumes nothing.
use Rattle.std.specs.Prelude.{ℕ}
use Rattle.common.specs.Choice.{pick}
use Rattle.terms.specs.declared.Terms.{Terms}
use Rattle.terms.specs.Rules.{wrong_option, wrong_pension_age, wrong_term, wrong_payer, no_rate, no_upper_rate, wrong_amount, above_cap}

-- of the rules that need no rate the number of the first that refuses, 0 where none does
unfoldable pub first_four_refusal : Terms → ℕ
first_four_refusal t = pick (wrong_option t) 1 (pick (wrong_pension_age t) 2 (pick (wrong_term t) 3 (pick (wrong_payer t) 4 0)))

-- and of the others, 5 to 8
unfoldable pub last_four_refusal : Terms → (existing : ℕ) → ℕ
last_four_refusal t existing =
    pick (no_rate t) 5 (pick (no_upper_rate t) 6 (pick (wrong_amount t) 7 (pick (above_cap t existing) 8 0)))

-- of these in turn those that look at a rate
unfoldable pub rate_refusal : Terms → ℕ
rate_refusal t = pick (no_rate t) 5 (pick (no_upper_rate t) 6 0)

-- and those that look at the amount
unfoldable pub amount_refusal : Terms → (existing : ℕ) → ℕ
amount_refusal t existing = pick (wrong_amount t) 7 (pick (above_cap t existing) 8 0)
