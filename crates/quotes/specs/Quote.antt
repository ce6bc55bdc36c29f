-- "Quote", O4 to O6.
-- Assumes nothing.
use Rattle.std.specs.Prelude.{Result, Ok, Err, ℕ, ◌+◌, leb, eqb}
use Rattle.common.specs.Choice.{pick, first_of}
use Rattle.refusals.specs.declared.Refusal.{Refusal}
use Rattle.refusals.specs.Numbers.{refusal_number}
use Rattle.terms.specs.declared.Terms.{Terms}
use Rattle.terms.specs.Rules.{refusal_of}
use Rattle.election.specs.ContributionOf.{contribution_of}
use Rattle.quotes.specs.declared.QuoteMade.{QuoteMade}
use Rattle.quotes.specs.declared.Quoted.{Quoted}

-- O4: what a quote gives, in numbers: the refusal (0 none), the contribution, the next number, and the last
-- number of the register that is handed back
pub record QuoteNumbers : Type 0 where
  pub refusal : ℕ
  pub contribution : ℕ
  pub next : ℕ
  pub register : ℕ

-- O5: the last number that a register gives out
abbrev pub last_quote_number : ℕ
last_quote_number = 999999

-- O5: 1 to 8 as the terms are refused; then 9: no number is left
unfoldable pub quote_refusal : Terms → (existing last : ℕ) → ℕ
quote_refusal t existing last = first_of (refusal_of t existing) (pick (leb last_quote_number last) 9 0)

-- O4, O6: A refusal gives its number, zeros and the register unchanged; success the contribution and the last number plus 1,
-- which the register then holds.
unfoldable pub quote_of : Terms → (existing last : ℕ) → QuoteNumbers
quote_of t existing last =
    pick (eqb (quote_refusal t existing last) 0)
    (record { refusal = 0; contribution = contribution_of t; next = last + 1; register = last + 1 })
    (record { refusal = quote_refusal t existing last; contribution = 0; next = 0; register = last })

-- O2: the numbers for each case of an answer, beside the register
abbrev pub quote_answer_numbers : Result QuoteMade Refusal → ℕ → QuoteNumbers
quote_answer_numbers (Err r) register = record { refusal = refusal_number r; contribution = 0; next = 0; register = register }
quote_answer_numbers (Ok q) register = record { refusal = 0; contribution = q.contribution.0; next = q.number; register = register }

abbrev pub numbers_of_quote : Quoted → QuoteNumbers
numbers_of_quote q = quote_answer_numbers q.answer q.register.last
