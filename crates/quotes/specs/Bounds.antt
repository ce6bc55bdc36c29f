-- "What each operation gives", O3: what bounds the numbers of a quote.
-- Assumes nothing.
use Rattle.std.specs.Prelude.{◌≤◌}
use Rattle.scheme.specs.Bounds.{most_contribution, last_quote_refusal}
use Rattle.quotes.specs.Quote.{QuoteNumbers, last_quote_number}

-- O3: no number of a quote is larger
pub record QuoteBounds (n : QuoteNumbers) : Type 0 where
  pub refusal_most : n.refusal ≤ last_quote_refusal
  pub contribution_most : n.contribution ≤ most_contribution
  pub next_most : n.next ≤ last_quote_number
