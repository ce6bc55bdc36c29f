-- Not rules: the last number of the register that the code hands back beside an answer.
-- Assumes nothing.
use Rattle.std.specs.Prelude.{Result, Ok, Err, ℕ}
use Rattle.refusals.specs.declared.Refusal.{Refusal}
use Rattle.quotes.specs.declared.QuoteMade.{QuoteMade}

-- that of the quote, and of a refusal that before it
abbrev pub last_after : Result QuoteMade Refusal → (last : ℕ) → ℕ
last_after (Ok q) last = q.number
last_after (Err r) last = last
