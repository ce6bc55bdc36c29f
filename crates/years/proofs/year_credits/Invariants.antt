-- `years::year_credits` meets its contract. The loop's invariant: below n the row has the years' credits, and from n on it has 0.
-- Assumes nothing.
use mathlib.Core.Path.{◌≡◌}
use Prim.Native.Nat.{ℕ, ◌≤◌, ◌<◌}
use lib.ListN.{length, get_or}
use Rattle.scheme.specs.Scheme.{row_places}
use Rattle.rounding.specs.Nearest.{nearest}
use Rattle.years.specs.Years.{year_credit}
use Rattle.years.specs.Elected.{purchase_in}
use Rattle.years.proofs.year_credits.Given as goal

abbrev pub invariant-loop-n : goal.invariant-loop-n
invariant-loop-n l = record {
  long : length l.years ≡ row_places;
  below : (k : ℕ) → k < l.n → get_or l.years k 0 ≡ year_credit nearest (purchase_in l.t l.pension_age) k;
  above : (k : ℕ) → l.n ≤ k → k < row_places → get_or l.years k 0 ≡ 0;
}
