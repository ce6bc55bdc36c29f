-- "From rate to contribution and credit", C4 to C9, with C1 and R6: what one table's contract is worth after whole years, and at any month
-- between them. The rounding is an argument: Settle takes `nearest`.
-- Assumes nothing.
use Rattle.std.specs.Prelude.{List, ℕ, suc, ◌*◌, ◌/◌, ◌%◌, ◌≤◌, ◌<◌, leb, eqb, get_or}
use Rattle.common.specs.Choice.{pick}
use Rattle.common.specs.Table.{tabulate}
use Rattle.common.specs.Calendar.{months_in_year}
use Rattle.scheme.specs.Scheme.{row_places}
use Rattle.rounding.specs.Nearest.{twelfths}

-- C1, C7: What one table knows of a monthly contract: its rate in pence at each term, the unit that a rate is for in pence of pension a
-- year, how many units are bought, the term in years.
pub record Purchase : Type 0 where
  pub rate : ℕ → ℕ
  pub unit : ℕ
  pub units : ℕ
  pub term : ℕ

-- R5, R6: The rule for the rows of monthly tables: up to the term every rate is above 0, and none is more than the one before.
pub record FallingRates (p : Purchase) : Type 0 where
  pub positive : (n : ℕ) → 0 < n → n ≤ p.term → 0 < p.rate n
  pub falls : (n : ℕ) → 0 < n → n < p.term → p.rate (suc n) ≤ p.rate n

-- C7: that table's own contribution
abbrev pub own_contribution : Purchase → ℕ
own_contribution p = p.units * p.rate p.term

-- C4, C6 to C8: What the contribution buys in n years, by the rate for n, rounded; nothing at the start, and nothing beyond the term.
unfoldable pub year_credit : (round : ℕ → ℕ → ℕ) → Purchase → (n : ℕ) → ℕ
year_credit round p n =
    pick (eqb n 0) 0 (pick (leb n p.term) (round (own_contribution p * p.unit) (p.rate n)) 0)

-- C5: all of them as one row: the start, and a place for each year that the longest term has
unfoldable pub year_credits : (round : ℕ → ℕ → ℕ) → Purchase → List ℕ
year_credits round p = tabulate (year_credit round p) 0 row_places

-- C9: Twelve times the value at a month, nothing rounded, where year n is worth `years n`: of the year that was last completed and the one
-- under way, by the months passed since.
abbrev pub month_numerator : (years : ℕ → ℕ) (month : ℕ) → ℕ
month_numerator years month =
    twelfths (month % months_in_year) (years (month / months_in_year)) (years (suc (month / months_in_year)))

-- C4, C9: What a row is worth at a month.
unfoldable pub month_value : (round : ℕ → ℕ → ℕ) (row : List ℕ) (month : ℕ) → ℕ
month_value round row month = round (month_numerator (λ n. get_or row n 0) month) months_in_year
