-- "The exact credit", E4, E5 and E7: the credit against the exact credit, of a contract at any pension age, by any rounding.
-- Assumes nothing.
use Rattle.std.specs.Prelude.{List, ◌≡◌, ℕ, ◌+◌, ◌*◌, ◌-◌, ◌≤◌, ◌<◌, eqb}
use Rattle.common.specs.Choice.{pick}
use Rattle.common.specs.Calendar.{months_in_year}
use Rattle.scheme.specs.Scheme.{longest_term}
use Rattle.rounding.specs.Nearest.{combine_by}
use Rattle.years.specs.Years.{Purchase, FallingRates}
use Rattle.credit.specs.Credit.{credit_in}
use Rattle.distance.specs.Fraction.{Fraction}
use Rattle.distance.specs.Exact.{exact_credit, exact_blend}

-- E5: The comparison by multiplying out: x has a denominator above 0, and c is at most h half pence above and below it.
pub record Within (c : ℕ) (x : Fraction) (h : ℕ) : Type 0 where
  pub positive : 0 < x.den
  pub above : 2 * c * x.den ≤ 2 * x.num + h * x.den
  pub below : 2 * x.num ≤ 2 * c * x.den + h * x.den

-- E7: The bound for k runs, in half pence: 2k − 1 pence, and a half penny more with odd months.
abbrev pub half_pence : (odd k : ℕ) → ℕ
half_pence odd k = 2 * (2 * k - 1) + pick (eqb odd 0) 0 1

-- C14: What a monthly contract buys: the odd months of its pension age, the purchase in the only or lower table, and that in the upper, which
-- counts only with odd months.
pub record Purchases : Type 0 where
  pub odd_months : ℕ
  pub lower : Purchase
  pub upper : Purchase

-- C14: The credit in whole pence: the only table's, or with odd months the rounded blend of both tables'.
abbrev pub credit_by : (round : ℕ → ℕ → ℕ) → Purchases → (marks : List ℕ) → ℕ
credit_by round c marks = combine_by round c.odd_months (credit_in round c.lower marks) (credit_in round c.upper marks)

-- E4: The exact credit: the same with nothing rounded.
abbrev pub exact_credit_by : Purchases → (marks : List ℕ) → Fraction
exact_credit_by c marks =
    pick (eqb c.odd_months 0) (exact_credit c.lower marks)
    (exact_blend c.odd_months (exact_credit c.lower marks) (exact_credit c.upper marks))

-- R6, T2, T5: What the theorems ask: odd months below 12, a term of at most the longest, falling rates, the same term, unit and units in
-- both tables.
pub record SoundPurchases (c : Purchases) : Type 0 where
  pub odd_most : c.odd_months < months_in_year
  pub term_most : c.lower.term ≤ longest_term
  pub lower_falls : FallingRates c.lower
  pub upper_falls : 0 < c.odd_months → FallingRates c.upper
  pub same_term : c.upper.term ≡ c.lower.term
  pub same_unit : c.upper.unit ≡ c.lower.unit
  pub same_units : c.upper.units ≡ c.lower.units
