-- "From rate to contribution and credit", C14, and E1: the credit of an election for a list of marks, and the exact credit.
-- Assumes nothing.
use Rattle.std.specs.Prelude.{List, ℕ, ◌+◌}
use Rattle.rounding.specs.Nearest.{nearest, combine}
use Rattle.terms.specs.declared.Terms.{Terms}
use Rattle.years.specs.Elected.{purchase_in}
use Rattle.credit.specs.Credit.{credit_in}
use Rattle.distance.specs.Fraction.{Fraction}
use Rattle.distance.specs.Distance.{Purchases, exact_credit_by}

-- C4, C14: at a whole pension age that of the one table; with odd months each neighbouring table's is worked out whole, and then they are
-- combined
unfoldable pub credit_of : Terms → (marks : List ℕ) → ℕ
credit_of t marks =
    combine t.pnpa_months
    (credit_in nearest (purchase_in t t.pnpa_years) marks)
    (credit_in nearest (purchase_in t (t.pnpa_years + 1)) marks)

-- C14: the odd months of the pension age, and what is bought in its two neighbouring tables
abbrev pub purchases_of : Terms → Purchases
purchases_of t =
    record { odd_months = t.pnpa_months; lower = purchase_in t t.pnpa_years; upper = purchase_in t (t.pnpa_years + 1) }

-- E1: the exact credit, a fraction of a penny
unfoldable pub exact_credit_of : Terms → (marks : List ℕ) → Fraction
exact_credit_of t marks = exact_credit_by (purchases_of t) marks
