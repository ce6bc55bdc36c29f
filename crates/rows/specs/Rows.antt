-- "Figures at the edges", G1 to G4: the figures that are proved, and two more that a misreading would change.
-- A row holds what the definitions give and what is stated.
-- Assumes nothing.
use Rattle.std.specs.Prelude.{List, [], ◌∷◌, ◌++◌, ℕ, ◌*◌, ◌/◌, take, replicate}
use Rattle.rounding.specs.Nearest.{nearest, blend}
use Rattle.terms.specs.declared.Terms.{Terms}
use Rattle.terms.specs.Rules.{refusal_of}
use Rattle.election.specs.ContributionOf.{contribution_of}
use Rattle.years.specs.Years.{year_credit, year_credits, month_numerator, month_value}
use Rattle.years.specs.Elected.{purchase_in}
use Rattle.distance.specs.Fraction.{Fraction}
use Rattle.settlement.specs.Credit.{exact_credit_of}
use Rattle.settlement.specs.Settle.{settle_of}

-- G1 to G4: what a figure is by the definitions, and what it is stated to be
pub record Row : Type 0 where
  pub found : List ℕ
  pub stated : List ℕ

infix 20 ◌is◌
abbrev pub ◌is◌ : List ℕ → List ℕ → Row
found is stated = record { found = found; stated = stated }

-- G4: one figure
abbrev pub only : ℕ → List ℕ
only n = n ∷ []

-- G1, G2: a member aged 50 who buys with dependant's pension, monthly, at a whole pension age
abbrev pub at50 : ℕ → ℕ → ℕ → Terms
at50 pension_age term amount =
    record { age = 50; pnpa_years = pension_age; pnpa_months = 0; option = 2; payer = 1; term = term; amount = amount }

-- G1, G2: £1,250 over 9 years in D67, and £1,000 over 5 years in D65
abbrev pub nine_years : Terms
nine_years = at50 67 9 1250

abbrev pub five_years : Terms
five_years = at50 65 5 1000

-- G4: document 000's fourth example: £1,750 over 10 years from age 54, at 66 years 5 months
abbrev pub odd_months : Terms
odd_months = record { age = 54; pnpa_years = 66; pnpa_months = 5; option = 2; payer = 1; term = 10; amount = 1750 }

-- G1 to G3: the contributions of both; two credits at 5 odd months; £250 and £500 beside an existing £6,250
unfoldable pub price_rows : List Row
price_rows =
    (only (contribution_of nine_years) is only 17150)
    ∷ (only (contribution_of five_years) is only 24200)
    ∷ (only (blend 5 30362 30358) is only 30360)
    ∷ (only (refusal_of (at50 65 5 250) 625000) is only 0)
    ∷ (only (refusal_of (at50 65 5 500) 625000) is only 8)
    ∷ []

-- G2: months paid and months missed
abbrev pub paid_for : ℕ → List ℕ
paid_for n = replicate n 1

abbrev pub missed_for : ℕ → List ℕ
missed_for n = replicate n 0

-- G2: the numbers of a settlement: refusal, place, contribution, status, credit, refund
abbrev pub settle_figures : Terms → List ℕ → List ℕ
settle_figures t marks =
    let n = settle_of t marks in
    n.refusal ∷ n.place ∷ n.contribution ∷ n.status ∷ n.credit ∷ n.refund ∷ []

-- G1, G2: the whole-year credits of the only table, for the first years
abbrev pub first_years : ℕ → Terms → List ℕ
first_years n t = take n (year_credits nearest (purchase_in t t.pnpa_years))

-- G2: the value at a contract month in the only table
abbrev pub value_at : Terms → ℕ → ℕ
value_at t month = month_value nearest (year_credits nearest (purchase_in t t.pnpa_years)) month

-- G4: what is to be divided, in place of the rounded quotient
abbrev pub undivided : ℕ → ℕ → ℕ
undivided n d = n

-- G4: twelve times that value before it is rounded
abbrev pub twelfths_at : Terms → ℕ → ℕ
twelfths_at t month = month_numerator (year_credit nearest (purchase_in t t.pnpa_years)) month

-- G1, G2: year 1 and five paid months of the first contract; years 1 to 5, all twenty-one places, 18 paid months and the gap of the second
unfoldable pub credit_rows : List Row
credit_rows =
    (first_years 2 nine_years is (0 ∷ 17198 ∷ []))
    ∷ (settle_figures nine_years (paid_for 5) is (0 ∷ 0 ∷ 17150 ∷ 1 ∷ 7166 ∷ 0 ∷ []))
    ∷ (first_years 6 five_years is (0 ∷ 22259 ∷ 43338 ∷ 63285 ∷ 82201 ∷ 100000 ∷ []))
    ∷ (first_years 22 five_years is (0 ∷ 22259 ∷ 43338 ∷ 63285 ∷ 82201 ∷ 100000 ∷ replicate 15 0))
    ∷ (settle_figures five_years (paid_for 18) is (0 ∷ 0 ∷ 24200 ∷ 1 ∷ 32798 ∷ 0 ∷ []))
    ∷ (only (twelfths_at five_years 18) is only 393582)
    ∷ ((value_at five_years 18 ∷ value_at five_years 28 ∷ value_at five_years 22 ∷ []) is (32798 ∷ 49987 ∷ 39825 ∷ []))
    ∷ (settle_figures five_years (paid_for 18 ++ (missed_for 4 ++ paid_for 6)) is (0 ∷ 0 ∷ 24200 ∷ 1 ∷ 42960 ∷ 0 ∷ []))
    ∷ []

-- G4: a fraction's whole part, and that it is n ÷ d, multiplied out
abbrev pub whole_part : Fraction → List ℕ
whole_part x = only (x.num / x.den)

abbrev pub is_fraction : Fraction → ℕ → ℕ → Row
is_fraction x n d = only (x.num * d) is only (n * x.den)

-- G4: the exact credit of the 18 paid months, which is half of the sum of £242.00 ÷ £271.80 × £250 and £242.00 ÷ £139.60 × £250
unfoldable pub exact_rows : List Row
exact_rows =
    (whole_part (exact_credit_of five_years (paid_for 18)) is only 32798)
    ∷ is_fraction (exact_credit_of five_years (paid_for 18)) 15556062500 474291
    ∷ []

-- G2: notice after eleven and after twelve paid months, resuming after eleven and after twelve missed ones, and first marks 0 and 2
unfoldable pub status_rows : List Row
status_rows =
    (settle_figures five_years (paid_for 11 ++ (2 ∷ [])) is (0 ∷ 0 ∷ 24200 ∷ 5 ∷ 0 ∷ 266200 ∷ []))
    ∷ (settle_figures five_years (paid_for 12 ++ (2 ∷ [])) is (0 ∷ 0 ∷ 24200 ∷ 4 ∷ 22259 ∷ 0 ∷ []))
    ∷ (only (settle_of five_years (paid_for 1 ++ (missed_for 11 ++ paid_for 1))).refusal is only 0)
    ∷ (settle_figures five_years (paid_for 1 ++ (missed_for 12 ++ paid_for 1)) is (12 ∷ 13 ∷ 0 ∷ 0 ∷ 0 ∷ 0 ∷ []))
    ∷ (settle_figures five_years (0 ∷ []) is (12 ∷ 0 ∷ 0 ∷ 0 ∷ 0 ∷ 0 ∷ []))
    ∷ (settle_figures five_years (2 ∷ []) is (0 ∷ 0 ∷ 24200 ∷ 5 ∷ 0 ∷ 0 ∷ []))
    ∷ []

-- G4: a contract on which rounding only at the end would give a penny more, and one with 5 odd months on which dividing
-- the blended contribution by each table's rate would give other figures
unfoldable pub telling_rows : List Row
telling_rows =
    (settle_figures five_years (paid_for 1 ++ (missed_for 1 ++ paid_for 5)) is (0 ∷ 0 ∷ 24200 ∷ 1 ∷ 11129 ∷ 0 ∷ []))
    ∷ (settle_figures odd_months (paid_for 30) is (0 ∷ 0 ∷ 25573 ∷ 1 ∷ 54042 ∷ 0 ∷ []))
    ∷ []

-- G1 to G4: all of them
unfoldable pub rows : List Row
rows = price_rows ++ (credit_rows ++ (exact_rows ++ (status_rows ++ telling_rows)))
