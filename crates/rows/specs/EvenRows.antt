-- "Halves to the even penny", H5: exact halves in each of the four figures that take them to the even penny, one that goes down and one
-- that goes up. Those of C4 that have stood in G2 since the start are in `Rows`, and the pay-off's half is in `PayOffRows`. A lump sum
-- meets no half: both tables have the same one.
-- Assumes nothing.
use Rattle.std.specs.Prelude.{List, [], ◌∷◌, ◌++◌, ℕ, ◌+◌, ◌*◌}
use Rattle.rounding.specs.Nearest.{nearest, combine_by}
use Rattle.terms.specs.declared.Terms.{Terms}
use Rattle.election.specs.ContributionOf.{contribution_in, contribution_of}
use Rattle.years.specs.Years.{year_credit}
use Rattle.years.specs.Elected.{purchase_in}
use Rattle.credit.specs.Credit.{credit_in}
use Rattle.settlement.specs.Credit.{credit_of}
use Rattle.rows.specs.Rows.{Row, ◌is◌, only, at50, five_years, paid_for, missed_for, undivided, twelfths_at, value_at}

-- H5: the same terms with odd months
abbrev pub oddly : ℕ → Terms → Terms
oddly m t =
    record { age = t.age; pnpa_years = t.pnpa_years; pnpa_months = m; option = t.option; payer = t.payer; term = t.term; amount = t.amount }

-- H5: n ÷ d is a whole number and a half
abbrev pub is_half : ℕ → ℕ → ℕ → Row
is_half n d whole = only (2 * n) is only ((2 * whole + 1) * d)

-- H5: twelve times two tables' combined contributions, and twelve times their combined credits, before they are rounded
abbrev pub contribution_twelfths : Terms → ℕ
contribution_twelfths t = combine_by undivided t.pnpa_months (contribution_in t t.pnpa_years) (contribution_in t (t.pnpa_years + 1))

abbrev pub credit_twelfths : Terms → List ℕ → ℕ
credit_twelfths t marks =
    combine_by undivided t.pnpa_months
    (credit_in nearest (purchase_in t t.pnpa_years) marks)
    (credit_in nearest (purchase_in t (t.pnpa_years + 1)) marks)

-- H5: £750 over 4 years, at 65 years and 5 or 7 months
unfoldable pub even_contributions : List Row
even_contributions =
    is_half (contribution_twelfths (oddly 5 (at50 65 4 750))) 12 21692
    ∷ (only (contribution_of (oddly 5 (at50 65 4 750))) is only 21692)
    ∷ is_half (contribution_twelfths (oddly 7 (at50 65 4 750))) 12 21537
    ∷ (only (contribution_of (oddly 7 (at50 65 4 750))) is only 21538)
    ∷ []

-- H5: year n: what is divided by the rate for n is so many pence and a half, and the credit is as stated
abbrev pub year_credit_rows : Terms → ℕ → (whole stated : ℕ) → List Row
year_credit_rows t n whole stated =
    let p = purchase_in t t.pnpa_years in
    is_half (year_credit undivided p n) (p.rate n) whole ∷ (only (year_credit nearest p n) is only stated) ∷ []

-- H5: year 2 of £1,500 over 8 years and of £1,000 over 3 years, in D67
unfoldable pub even_years : List Row
even_years = year_credit_rows (at50 67 8 1500) 2 44062 44062 ++ year_credit_rows (at50 67 3 1000) 2 68437 68438

-- H5: £1,000 over 5 years after 18 and 6 months; and over 2 years a second run that begins where half a penny went down, so that it earns
-- a penny more
unfoldable pub even_months : List Row
even_months =
    is_half (twelfths_at five_years 18) 12 32798
    ∷ (only (value_at five_years 18) is only 32798)
    ∷ is_half (twelfths_at five_years 6) 12 11129
    ∷ (only (value_at five_years 6) is only 11130)
    ∷ is_half (twelfths_at (at50 65 2 1000) 6) 12 25680
    ∷ (only (credit_of (at50 65 2 1000) (paid_for 1 ++ (missed_for 5 ++ paid_for 1))) is only 8561)
    ∷ []

-- H5: £1,000 over 2 years at 65 years and 6 or 10 months, one month paid
unfoldable pub even_credits : List Row
even_credits =
    is_half (credit_twelfths (oddly 6 (at50 65 2 1000)) (paid_for 1)) 12 4278
    ∷ (only (credit_of (oddly 6 (at50 65 2 1000)) (paid_for 1)) is only 4278)
    ∷ is_half (credit_twelfths (oddly 10 (at50 65 2 1000)) (paid_for 1)) 12 4277
    ∷ (only (credit_of (oddly 10 (at50 65 2 1000)) (paid_for 1)) is only 4278)
    ∷ []

-- H5: all of them
unfoldable pub even_rows : List Row
even_rows = even_contributions ++ (even_years ++ (even_months ++ even_credits))
