-- "Paying off the rest", P2 to P8: its figures, and figures at which a misreading would show. A row holds what the
-- definitions give and what is stated.
-- Assumes nothing.
use Rattle.std.specs.Prelude.{List, [], ◌∷◌, ◌++◌, ℕ, ◌*◌}
use Rattle.terms.specs.declared.Terms.{Terms}
use Rattle.rounding.specs.Nearest.{twelfths}
use Rattle.pay_off.specs.Cost.{increased_by, cost_of}
use Rattle.pay_off.specs.PayOff.{pay_off_of}
use Rattle.rows.specs.Rows.{Row, ◌is◌, only, five_years, paid_for, missed_for}

-- P8: £1,196.40 at 1.011; £3,940.00 and £3,730.00 at 5 odd months, in twelfths of a penny £3,852.50; and what £1,209.56 costs there, as with
-- that rate at a whole pension age
unfoldable pub step_rows : List Row
step_rows =
    (only (increased_by 1011 119640) is only 120956)
    ∷ (only (twelfths 5 394000 373000) is only (12 * 385250))
    ∷ (only (cost_of 120956 394000 373000 5) is only 1863932)
    ∷ (only (cost_of 120956 385250 0 0) is only 1863932)
    ∷ []

-- P2, P3, P8: £5.00 at 1.001 is half a penny above £5.00, and a penny at £625.00 costs two and a half pence, where the even penny
-- would be £5.00 and 2; £2,000.00 at the rate a month on from £250.01 towards £250.00 is a penny dearer where that rate is rounded first
unfoldable pub half_rows : List Row
half_rows =
    (only (increased_by 1001 500) is only 501)
    ∷ (only (cost_of 1 62500 0 0) is only 3)
    ∷ (only (cost_of 200000 25001 25000 1) is only 200007)
    ∷ []

-- P1: the numbers of a pay-off: refusal, place, remaining, increased, cost
abbrev pub paid_off : Terms → List ℕ → (age_now increase : ℕ) → List ℕ
paid_off t marks age_now increase =
    let n = pay_off_of t marks age_now increase in
    n.refusal ∷ n.place ∷ n.remaining ∷ n.increased ∷ n.cost ∷ []

-- P3: a personal pension at 66 years 5 months: document 001's contract at this scheme's rates
abbrev pub four_years : Terms
four_years = record { age = 60; pnpa_years = 66; pnpa_months = 5; option = 1; payer = 1; term = 4; amount = 1500 }

-- P2, P3, P7, P8: £1,000 over 5 years: 18 paid months, at 1.250 also, where half a penny goes up though that of the credit went down; the gap,
-- ceased, complete; then the other contract
unfoldable pub contract_rows : List Row
contract_rows =
    (paid_off five_years (paid_for 18) 51 1011 is (0 ∷ 0 ∷ 67202 ∷ 67941 ∷ 812574 ∷ []))
    ∷ (paid_off five_years (paid_for 18) 51 1250 is (0 ∷ 0 ∷ 67202 ∷ 84003 ∷ 1004676 ∷ []))
    ∷ (paid_off five_years (paid_for 18 ++ (missed_for 4 ++ paid_for 6)) 52 1011 is (0 ∷ 0 ∷ 57040 ∷ 57667 ∷ 705844 ∷ []))
    ∷ (paid_off five_years (paid_for 12 ++ (2 ∷ [])) 51 1011 is (0 ∷ 0 ∷ 77741 ∷ 78596 ∷ 940008 ∷ []))
    ∷ (paid_off five_years (paid_for 60) 55 1011 is (0 ∷ 0 ∷ 0 ∷ 0 ∷ 0 ∷ []))
    ∷ (paid_off four_years (paid_for 9) 61 1011 is (0 ∷ 0 ∷ 119083 ∷ 120393 ∷ 1829974 ∷ []))
    ∷ []

-- P4 to P6, P8: refusals: a mark that Settle refuses, no marks, refunded, each at an increase and an age that would be refused too; then at the
-- increases next to those taken, and at the age
unfoldable pub refused_rows : List Row
refused_rows =
    (paid_off five_years (paid_for 3 ++ (3 ∷ [])) 65 999 is (11 ∷ 3 ∷ 0 ∷ 0 ∷ 0 ∷ []))
    ∷ (paid_off five_years [] 65 999 is (16 ∷ 0 ∷ 0 ∷ 0 ∷ 0 ∷ []))
    ∷ (paid_off five_years (paid_for 11 ++ (2 ∷ [])) 65 999 is (16 ∷ 0 ∷ 0 ∷ 0 ∷ 0 ∷ []))
    ∷ (paid_off five_years (paid_for 18) 65 999 is (17 ∷ 0 ∷ 0 ∷ 0 ∷ 0 ∷ []))
    ∷ (paid_off five_years (paid_for 60) 65 10000 is (17 ∷ 0 ∷ 0 ∷ 0 ∷ 0 ∷ []))
    ∷ (paid_off five_years (paid_for 60) 65 9999 is (5 ∷ 0 ∷ 0 ∷ 0 ∷ 0 ∷ []))
    ∷ []

-- P8: all of them
unfoldable pub pay_off_rows : List Row
pay_off_rows = step_rows ++ (half_rows ++ (contract_rows ++ refused_rows))
