-- "Quote", O5: what refuses an election, 1 to 8, in this order.
-- Assumes nothing.
use Rattle.std.specs.Prelude.{Bool, not, ◌&&◌, ◌||◌, ℕ, ◌+◌, ◌*◌, ◌%◌, ltb, leb, eqb}
use Rattle.common.specs.Choice.{pick}
use Rattle.common.specs.Calendar.{months_in_year}
use Rattle.scheme.specs.Scheme.{step_pounds, pounds_in_pence, cap_pence, longest_term}
use Rattle.terms.specs.declared.Terms.{Terms}
use Rattle.terms.specs.Rate.{table_rate}

-- T3, refusal 1: no such option
unfoldable pub wrong_option : Terms → Bool
wrong_option t = not (eqb t.option 1 || eqb t.option 2)

-- T2, refusal 2: months that are no months of a year, or a pension age below 65 or above 68 years
unfoldable pub wrong_pension_age : Terms → Bool
wrong_pension_age t =
    leb months_in_year t.pnpa_months
    || (ltb t.pnpa_years 65 || ltb (68 * months_in_year) (t.pnpa_years * months_in_year + t.pnpa_months))

-- T5, refusal 3: more years than the longest term has
unfoldable pub wrong_term : Terms → Bool
wrong_term t = ltb longest_term t.term

-- T4, refusal 4: no such payer, or an employer who would pay by the month
unfoldable pub wrong_payer : Terms → Bool
wrong_payer t = not (eqb t.payer 1 || eqb t.payer 2) || (eqb t.payer 2 && ltb 0 t.term)

-- C2, R5: the rate of the upper pension age, which odd months need, is none
abbrev pub missing_upper : Terms → (upper : ℕ) → Bool
missing_upper t upper = not (eqb t.pnpa_months 0) && eqb upper 0

-- C2, R5: of two rates one is none: that of the only or lower pension age, or that of the upper where it is needed
abbrev pub lacks_either : Terms → (lower upper : ℕ) → Bool
lacks_either t lower upper = eqb lower 0 || missing_upper t upper

-- R3, R4, refusal 5: for a lump sum, nothing in Table S at a needed pension age; else nothing in the only or lower monthly table
unfoldable pub no_rate : Terms → Bool
no_rate t =
    pick (eqb t.term 0)
    (lacks_either t (table_rate t t.pnpa_years) (table_rate t (t.pnpa_years + 1)))
    (eqb (table_rate t t.pnpa_years) 0)

-- R3, refusal 6: nothing in the upper monthly table, which odd months need
unfoldable pub no_upper_rate : Terms → Bool
no_upper_rate t = not (eqb t.term 0) && missing_upper t (table_rate t (t.pnpa_years + 1))

-- T6, refusal 7: less than £250, or not in steps of £250
unfoldable pub wrong_amount : Terms → Bool
wrong_amount t = ltb t.amount step_pounds || not (eqb (t.amount % step_pounds) 0)

-- T7, refusal 8: with the existing pension more than £6,500 a year, in pence
unfoldable pub above_cap : Terms → (existing : ℕ) → Bool
above_cap t existing = ltb cap_pence (existing + pounds_in_pence t.amount)

-- O5: the number of the first rule that refuses, 0 where none does
unfoldable pub refusal_of : Terms → (existing : ℕ) → ℕ
refusal_of t existing =
    pick (wrong_option t) 1
    (pick (wrong_pension_age t) 2
    (pick (wrong_term t) 3
    (pick (wrong_payer t) 4
    (pick (no_rate t) 5
    (pick (no_upper_rate t) 6
    (pick (wrong_amount t) 7
    (pick (above_cap t existing) 8 0)))))))
