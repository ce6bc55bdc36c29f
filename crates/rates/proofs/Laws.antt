-- The laws of the rates of this scheme, for callers: the print rules both ways, the greatest rates, and how the rates go with term and age.
-- Those of the monthly rates hold for any print rule (Monthly); this scheme's first age and margin are its arguments.
-- Assumes nothing.
use mathlib.Core.Path.{◌≡◌, refl, sym, ◌∙◌}
use Prim.Native.Nat.{ℕ, ◌%◌, ◌≤◌, ◌<◌, zero-le}
use native.Mathlib.Nat.{le_refl, le_trans}
use native.Mathlib.Decide.{le_ind}
use native.Mathlib.Omega.{arith}
use Rattle.scheme.specs.Scheme.{step_pence, first_age, print_margin}
use Rattle.scheme.specs.Bounds.{most_monthly_rate, most_lump_sum_rate}
use Rattle.rates.specs.Rates.{table_of, rate_of, lump_rate_of, MonthlyPrinted, LumpPrinted}
use Rattle.rates.proofs.Positive.{by_positive}
use Rattle.rates.proofs.Monthly.{any_printed, any_shown, any_most, any_tens, any_falls, any_rises}
use Rattle.rates.proofs.Passing.{tables_passing}
use Rattle.rates.proofs.LumpSum as lump

-- the print rule of the monthly tables, both ways
pub rate_printed : (o p age term : ℕ) → 0 < rate_of o p age term → MonthlyPrinted first_age print_margin o p age term
unfolding rate_of
rate_printed = any_printed first_age print_margin most_monthly_rate table_of tables_passing

pub rate_shown : (o p age term : ℕ) → MonthlyPrinted first_age print_margin o p age term → 0 < rate_of o p age term
unfolding rate_of
rate_shown = any_shown first_age print_margin most_monthly_rate table_of tables_passing

-- the greatest monthly rate is £381.60, in D65 at age 63 for a term of 1
pub rate_most : (o p age term : ℕ) → rate_of o p age term ≤ most_monthly_rate
unfolding rate_of
rate_most = any_most first_age print_margin most_monthly_rate table_of tables_passing

pub rate_tens : (o p age term : ℕ) → rate_of o p age term % 10 ≡ 0
unfolding rate_of
rate_tens = any_tens first_age print_margin most_monthly_rate table_of tables_passing

-- a longer term never has a higher rate
pub rate_falls : (o p age n t : ℕ) → 0 < n → n ≤ t → rate_of o p age t ≤ rate_of o p age n
unfolding rate_of
rate_falls = any_falls first_age print_margin most_monthly_rate table_of tables_passing

-- down a column it never falls with age, as far as the column is printed
pub rate_rises : (o p a b term : ℕ) → a ≤ b → 0 < rate_of o p b term → rate_of o p a term ≤ rate_of o p b term
unfolding rate_of
rate_rises = any_rises first_age print_margin most_monthly_rate table_of tables_passing

-- the print rule of Table S, both ways
pub lump_printed : (o p age : ℕ) → 0 < lump_rate_of o p age → LumpPrinted o p age
lump_printed = lump.printed_lump

pub lump_shown : (o p age : ℕ) → LumpPrinted o p age → 0 < lump_rate_of o p age
lump_shown o p age r = omega (arith, (lump.lump_rules o p age r).above)

pub lump_none : (o p age : ℕ) → (LumpPrinted o p age → ⊥) → lump_rate_of o p age ≡ 0
lump_none = lump.no_lump

-- the greatest lump sum is £4,560, for option 2 at age 64
pub lump_most : (o p age : ℕ) → lump_rate_of o p age ≤ most_lump_sum_rate
lump_most o p age = by_positive (λ x. x ≤ most_lump_sum_rate) _ zero-le (λ h. (lump.lump_rules o p age (lump_printed o p age h)).most)

pub lump_tens : (o p age : ℕ) → lump_rate_of o p age % 1000 ≡ 0
lump_tens o p age = by_positive (λ x. x % 1000 ≡ 0) _ refl (λ h. (lump.lump_rules o p age (lump_printed o p age h)).tens)

-- £250 a year never costs £250 or less
pub lump_above : (o p age : ℕ) → LumpPrinted o p age → step_pence < lump_rate_of o p age
lump_above o p age r = (lump.lump_rules o p age r).above

-- without dependant's pension it costs less than with it
pub lump_options : (p age : ℕ) → LumpPrinted 1 p age → lump_rate_of 1 p age < lump_rate_of 2 p age
lump_options p age r = (lump.lump_rules 1 p age r).options

-- down a column it never falls with age, as far as the column is printed
pub lump_rises : (o p a b : ℕ) → a ≤ b → 0 < lump_rate_of o p b → lump_rate_of o p a ≤ lump_rate_of o p b
lump_rises o p a b le last =
    let there = lump_printed o p b last in
    by_positive (λ x. x ≤ lump_rate_of o p b) _ zero-le λ first.
    le_ind (λ (n : ℕ). n ≤ b → lump_rate_of o p a ≤ lump_rate_of o p n) (λ h. le_refl _)
    (λ m h above n. le_trans (above (omega arith)) ((lump.lump_rules o p m (omega (arith, lump_printed o p a first))).rises (omega arith)))
    b le (le_refl b)

-- every pension age has the same lump sum
pub lump_same : (o p q age : ℕ) → LumpPrinted o p age → LumpPrinted o q age → lump_rate_of o p age ≡ lump_rate_of o q age
lump_same o p q age r s =
    lump.lump_entry o p age r.pension_low r.pension_high r.age_low r.age_high
    ∙ sym (lump.lump_entry o q age s.pension_low s.pension_high s.age_low s.age_high)
