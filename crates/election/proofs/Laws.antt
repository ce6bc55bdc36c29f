-- What callers use of an election's refusal, rates and contribution, without opening them.
-- Assumes nothing.
use mathlib.Core.Bool.{Bool, true, false, not, ◌||◌}
use mathlib.Core.Path.{◌≡◌, refl, sym, ◌∙◌}
use Rattle.std.specs.Prelude.{Some, None}
use Rattle.std.proofs.lemmas.Option.{none-some}
use Prim.Native.Nat.{ℕ, ◌+◌, ◌*◌, ◌%◌, ◌≤◌, ◌<◌}
use native.Mathlib.Nat.{mul-le-mul, mul-pos}
use native.Mathlib.Omega.{arith}
use lib.Dec.{ltb, eqb}
use borrow.Author.Tests.{ltb-false, leb-false, eq-eqb, eqb-true, eqb-false, ne_eqb, not-false}
use Rattle.common.proofs.Choice.{either}
use Rattle.common.proofs.Tests.{by_test, never, or_false}
use Rattle.rounding.proofs.Laws.{combine_most, combine_least}
use Rattle.scheme.specs.Scheme.{step_pounds}
use Rattle.scheme.specs.Bounds.{most_lump_sum_rate, most_monthly_rate, most_steps, most_monthly_contribution, most_contribution}
use Rattle.rates.proofs.Lookups.{rate_no_table}
use Rattle.rates.proofs.Laws.{rate_most, lump_none, lump_most}
use Rattle.terms.specs.declared.Terms.{Terms}
use Rattle.terms.specs.Rate.{rate_for, table_rate}
use Rattle.terms.specs.Rules.{wrong_option, wrong_pension_age, wrong_term, wrong_amount, above_cap, refusal_of}
use Rattle.terms.proofs.Laws.{terms_rules_pass, last_four_pass, none_refuses, monthly_rate, lower_rate_some, upper_rate_some}
use Rattle.election.specs.ContributionOf.{contribution_at, contribution_in, contribution_of}
use Rattle.election.specs.LookedUp.{upper_rate}
use Rattle.election.specs.TermsAccepted.{PensionAgeIn, TermsAccepted}

pension_age_in : (t : Terms) → wrong_pension_age t ≡ false → PensionAgeIn t
unfolding wrong_pension_age
pension_age_in t e =
    let months = or_false _ _ e in
    let years = or_false _ _ months.1 in
    record { months_high = leb-false _ _ months.0; years_low = ltb-false _ _ years.0; age_high = ltb-false _ _ years.1 }

option_in : (t : Terms) → wrong_option t ≡ false → (1 ≤ t.option) × (t.option ≤ 2)
unfolding wrong_option
option_in t e = go (eqb t.option 1) (eqb t.option 2) refl refl (not-false _ e)
  where
    go : (a b : Bool) → eqb t.option 1 ≡ a → eqb t.option 2 ≡ b → (a || b) ≡ true → (1 ≤ t.option) × (t.option ≤ 2)
    go true b p q h = omega (arith, eqb-true t.option 1 p)
    go false true p q h = omega (arith, eqb-true t.option 2 q)
    go false false p q h = never h

-- what terms that no rule refuses have
pub terms_accepted : (t : Terms) (existing : ℕ) → refusal_of t existing ≡ 0 → TermsAccepted t existing
unfolding wrong_term wrong_amount above_cap
terms_accepted t existing e =
    let none = none_refuses t existing e in
    let terms = terms_rules_pass t none.0 in
    let four = last_four_pass t existing none.1 in
    let amount = or_false (ltb t.amount step_pounds) (not (eqb (t.amount % step_pounds) 0)) four.amount in
    let even : t.amount % step_pounds ≡ 0 = eqb-true (t.amount % step_pounds) 0 (not-false _ amount.1) in
    let option = option_in t terms.option in
    record {
      option_low = option.0;
      option_high = option.1;
      pension_age = pension_age_in t terms.pension_age;
      term_high = ltb-false _ _ terms.term;
      lower_printed = lower_rate_some t four.rate;
      upper_printed = upper_rate_some t four.rate four.upper;
      amount_low = ltb-false _ _ amount.0;
      whole = omega arith;
      under_cap = ltb-false _ _ four.cap;
    }

-- no rate is above the greatest lump sum for £250
pub table_rate_most : (t : Terms) (p : ℕ) → table_rate t p ≤ most_lump_sum_rate
unfolding table_rate rate_for
table_rate_most t p =
    either (λ x. x ≤ most_lump_sum_rate) (eqb t.term 0) (lump_most t.option p t.age) (omega (arith, rate_most t.option p t.age t.term))

some_same : (x y : ℕ) → Some x ≡ Some y → x ≡ y
some_same x y e = cc

-- with odd months the upper rate is that of the upper pension age
pub upper_rate_odd : (t : Terms) → (t.pnpa_months ≡ 0 → ⊥) → upper_rate t ≡ Some (table_rate t (t.pnpa_years + 1))
unfolding upper_rate
upper_rate_odd t odd = rw (ne_eqb t.pnpa_months 0 odd)

-- at a whole pension age there is none
pub upper_rate_whole : (t : Terms) → t.pnpa_months ≡ 0 → upper_rate t ≡ None
unfolding upper_rate
upper_rate_whole t whole = rw (eq-eqb t.pnpa_months 0 whole)

-- so an upper rate that is there is that of the upper pension age, and the months are odd
pub upper_rate_is : (t : Terms) (r : ℕ) → upper_rate t ≡ Some r → (t.pnpa_months ≡ 0 → ⊥) × (r ≡ table_rate t (t.pnpa_years + 1))
upper_rate_is t r e =
    by_test (eqb t.pnpa_months 0)
    (λ whole. absurd (none-some r (sym (upper_rate_whole t (eqb-true _ 0 whole)) ∙ e)))
    (λ odd. let o = eqb-false t.pnpa_months 0 odd in (o, some_same _ _ (sym e ∙ upper_rate_odd t o)))

pub upper_rate_none : (t : Terms) → upper_rate t ≡ None → t.pnpa_months ≡ 0
upper_rate_none t e =
    by_test (eqb t.pnpa_months 0) (λ whole. eqb-true _ 0 whole)
    (λ odd. absurd (none-some _ (sym e ∙ upper_rate_odd t (eqb-false _ 0 odd))))

-- terms that are accepted beside an existing pension are accepted without it
pub accepted_alone : (t : Terms) (existing : ℕ) → TermsAccepted t existing → TermsAccepted t 0
accepted_alone t existing a =
    record {
      option_low = a.option_low;
      option_high = a.option_high;
      pension_age = a.pension_age;
      term_high = a.term_high;
      lower_printed = a.lower_printed;
      upper_printed = a.upper_printed;
      amount_low = a.amount_low;
      whole = a.whole;
      under_cap = omega (arith, a.under_cap);
    }

-- there is none for a pension age above 68
pub rate_past : (t : Terms) (p : ℕ) → 68 < p → table_rate t p ≡ 0
unfolding table_rate rate_for
rate_past t p past =
    either (λ x. x ≡ 0) (eqb t.term 0) (lump_none t.option p t.age (λ r. omega arith))
    (sym (rate_no_table t.option p t.age t.term (λ known. omega arith)))

module _ (t : Terms) (existing : ℕ) (a : TermsAccepted t existing) where
  -- at rates of at most r a contribution is at most as many times r as the cap has steps
  by_rates : (r : ℕ) → ((p : ℕ) → table_rate t p ≤ r) → contribution_of t ≤ most_steps * r
  unfolding contribution_of contribution_in contribution_at
  by_rates r rates =
      combine_most t.pnpa_months _ _ (most_steps * r) (omega (arith, a.pension_age.months_high)) (own t.pnpa_years) (own (t.pnpa_years + 1))
    where
      own : (p : ℕ) → contribution_in t p ≤ most_steps * r
      own p = mul-le-mul {n₂ = most_steps} {m₂ = r} (omega (arith, a.under_cap)) (rates p)

  -- the dearest election, and the dearest by the month
  pub contribution_most : contribution_of t ≤ most_contribution
  contribution_most = omega (arith, by_rates most_lump_sum_rate (table_rate_most t))

  pub monthly_most : 0 < t.term → contribution_of t ≤ most_monthly_contribution
  monthly_most monthly =
      by_rates most_monthly_rate (λ p. rw (monthly_rate t p monthly) (rate_most t.option p t.age t.term))

  -- the cheapest: a rate that is printed is a penny or more
  pub contribution_least : 1 ≤ contribution_of t
  unfolding contribution_of contribution_in contribution_at
  contribution_least =
      combine_least t.pnpa_months _ _ 1 (omega (arith, a.pension_age.months_high)) (own t.pnpa_years a.lower_printed)
      (λ odd. own (t.pnpa_years + 1) (a.upper_printed (λ z. omega arith)))
    where
      own : (p : ℕ) → 0 < table_rate t p → 1 ≤ contribution_in t p
      own p there = mul-pos (omega (arith, a.amount_low)) there
