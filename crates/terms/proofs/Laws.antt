-- What callers use of the refusals without opening them: what passes, and which half of the chain decides.
-- Assumes nothing.
use mathlib.Core.Bool.{Bool, true, false}
use mathlib.Core.Path.{◌≡◌, refl, sym, ap, ◌∙◌}
use Prim.Native.Nat.{ℕ, ◌+◌, ◌≤◌, ◌<◌}
use native.Mathlib.Omega.{arith}
use lib.Dec.{eqb}
use borrow.Author.Tests.{eq-eqb, ne_eqb, eqb-false}
use Rattle.common.specs.Choice.{pick, first_of}
use Rattle.common.proofs.Choice.{either, not_first, first_refuses, first_passes, both_pass}
use Rattle.common.proofs.Tests.{by_test, or_false}
use Rattle.scheme.specs.Bounds.{last_terms_refusal}
use Rattle.rates.specs.Rates.{rate_of, lump_rate_of}
use Rattle.terms.specs.declared.Terms.{Terms}
use Rattle.terms.specs.Rate.{rate_for, table_rate}
use Rattle.terms.specs.Rules.{wrong_option, wrong_pension_age, wrong_term, wrong_payer, missing_upper, no_rate, no_upper_rate, wrong_amount, above_cap}
use Rattle.terms.specs.Rules.{refusal_of}
use Rattle.terms.specs.Printed.{FirstFourPass}
use Rattle.terms.specs.RefusalParts.{first_four_refusal, last_four_refusal, rate_refusal, amount_refusal}

-- a chain gives 0 only where its first test fails and the rest gives 0
passed : (b : Bool) (n rest : ℕ) → 0 < n → pick b n rest ≡ 0 → (b ≡ false) × (rest ≡ 0)
passed b n rest p = not_first (λ x. x ≡ 0) b n rest (λ z. omega arith)

-- the rules before the rates pass
pub terms_rules_pass : (t : Terms) → first_four_refusal t ≡ 0 → FirstFourPass t
unfolding first_four_refusal
terms_rules_pass t z =
    let r1 = passed (wrong_option t) 1 _ (omega arith) z in
    let r2 = passed (wrong_pension_age t) 2 _ (omega arith) r1.1 in
    let r3 = passed (wrong_term t) 3 _ (omega arith) r2.1 in
    let r4 = passed (wrong_payer t) 4 0 (omega arith) r3.1 in
    record { option = r1.0; pension_age = r2.0; term = r3.0; payer = r4.0 }

-- what passes where the last four rules do
pub record LastFourPass (t : Terms) (existing : ℕ) : Type 0 where
  pub rate : no_rate t ≡ false
  pub upper : no_upper_rate t ≡ false
  pub amount : wrong_amount t ≡ false
  pub cap : above_cap t existing ≡ false

pub last_four_pass : (t : Terms) (existing : ℕ) → last_four_refusal t existing ≡ 0 → LastFourPass t existing
unfolding last_four_refusal
last_four_pass t existing z =
    let r5 = passed (no_rate t) 5 _ (omega arith) z in
    let r6 = passed (no_upper_rate t) 6 _ (omega arith) r5.1 in
    let r7 = passed (wrong_amount t) 7 _ (omega arith) r6.1 in
    let r8 = passed (above_cap t existing) 8 0 (omega arith) r7.1 in
    record { rate = r5.0; upper = r6.0; amount = r7.0; cap = r8.0 }

-- and the other way round
pub first_four_pass : (t : Terms) → FirstFourPass t → first_four_refusal t ≡ 0
unfolding first_four_refusal
first_four_pass t p = rw (p.option, p.pension_age, p.term, p.payer)

-- the chain is the first half, and where that passes the second
joined : (a b c d : Bool) (rest : ℕ)
    → pick a 1 (pick b 2 (pick c 3 (pick d 4 rest))) ≡ first_of (pick a 1 (pick b 2 (pick c 3 (pick d 4 0)))) rest
joined true b c d rest = refl
joined false true c d rest = refl
joined false false true d rest = refl
joined false false false true rest = refl
joined false false false false rest = refl

module _ (t : Terms) (existing : ℕ) where
  halves : refusal_of t existing ≡ first_of (first_four_refusal t) (last_four_refusal t existing)
  unfolding refusal_of first_four_refusal last_four_refusal
  halves = joined (wrong_option t) (wrong_pension_age t) (wrong_term t) (wrong_payer t) _

  pub terms_decide : (first_four_refusal t ≡ 0 → ⊥) → refusal_of t existing ≡ first_four_refusal t
  terms_decide h = halves ∙ first_refuses (first_four_refusal t) (last_four_refusal t existing) h

  pub last_four_decide : first_four_refusal t ≡ 0 → refusal_of t existing ≡ last_four_refusal t existing
  last_four_decide h = halves ∙ first_passes (first_four_refusal t) (last_four_refusal t existing) h

  pub none_refuses : refusal_of t existing ≡ 0 → (first_four_refusal t ≡ 0) × (last_four_refusal t existing ≡ 0)
  none_refuses z = both_pass (first_four_refusal t) (last_four_refusal t existing) (sym halves ∙ z)

-- the second half is its first two rules, and where they pass the other two
last_four_parts : (a b : Bool) (rest : ℕ) → pick a 5 (pick b 6 rest) ≡ first_of (pick a 5 (pick b 6 0)) rest
last_four_parts true b rest = refl
last_four_parts false true rest = refl
last_four_parts false false rest = refl

-- the chain in the three parts that the code asks one after the other
last_in_parts : (t : Terms) (existing : ℕ) → last_four_refusal t existing ≡ first_of (rate_refusal t) (amount_refusal t existing)
unfolding last_four_refusal rate_refusal amount_refusal
last_in_parts t existing = last_four_parts (no_rate t) (no_upper_rate t) _

pub in_parts : (t : Terms) (existing : ℕ)
    → refusal_of t existing ≡ first_of (first_four_refusal t) (first_of (rate_refusal t) (amount_refusal t existing))
in_parts t existing = halves t existing ∙ ap (λ (rest : ℕ). first_of (first_four_refusal t) rest) (last_in_parts t existing)

-- so the first part that refuses decides
module _ (t : Terms) (existing : ℕ) (terms : first_four_refusal t ≡ 0) where
  pub rates_decide : (rate_refusal t ≡ 0 → ⊥) → refusal_of t existing ≡ rate_refusal t
  rates_decide h = last_four_decide t existing terms ∙ last_in_parts t existing ∙ first_refuses _ _ h

  pub amount_decides : rate_refusal t ≡ 0 → refusal_of t existing ≡ amount_refusal t existing
  amount_decides rates = last_four_decide t existing terms ∙ last_in_parts t existing ∙ first_passes _ _ rates

-- the greatest refusal
pub refusal_most : (t : Terms) (existing : ℕ) → refusal_of t existing ≤ last_terms_refusal
unfolding refusal_of
refusal_most t existing =
    let Most : ℕ → Type 0 = λ n. n ≤ last_terms_refusal in
    either Most (wrong_option t) (omega arith)
    (either Most (wrong_pension_age t) (omega arith)
    (either Most (wrong_term t) (omega arith)
    (either Most (wrong_payer t) (omega arith)
    (either Most (no_rate t) (omega arith)
    (either Most (no_upper_rate t) (omega arith)
    (either Most (wrong_amount t) (omega arith) (either Most (above_cap t existing) (omega arith) (omega arith))))))))

-- the rate of a whole pension age: of Table S for a lump sum, else of the monthly table
pub lump_rate : (t : Terms) (p : ℕ) → t.term ≡ 0 → table_rate t p ≡ lump_rate_of t.option p t.age
unfolding table_rate rate_for
lump_rate t p z = rw (eq-eqb t.term 0 z)

pub monthly_rate : (t : Terms) (p : ℕ) → 0 < t.term → table_rate t p ≡ rate_of t.option p t.age t.term
unfolding table_rate rate_for
monthly_rate t p monthly = rw (ne_eqb t.term 0 (λ z. omega arith))

-- the needed rates are there where 5 and 6 pass

pub upper_there : (t : Terms) (upper : ℕ) → missing_upper t upper ≡ false → (t.pnpa_months ≡ 0 → ⊥) → 0 < upper
upper_there t upper e odd = omega (arith, eqb-false upper 0 (rw (ne_eqb t.pnpa_months 0 odd) at e))

module _ (t : Terms) (rate : no_rate t ≡ false) where
  pub lower_rate_some : 0 < table_rate t t.pnpa_years
  unfolding no_rate
  lower_rate_some =
      by_test (eqb t.term 0) (λ e. omega (arith, eqb-false (table_rate t t.pnpa_years) 0 (or_false _ _ (rw e at rate)).0))
      (λ e. omega (arith, eqb-false (table_rate t t.pnpa_years) 0 (rw e at rate)))

  pub upper_rate_some : no_upper_rate t ≡ false → (t.pnpa_months ≡ 0 → ⊥) → 0 < table_rate t (t.pnpa_years + 1)
  unfolding no_rate no_upper_rate
  upper_rate_some upper =
      by_test (eqb t.term 0) (λ e. upper_there t (table_rate t (t.pnpa_years + 1)) (or_false (eqb (table_rate t t.pnpa_years) 0) _ (rw e at rate)).1)
      (λ e. upper_there t (table_rate t (t.pnpa_years + 1)) (rw e at upper))
