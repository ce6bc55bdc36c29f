-- The refusals 5 and 6 are those that the print rules say.
-- Assumes nothing.
use mathlib.Core.Bool.{Bool, true, false}
use mathlib.Core.Logic.{inl, inr, ⊎_elim}
use mathlib.Core.Path.{◌≡◌, refl, sym, ◌∙◌}
use Prim.Native.Nat.{ℕ, zero, suc, ◌+◌, ◌<◌}
use native.Mathlib.Omega.{arith}
use lib.Dec.{eqb}
use borrow.Author.Tests.{eq-eqb, ne_eqb, eqb-true, eqb-false}
use Rattle.common.specs.Choice.{pick}
use Rattle.common.proofs.Choice.{either}
use Rattle.common.proofs.Tests.{by_test, never, or_true}
use Rattle.rates.specs.Rates.{LumpPrinted}
use Rattle.rates.proofs.Laws.{rate_printed, rate_shown, lump_shown, lump_none}
use Rattle.terms.specs.declared.Terms.{Terms}
use Rattle.terms.specs.Rate.{table_rate}
use Rattle.terms.specs.Rules.{missing_upper, no_rate, no_upper_rate, wrong_amount, above_cap, refusal_of}
use Rattle.terms.specs.RefusalParts.{last_four_refusal}
use Rattle.terms.specs.Printed.{MonthlyPrintedFor, LacksRate, LacksUpperRate, FirstFourPass, PrintedRefusals}
use Rattle.terms.proofs.Laws.{first_four_pass, last_four_decide, lump_rate, monthly_rate, lower_rate_some}

-- a number that cannot be above 0 is 0
not_above : (n : ℕ) → (0 < n → ⊥) → n ≡ 0
not_above zero h = refl
not_above (suc n) h = absurd (h (omega arith))

-- a rate is 0 just where nothing is printed
module _ (t : Terms) (p : ℕ) where
  zero_lump : t.term ≡ 0 → table_rate t p ≡ 0 → LumpPrinted t.option p t.age → ⊥
  zero_lump z e there = omega (arith, lump_rate t p z, lump_shown t.option p t.age there)

  none_lump : t.term ≡ 0 → (LumpPrinted t.option p t.age → ⊥) → table_rate t p ≡ 0
  none_lump z no_lump = lump_rate t p z ∙ lump_none t.option p t.age no_lump

  zero_monthly : 0 < t.term → table_rate t p ≡ 0 → MonthlyPrintedFor t p → ⊥
  zero_monthly m e there = omega (arith, monthly_rate t p m, rate_shown t.option p t.age t.term there)

  none_monthly : 0 < t.term → (MonthlyPrintedFor t p → ⊥) → table_rate t p ≡ 0
  none_monthly m no-rate = monthly_rate t p m ∙ not_above _ (λ h. no-rate (rate_printed t.option p t.age t.term h))

  some_monthly : 0 < t.term → MonthlyPrintedFor t p → eqb (table_rate t p) 0 ≡ false
  some_monthly m there = ne_eqb (table_rate t p) 0 (λ e. zero_monthly m e there)

-- the upper rate is missing just where odd months need it and there is none
module _ (t : Terms) (upper : ℕ) where
  pub upper_missing : missing_upper t upper ≡ true → (t.pnpa_months ≡ 0 → ⊥) × (upper ≡ 0)
  upper_missing e =
      by_test (eqb t.pnpa_months 0) (λ whole. never (rw whole at e))
      (λ odd. (eqb-false t.pnpa_months 0 odd, eqb-true upper 0 (rw odd at e)))

  pub missing_upper_lem : (t.pnpa_months ≡ 0 → ⊥) → upper ≡ 0 → missing_upper t upper ≡ true
  missing_upper_lem odd e = rw (ne_eqb t.pnpa_months 0 odd, eq-eqb upper 0 e)

module _ (t : Terms) where
  no_rate_says : no_rate t ≡ true → LacksRate t
  unfolding no_rate
  no_rate_says e =
      by_test (eqb t.term 0)
      (λ lump.
      let z = eqb-true t.term 0 lump in
      let some = rw lump at e in
      inl (
        z,
        by_test (eqb (table_rate t t.pnpa_years) 0)
            (λ lower. (t.pnpa_years, (inl refl, zero_lump t t.pnpa_years z (eqb-true _ 0 lower))))
            (λ lower.
            let m = upper_missing t _ (rw lower at some) in
            (t.pnpa_years + 1, (inr (refl, m.0), zero_lump t (t.pnpa_years + 1) z m.1))),
      ))
      (λ monthly.
      let m : 0 < t.term = omega (arith, eqb-false t.term 0 monthly) in
      inr (m, zero_monthly t t.pnpa_years m (eqb-true _ 0 (rw monthly at e))))

  says_no_rate : LacksRate t → no_rate t ≡ true
  unfolding no_rate
  says_no_rate =
      ⊎_elim
      (λ l.
      let z = l.0 in
      let there = none_lump t l.1.0 z l.1.1.1 in
      rw (eq-eqb t.term 0 z)
      (⊎_elim
      (λ e. rw (eq-eqb (table_rate t t.pnpa_years) 0 (rw e at there)))
      (λ e. rw (missing_upper_lem t _ e.1 (rw e.0 at there)) (or_true (eqb (table_rate t t.pnpa_years) 0)))
      l.1.1.0))
      (λ m. rw (ne_eqb t.term 0 (λ z. omega (arith, m.0)), eq-eqb (table_rate t t.pnpa_years) 0 (none_monthly t t.pnpa_years m.0 m.1)))

  no_upper_says : no_rate t ≡ false → no_upper_rate t ≡ true → LacksUpperRate t
  unfolding no_upper_rate
  no_upper_says rate e =
      by_test (eqb t.term 0) (λ lump. never (rw lump at e))
      (λ monthly.
      let m : 0 < t.term = omega (arith, eqb-false t.term 0 monthly) in
      let u = upper_missing t _ (rw monthly at e) in
      let lower = rate_printed t.option t.pnpa_years t.age t.term (rw (monthly_rate t t.pnpa_years m) at (lower_rate_some t rate)) in
      (m, (lower, (u.0, zero_monthly t (t.pnpa_years + 1) m u.1))))

  says_lower : LacksUpperRate t → no_rate t ≡ false
  unfolding no_rate
  says_lower n = rw (ne_eqb t.term 0 (λ z. omega (arith, n.0)), some_monthly t t.pnpa_years n.0 n.1.0)

  says_no_upper : LacksUpperRate t → no_upper_rate t ≡ true
  unfolding no_upper_rate
  says_no_upper n =
      rw (ne_eqb t.term 0 (λ z. omega (arith, n.0)), missing_upper_lem t _ n.1.1.0 (none_monthly t (t.pnpa_years + 1) n.0 n.1.1.1))

-- a test that refuses with a number that the rest of the chain does not give
refuses_just : (b : Bool) (n rest : ℕ) → (rest ≡ n → ⊥) → pick b n rest ≡ n → b ≡ true
refuses_just true n rest other e = refl
refuses_just false n rest other e = absurd (other e)

module _ (t : Terms) (existing : ℕ) where
  -- what comes after 5, and after 6, in the chain
  abbrev after_six : ℕ
  after_six = pick (wrong_amount t) 7 (pick (above_cap t existing) 8 0)

  six_other : (after_six ≡ 5 → ⊥) × (after_six ≡ 6 → ⊥)
  six_other =
      let Other : ℕ → Type 0 = λ n. (n ≡ 5 → ⊥) × (n ≡ 6 → ⊥) in
      either Other (wrong_amount t) (λ e. omega arith, λ e. omega arith)
      (either Other (above_cap t existing) (λ e. omega arith, λ e. omega arith) (λ e. omega arith, λ e. omega arith))

  five_other : pick (no_upper_rate t) 6 after_six ≡ 5 → ⊥
  five_other = either (λ n. n ≡ 5 → ⊥) (no_upper_rate t) (λ e. omega arith) six_other.0

  pub printed_refusals : FirstFourPass t → PrintedRefusals t existing
  unfolding last_four_refusal
  printed_refusals pass =
      let whole = last_four_decide t existing (first_four_pass t pass) in
      record {
        five = λ e. no_rate_says t (refuses_just (no_rate t) 5 _ five_other (sym whole ∙ e));
        just_five = λ n. whole ∙ rw (says_no_rate t n);
        six = λ e.
            by_test (no_rate t)
            (λ r.
            let five : refusal_of t existing ≡ 5 = whole ∙ rw r in
            absurd (omega arith))
            (λ r. no_upper_says t r (refuses_just (no_upper_rate t) 6 _ six_other.1 (rw r at (sym whole ∙ e))));
        just_six = λ n. whole ∙ rw (says_lower t n, says_no_upper t n);
      }
