-- What holds of every pay-off: what is priced, and what refuses in which order.
-- Assumes nothing.
use mathlib.Core.Bool.{true, false}
use mathlib.Core.List.{List}
use mathlib.Core.Logic.{◌⊎◌, inl, inr, ⊎_elim}
use mathlib.Core.Path.{◌≡◌, refl, sym, ap, subst, ◌∙◌}
use Prim.Native.Nat.{ℕ, ◌+◌, ◌≤◌, ◌<◌}
use native.Mathlib.Omega.{arith}
use lib.Dec.{ltb, eqb}
use borrow.Author.Tests.{lt-ltb, le-ltb, eq-eqb, ne_eqb, eqb-true, eqb-false}
use Rattle.common.proofs.Choice.{either}
use Rattle.common.proofs.Tests.{by_test, or_false, or_true}
use Rattle.scheme.specs.Scheme.{pounds_in_pence, step_pence}
use Rattle.rates.proofs.Laws.{lump_printed, lump_shown, lump_none, lump_above}
use Rattle.terms.specs.declared.Terms.{Terms}
use Rattle.terms.specs.Rules.{missing_upper}
use Rattle.terms.proofs.Laws.{upper_there}
use Rattle.terms.specs.Printed.{LacksLumpSum}
use Rattle.terms.proofs.Printed.{upper_missing, missing_upper_lem}
use Rattle.election.specs.TermsAccepted.{TermsAccepted}
use Rattle.scheme.specs.Scheme.{open_months}
use Rattle.marks.specs.Counts.{has_ended}
use Rattle.marks.proofs.StatusOf.{ended_status, running_status}
use Rattle.examination.proofs.Laws.{settled_terms}
use Rattle.settlement.specs.Settle.{SettleNumbers, settle_of}
use Rattle.settlement.proofs.Laws.{settle_settled, settle_refusal_lem}
use Rattle.settlement.proofs.Bounds.{settle_credit_most}
use Rattle.pay_off.specs.PayOff.{PayOffNumbers, least_increase, most_increase, nothing_to_pay_off, wrong_increase, lump_sum_now, no_lump_sum_now, contract_refusal, contract_pay_off, pay_off_of}
use Rattle.pay_off.specs.Clauses.{PayOffPriced, StatusPayable, IncreaseTaken, PayOffRefusals}
use Rattle.pay_off.proofs.Costs.{increased_least, increased_none, cost_least, cost_none}
use Rattle.pay_off.proofs.Contract.{contract_passes}
use Rattle.pay_off.proofs.Complete.{complete_credit}
use Rattle.pay_off.proofs.Laws.{settle_refuses, contract_decides, decided_number, priced_is}

-- terms that Settle does not refuse
pub unrefused_terms : (t : Terms) (ms : List ℕ) → (settle_of t ms).refusal ≡ 0 → TermsAccepted t 0
unrefused_terms t ms z = settled_terms t ms (sym (settle_refusal_lem t ms) ∙ z)

-- a needed lump sum that is not missing is above £250
module _ (t : Terms) (age_now : ℕ) (there : no_lump_sum_now t age_now ≡ false) where
  above : (p : ℕ) → 0 < lump_sum_now t age_now p → step_pence < lump_sum_now t age_now p
  above p some = lump_above t.option p age_now (lump_printed t.option p age_now some)

  -- neither is missing
  both : (eqb (lump_sum_now t age_now t.pnpa_years) 0 ≡ false) × (missing_upper t (lump_sum_now t age_now (t.pnpa_years + 1)) ≡ false)
  unfolding no_lump_sum_now
  both = or_false (eqb (lump_sum_now t age_now t.pnpa_years) 0) (missing_upper t (lump_sum_now t age_now (t.pnpa_years + 1))) there

  lower_above : step_pence < lump_sum_now t age_now t.pnpa_years
  lower_above = above t.pnpa_years (omega (arith, eqb-false (lump_sum_now t age_now t.pnpa_years) 0 both.0))

  upper_above : 0 < t.pnpa_months → step_pence < lump_sum_now t age_now (t.pnpa_years + 1)
  upper_above odd = above (t.pnpa_years + 1) (upper_there t _ both.1 (λ z. omega arith))

module _ (t : Terms) (ms : List ℕ) (age_now increase : ℕ) where
  abbrev settled : SettleNumbers
  settled = settle_of t ms

  abbrev answer : PayOffNumbers
  answer = pay_off_of t ms age_now increase

  whole : answer.refusal ≡ 0 → answer.remaining + settled.credit ≡ pounds_in_pence t.amount
  whole z = rw (priced_is t ms age_now increase z).numbers (omega (arith, settle_credit_most t ms))

  -- where nothing remains, nothing is to be paid
  none_left : answer.refusal ≡ 0 → answer.remaining ≡ 0 → (answer.increased ≡ 0) × (answer.cost ≡ 0)
  none_left z left =
      let is = (priced_is t ms age_now increase z).numbers in
      let rest = sym (ap (λ (n : PayOffNumbers). n.remaining) is) ∙ left in
      rw is (rw rest (rw (increased_none increase) (refl, cost_none _ _ t.pnpa_months)))

  rises : answer.refusal ≡ 0 → (answer.remaining ≤ answer.increased) × (answer.increased ≤ answer.cost)
  rises z =
      let is = priced_is t ms age_now increase z in
      let pass = contract_passes t settled.status age_now increase is.none in
      let age = (unrefused_terms t ms is.unrefused).pension_age in
      rw is.numbers (
        increased_least increase _ pass.increase_low,
        cost_least _ _ _ t.pnpa_months (omega (arith, age.months_high))
            (omega (arith, lower_above t age_now pass.printed))
            (λ odd. omega (arith, upper_above t age_now pass.printed odd)),
      )

  pub pay_off_priced : PayOffPriced t ms answer
  pay_off_priced =
      record {
        whole = whole;
        complete = λ z complete.
            let left : answer.remaining ≡ 0 =
            omega (arith, whole z, complete_credit t ms (priced_is t ms age_now increase z).unrefused complete) in
            (left, none_left z left);
        rises = rises;
        free = λ z free. omega (arith, rises z, free);
        nothing_left = λ z left. (none_left z left).1;
      }

  -- the tests of the chain, from what is said in numbers
  nothing_said : (s : ℕ) → ((s ≡ 0) ⊎ ((s ≡ 5) ⊎ (s ≡ 6))) → nothing_to_pay_off s ≡ true
  unfolding nothing_to_pay_off
  nothing_said s = ⊎_elim (λ e. rw e) (⊎_elim (λ e. rw e) (λ e. rw e))

  payable_fits : (s : ℕ) → StatusPayable s → nothing_to_pay_off s ≡ false
  unfolding nothing_to_pay_off
  payable_fits s p = rw (ne_eqb s 0 (λ e. omega arith), ne_eqb s 5 (λ e. omega arith), ne_eqb s 6 (λ e. omega arith))

  increase_out : ((increase < least_increase) ⊎ (most_increase < increase)) → wrong_increase increase ≡ true
  unfolding wrong_increase
  increase_out = ⊎_elim (λ low. rw (lt-ltb increase least_increase low)) (λ high. rw (lt-ltb most_increase increase high) (or_true (ltb increase least_increase)))

  increase_taken : IncreaseTaken increase → wrong_increase increase ≡ false
  unfolding wrong_increase
  increase_taken p = rw (le-ltb increase least_increase p.0, le-ltb most_increase increase p.1)

  -- a lump sum that is missing, in the words of the print rule
  no_lump_says : no_lump_sum_now t age_now ≡ true → LacksLumpSum t age_now
  unfolding no_lump_sum_now
  no_lump_says e =
      by_test (eqb (lump_sum_now t age_now t.pnpa_years) 0)
      (λ lower.
      (t.pnpa_years, (inl refl, λ there. omega (arith, eqb-true (lump_sum_now t age_now t.pnpa_years) 0 lower, lump_shown t.option t.pnpa_years age_now there))))
      (λ lower.
      let m = upper_missing t (lump_sum_now t age_now (t.pnpa_years + 1)) (rw lower at e) in
      (t.pnpa_years + 1, (inr (refl, m.0), λ there. omega (arith, m.1, lump_shown t.option (t.pnpa_years + 1) age_now there))))

  says_no_lump : LacksLumpSum t age_now → no_lump_sum_now t age_now ≡ true
  unfolding no_lump_sum_now
  says_no_lump lacks =
      let none = lump_none t.option lacks.0 age_now lacks.1.1 in
      ⊎_elim
      (λ e. rw (eq-eqb (lump_sum_now t age_now t.pnpa_years) 0 (rw e at none)))
      (λ e. rw (missing_upper_lem t _ e.1 (rw e.0 at none)) (or_true (eqb (lump_sum_now t age_now t.pnpa_years) 0)))
      lacks.1.0

  no_place : settled.refusal ≡ 0 → answer.place ≡ 0
  unfolding contract_pay_off
  no_place z =
      ap (λ (n : PayOffNumbers). n.place) (contract_decides t ms age_now increase z)
      ∙ either (λ (n : PayOffNumbers). n.place ≡ 0) (eqb (contract_refusal t settled.status age_now increase) 0) refl refl

  sixteen : settled.refusal ≡ 0 → ((settled.status ≡ 0) ⊎ ((settled.status ≡ 5) ⊎ (settled.status ≡ 6))) → answer.refusal ≡ 16
  unfolding contract_refusal
  sixteen z s = decided_number t ms age_now increase z ∙ rw (nothing_said settled.status s)

  -- a lump sum has status 5 or 6
  lump_status : settled.refusal ≡ 0 → t.term ≡ 0 → (settled.status ≡ 5) ⊎ (settled.status ≡ 6)
  lump_status z lump =
      let is = ap (λ (n : SettleNumbers). n.status) (settle_settled t ms (sym (settle_refusal_lem t ms) ∙ z)) in
      by_test (has_ended ms) (λ e. inl (is ∙ ended_status open_months t.term ms lump e)) (λ e. inr (is ∙ running_status open_months t.term ms lump e))

  pub pay_off_refusals : PayOffRefusals t ms age_now increase answer
  unfolding contract_refusal
  pay_off_refusals =
      record {
        settle_first = λ some.
            let whole = settle_refuses t ms age_now increase some in
            (ap (λ (n : PayOffNumbers). n.refusal) whole, ap (λ (n : PayOffNumbers). n.place) whole);
        no_place = no_place;
        sixteen = sixteen;
        lump_sum = λ z lump. sixteen z (inr (lump_status z lump));
        seventeen = λ z fit out.
            decided_number t ms age_now increase z ∙ rw (payable_fits settled.status fit, increase_out out);
        five = λ z fit range lacks.
            decided_number t ms age_now increase z
            ∙ rw (payable_fits settled.status fit, increase_taken range, says_no_lump lacks);
        priced = λ z fit range there.
            by_test (no_lump_sum_now t age_now) (λ e. absurd (there (no_lump_says e)))
            (λ e. decided_number t ms age_now increase z ∙ rw (payable_fits settled.status fit, increase_taken range, e));
      }

  -- and so of equal numbers
  pub same_pay_off_priced : (n : PayOffNumbers) → n ≡ answer → PayOffPriced t ms n
  same_pay_off_priced n is = subst (PayOffPriced t ms) (sym is) pay_off_priced

  pub same_pay_off_refusals : (n : PayOffNumbers) → n ≡ answer → PayOffRefusals t ms age_now increase n
  same_pay_off_refusals n is = subst (PayOffRefusals t ms age_now increase) (sym is) pay_off_refusals
