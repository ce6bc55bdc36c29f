-- The pay-off of a contract that Settle accepts: what refuses it, and what holds where nothing does.
-- Assumes nothing.
use mathlib.Core.Bool.{true, false}
use mathlib.Core.Path.{◌≡◌, refl, ap, ◌∙◌}
use Prim.Native.Nat.{ℕ, ◌+◌, ◌≤◌}
use native.Mathlib.Omega.{arith}
use lib.Dec.{ltb}
use borrow.Author.Tests.{ltb-false, eq-eqb, ne_eqb}
use Rattle.common.specs.Choice.{pick}
use Rattle.common.proofs.Choice.{not_first, chosen_number}
use Rattle.common.proofs.Tests.{or_false}
use Rattle.terms.specs.declared.Terms.{Terms}
use Rattle.terms.specs.Rate.{rate_for, table_rate}
use Rattle.terms.specs.Rules.{no_rate, no_upper_rate}
use Rattle.terms.specs.RefusalParts.{rate_refusal}
use Rattle.terms.proofs.Laws.{lump_rate}
use Rattle.election.specs.declared.TableRates.{TableRates}
use Rattle.election.specs.LookedUp.{rates_of}
use Rattle.election.proofs.Laws.{upper_rate_odd}
use Rattle.pay_off.specs.LumpSumsNow.{SumsLookedUp, sum_or_none, upper_sum_or_none}
use Rattle.pay_off.specs.Cost.{increased_by}
use Rattle.pay_off.specs.PayOff.{PayOffNumbers, least_increase, most_increase, nothing_to_pay_off, wrong_increase, lump_sum_now, no_lump_sum_now, contract_refusal, refused_pay_off, remaining_of, priced_pay_off, contract_pay_off}
use Rattle.pay_off.proofs.Costs.{cost_upper}

-- what nothing refuses
pub record ContractPasses (t : Terms) (status age_now increase : ℕ) : Type 0 where
  pub status_fit : nothing_to_pay_off status ≡ false
  pub increase_low : least_increase ≤ increase
  pub increase_high : increase ≤ most_increase
  pub printed : no_lump_sum_now t age_now ≡ false

-- the two lump sums of a contract
module _ (t : Terms) (age_now : ℕ) where
  abbrev pub lower : ℕ
  lower = lump_sum_now t age_now t.pnpa_years

  abbrev pub upper : ℕ
  upper = lump_sum_now t age_now (t.pnpa_years + 1)

-- an election by lump sum at the age now
abbrev pub at_age : Terms → ℕ → Terms
at_age t age_now =
    record {
      age = age_now;
      pnpa_years = t.pnpa_years;
      pnpa_months = t.pnpa_months;
      option = t.option;
      payer = t.payer;
      term = 0;
      amount = t.amount;
    }

module _ (t : Terms) (status age_now increase : ℕ) where
  pub contract_passes : contract_refusal t status age_now increase ≡ 0 → ContractPasses t status age_now increase
  unfolding contract_refusal wrong_increase
  contract_passes none =
      let status_fit = not_first (λ (n : ℕ). n ≡ 0) (nothing_to_pay_off status) 16 _ (λ z. omega arith) none in
      let increase_fit = not_first (λ (n : ℕ). n ≡ 0) (wrong_increase increase) 17 _ (λ z. omega arith) status_fit.1 in
      let range = or_false (ltb increase least_increase) (ltb most_increase increase) increase_fit.0 in
      record {
        status_fit = status_fit.0;
        increase_low = ltb-false _ _ range.0;
        increase_high = ltb-false _ _ range.1;
        printed = (not_first (λ (n : ℕ). n ≡ 0) (no_lump_sum_now t age_now) 5 0 (λ z. omega arith) increase_fit.1).0;
      }

  -- what refuses, rule by rule
  pub refuses_status : nothing_to_pay_off status ≡ true → 16 ≡ contract_refusal t status age_now increase
  unfolding contract_refusal
  refuses_status e = rw e

  module _ (fit : nothing_to_pay_off status ≡ false) where
    pub refuses_increase : wrong_increase increase ≡ true → 17 ≡ contract_refusal t status age_now increase
    unfolding contract_refusal
    refuses_increase e = rw (fit, e)

    pub refuses_sums : wrong_increase increase ≡ false → pick (no_lump_sum_now t age_now) 5 0 ≡ contract_refusal t status age_now increase
    unfolding contract_refusal
    refuses_sums e = rw (fit, e)

  module _ (credit : ℕ) where
    -- the two outcomes
    pub contract_refused : (contract_refusal t status age_now increase ≡ 0 → ⊥)
        → contract_pay_off t status credit age_now increase ≡ refused_pay_off (contract_refusal t status age_now increase) 0
    unfolding contract_pay_off
    contract_refused some = rw (ne_eqb _ _ some)

    pub contract_priced : contract_refusal t status age_now increase ≡ 0
        → contract_pay_off t status credit age_now increase ≡ priced_pay_off t credit (lower t age_now) (upper t age_now) increase
    unfolding contract_pay_off
    contract_priced none = rw (eq-eqb _ _ none)

    pub contract_number : (contract_pay_off t status credit age_now increase).refusal ≡ contract_refusal t status age_now increase
    unfolding contract_pay_off
    contract_number =
        chosen_number (λ (n : PayOffNumbers). n.refusal) (contract_refusal t status age_now increase)
        (priced_pay_off t credit (lower t age_now) (upper t age_now) increase) (refused_pay_off (contract_refusal t status age_now increase) 0) refl refl

-- the cost at the lump sums that were looked up
pub price_is : (t : Terms) (credit age_now increase : ℕ) {sums : TableRates} → SumsLookedUp t age_now sums
    → priced_pay_off t credit sums.lower (upper_sum_or_none sums) increase ≡ priced_pay_off t credit (lower t age_now) (upper t age_now) increase
price_is t credit age_now increase {sums} found =
    rw (
      found.low,
      cost_upper (increased_by increase (remaining_of t credit)) (lower t age_now) (upper_sum_or_none sums) (upper t age_now) t.pnpa_months found.high,
    )

-- an election by lump sum at the age now is refused for its rates just where the contract lacks a lump sum
pub lump_refusal : (t : Terms) (age_now : ℕ) → rate_refusal (at_age t age_now) ≡ pick (no_lump_sum_now t age_now) 5 0
unfolding rate_refusal no_rate no_upper_rate no_lump_sum_now table_rate rate_for
lump_refusal t age_now = refl

-- and its rates are the lump sums
pub sums_are : (t : Terms) (age_now : ℕ) {sums : TableRates} → sums ≡ rates_of (at_age t age_now) → SumsLookedUp t age_now sums
sums_are t age_now e =
    record {
      low = ap (λ (r : TableRates). r.lower) e ∙ lump_rate (at_age t age_now) t.pnpa_years refl;
      high = λ odd.
          ap (λ (r : TableRates). upper_sum_or_none r) e ∙ ap sum_or_none (upper_rate_odd (at_age t age_now) odd)
          ∙ lump_rate (at_age t age_now) (t.pnpa_years + 1) refl;
    }
