-- How large the numbers of a pay-off can be.
-- Assumes nothing.
use mathlib.Core.List.{List}
use mathlib.Core.Path.{◌≡◌}
use Prim.Native.Nat.{ℕ, ◌≤◌}
use native.Mathlib.Decide.{ℕ_discrete}
use native.Mathlib.Omega.{arith}
use Rattle.common.proofs.Choice.{either}
use Rattle.rates.proofs.Laws.{lump_most}
use Rattle.terms.specs.declared.Terms.{Terms}
use Rattle.settlement.specs.Settle.{SettleNumbers, settle_of}
use Rattle.settlement.proofs.Bounds.{settle_bounds}
use Rattle.pay_off.specs.PayOff.{nothing_to_pay_off, wrong_increase, no_lump_sum_now, contract_refusal, remaining_of, pay_off_of}
use Rattle.pay_off.specs.Bounds.{PayOffBounds}
use Rattle.pay_off.proofs.Costs.{increased_most, greatest_cost}
use Rattle.pay_off.proofs.Contract.{contract_passes, contract_refused, contract_priced}
use Rattle.pay_off.proofs.Laws.{settle_refuses, contract_decides}
use Rattle.pay_off.proofs.Clauses.{unrefused_terms}

contract_refusal_most : (t : Terms) (status age_now increase : ℕ) → contract_refusal t status age_now increase ≤ 17
unfolding contract_refusal
contract_refusal_most t status age_now increase =
    either (λ (n : ℕ). n ≤ 17) (nothing_to_pay_off status) (omega arith)
    (either (λ (n : ℕ). n ≤ 17) (wrong_increase increase) (omega arith)
    (either (λ (n : ℕ). n ≤ 17) (no_lump_sum_now t age_now) {x = 5} {y = 0} (omega arith) (omega arith)))

module _ (t : Terms) (ms : List ℕ) (age_now increase : ℕ) where
  abbrev settled : SettleNumbers
  settled = settle_of t ms

  pub pay_off_bounds : PayOffBounds (pay_off_of t ms age_now increase)
  pay_off_bounds = by_settle (ℕ_discrete settled.refusal 0)
    where
      by_contract : settled.refusal ≡ 0 → Dec (contract_refusal t settled.status age_now increase ≡ 0)
          → PayOffBounds (pay_off_of t ms age_now increase)
      by_contract z (yes none) =
          let a = unrefused_terms t ms z in
          let pass = contract_passes t settled.status age_now increase none in
          let more = increased_most increase (remaining_of t settled.credit) pass.increase_high (omega (arith, a.under_cap)) in
          rw (contract_decides t ms age_now increase z, contract_priced t settled.status age_now increase settled.credit none)
          record {
            refusal_most = omega arith;
            place_most = omega arith;
            remaining_most = omega (arith, a.under_cap);
            increased_most = more;
            cost_most = greatest_cost _ _ _ t.pnpa_months (omega (arith, a.pension_age.months_high)) more (lump_most t.option t.pnpa_years age_now) (lump_most t.option _ age_now);
          }
      by_contract z (no some) =
          rw (contract_decides t ms age_now increase z, contract_refused t settled.status age_now increase settled.credit some)
          record {
            refusal_most = contract_refusal_most t settled.status age_now increase;
            place_most = omega arith;
            remaining_most = omega arith;
            increased_most = omega arith;
            cost_most = omega arith;
          }

      by_settle : Dec (settled.refusal ≡ 0) → PayOffBounds (pay_off_of t ms age_now increase)
      by_settle (yes z) = by_contract z (ℕ_discrete (contract_refusal t settled.status age_now increase) 0)
      by_settle (no some) =
          rw (settle_refuses t ms age_now increase some)
          record {
            refusal_most = omega (arith, (settle_bounds t ms).refusal_most);
            place_most = (settle_bounds t ms).place_most;
            remaining_most = omega arith;
            increased_most = omega arith;
            cost_most = omega arith;
          }
