-- The outcomes of a pay-off, for callers that do not open it.
-- Assumes nothing.
use mathlib.Core.List.{List}
use mathlib.Core.Path.{◌≡◌, sym, ap, ◌∙◌}
use Prim.Native.Nat.{ℕ, ◌+◌}
use native.Mathlib.Decide.{ℕ_discrete}
use borrow.Author.Tests.{eq-eqb, ne_eqb}
use Rattle.terms.specs.declared.Terms.{Terms}
use Rattle.settlement.specs.Settle.{SettleNumbers, settle_of}
use Rattle.pay_off.specs.PayOff.{PayOffNumbers, lump_sum_now, contract_refusal, refused_pay_off, priced_pay_off, contract_pay_off, pay_off_of}
use Rattle.pay_off.proofs.Contract.{contract_priced, contract_number}

-- what is priced: Settle accepts it, nothing refuses the contract, and these are its numbers
pub record PricedIs (t : Terms) (ms : List ℕ) (age_now increase : ℕ) : Type 0 where
  pub unrefused : (settle_of t ms).refusal ≡ 0
  pub none : contract_refusal t (settle_of t ms).status age_now increase ≡ 0
  pub numbers : pay_off_of t ms age_now increase ≡ priced_pay_off t (settle_of t ms).credit (lump_sum_now t age_now t.pnpa_years) (lump_sum_now t age_now (t.pnpa_years + 1)) increase

module _ (t : Terms) (ms : List ℕ) (age_now increase : ℕ) where
  abbrev settled : SettleNumbers
  settled = settle_of t ms

  -- Settle refuses first
  pub settle_refuses : (settled.refusal ≡ 0 → ⊥) → pay_off_of t ms age_now increase ≡ refused_pay_off settled.refusal settled.place
  unfolding pay_off_of
  settle_refuses some = rw (ne_eqb _ _ some)

  -- then the contract decides
  pub contract_decides : settled.refusal ≡ 0
      → pay_off_of t ms age_now increase ≡ contract_pay_off t settled.status settled.credit age_now increase
  unfolding pay_off_of
  contract_decides z = rw (eq-eqb _ _ z)

  pub decided_number : settled.refusal ≡ 0 → (pay_off_of t ms age_now increase).refusal ≡ contract_refusal t settled.status age_now increase
  decided_number z =
      ap (λ (n : PayOffNumbers). n.refusal) (contract_decides z)
      ∙ contract_number t settled.status age_now increase settled.credit

  settle_passed : (pay_off_of t ms age_now increase).refusal ≡ 0 → settled.refusal ≡ 0
  settle_passed z = go (ℕ_discrete settled.refusal 0)
    where
      go : Dec (settled.refusal ≡ 0) → settled.refusal ≡ 0
      go (yes none) = none
      go (no some) = sym (ap (λ (n : PayOffNumbers). n.refusal) (settle_refuses some)) ∙ z

  pub priced_is : (pay_off_of t ms age_now increase).refusal ≡ 0 → PricedIs t ms age_now increase
  priced_is z =
      let passed = settle_passed z in
      let none = sym (decided_number passed) ∙ z in
      record {
        unrefused = passed;
        none = none;
        numbers = contract_decides passed ∙ contract_priced t settled.status age_now increase settled.credit none;
      }
