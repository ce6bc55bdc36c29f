-- The two outcomes of a settlement, for callers that do not open it.
-- Assumes nothing.
use mathlib.Core.List.{List}
use mathlib.Core.Path.{◌≡◌, refl}
use Prim.Native.Nat.{ℕ}
use native.Mathlib.Decide.{ℕ_discrete}
use borrow.Author.Tests.{eq-eqb, ne_eqb}
use Rattle.common.proofs.Choice.{chosen_number}
use Rattle.terms.specs.declared.Terms.{Terms}
use Rattle.examination.specs.Refusal.{settle_refusal}
use Rattle.examination.proofs.Laws.{unrefused_place}
use Rattle.settlement.specs.Settle.{SettleNumbers, refused_settlement, settled_numbers, settle_of}

module _ (t : Terms) (ms : List ℕ) where
  pub settle_refused : ((settle_refusal t ms).refusal ≡ 0 → ⊥)
      → settle_of t ms ≡ refused_settlement (settle_refusal t ms).refusal (settle_refusal t ms).place
  unfolding settle_of
  settle_refused h = rw (ne_eqb _ _ h)

  pub settle_settled : (settle_refusal t ms).refusal ≡ 0 → settle_of t ms ≡ settled_numbers t ms
  unfolding settle_of
  settle_settled h = rw (eq-eqb _ _ h)

  pub settle_refusal_lem : (settle_of t ms).refusal ≡ (settle_refusal t ms).refusal
  unfolding settle_of
  settle_refusal_lem =
      chosen_number (λ (n : SettleNumbers). n.refusal) (settle_refusal t ms).refusal (settled_numbers t ms)
      (refused_settlement (settle_refusal t ms).refusal (settle_refusal t ms).place) refl refl

  pub settle_place : (settle_of t ms).place ≡ (settle_refusal t ms).place
  settle_place = go (ℕ_discrete (settle_refusal t ms).refusal 0)
    where
      go : Dec ((settle_refusal t ms).refusal ≡ 0) → (settle_of t ms).place ≡ (settle_refusal t ms).place
      go (yes z) = rw (settle_settled z, unrefused_place t ms z)
      go (no h) = rw (settle_refused h)
