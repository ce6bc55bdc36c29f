-- A complete contract has the amount as its credit.
-- Assumes nothing.
use mathlib.Core.List.{List}
use mathlib.Core.Path.{◌≡◌, sym, ap, ◌∙◌}
use Prim.Native.Nat.{ℕ}
use Rattle.scheme.specs.Scheme.{pounds_in_pence, open_months}
use Rattle.terms.specs.declared.Terms.{Terms}
use Rattle.marks.proofs.Complete.{complete_marks}
use Rattle.examination.proofs.Laws.{terms_unrefused}
use Rattle.settlement.specs.Settle.{SettleNumbers, settle_of}
use Rattle.settlement.proofs.Laws.{settle_settled, settle_refusal_lem}
use Rattle.settlement.proofs.Demand.{settle_full}

pub complete_credit : (t : Terms) (ms : List ℕ) → (settle_of t ms).refusal ≡ 0 → (settle_of t ms).status ≡ 3 → (settle_of t ms).credit ≡ pounds_in_pence t.amount
complete_credit t ms z complete =
    let none = sym (settle_refusal_lem t ms) ∙ z in
    let status = sym (ap (λ (n : SettleNumbers). n.status) (settle_settled t ms none)) ∙ complete in
    let full = complete_marks open_months t.term ms status in
    ap (λ (l : List ℕ). (settle_of t l).credit) full.1
    ∙ ap (λ (n : SettleNumbers). n.credit) (settle_full t (terms_unrefused t ms none) full.0)
