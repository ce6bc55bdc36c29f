-- What an examination of terms and marks tells of their settlement.
-- Assumes nothing.
use mathlib.Core.List.{List}
use mathlib.Core.Path.{◌≡◌, sym, ap, ◌∙◌}
use Prim.Native.Nat.{ℕ}
use Rattle.refusals.specs.declared.Refused.{Refused}
use Rattle.refusals.specs.Numbers.{refusal_number}
use Rattle.refusals.specs.Places.{RefusedAt, refusing}
use Rattle.terms.specs.declared.Terms.{Terms}
use Rattle.marks.specs.Numbers.{status_number}
use Rattle.examination.specs.declared.Examined.{Examined}
use Rattle.examination.specs.Refusal.{settle_refusal}
use Rattle.examination.specs.Examine.{ExaminationOf}
use Rattle.examination.proofs.Unrefused.{refusal_stands, unrefused}
use Rattle.settlement.specs.Settle.{SettleNumbers, credit_at_status, settle_of}
use Rattle.settlement.proofs.Laws.{settle_refused, settle_settled, settle_refusal_lem}

module _ (t : Terms) (ms : List ℕ) where
  -- the same refusal, and the same place
  module _ (e : Refused) (is : refusing (refusal_number e.refusal) e.place ≡ settle_refusal t ms) where
    pub same_refusal : refusal_number e.refusal ≡ (settle_of t ms).refusal
    same_refusal = ap (λ (r : RefusedAt). r.refusal) is ∙ sym (settle_refusal_lem t ms)

    pub same_place : e.place ≡ (settle_of t ms).place
    same_place =
        ap (λ (r : RefusedAt). r.place) is
        ∙ sym (ap (λ (n : SettleNumbers). n.place) (settle_refused t ms (refusal_stands t ms e is)))

  -- where nothing is refused, the same status, and the credit at it
  module _ (none : refusing 0 0 ≡ settle_refusal t ms) where
    pub settles : (settle_of t ms).refusal ≡ 0
    settles = settle_refusal_lem t ms ∙ unrefused t ms none

    module _ {e : Examined} (told : ExaminationOf t ms e) where
      pub same_status : status_number e.status ≡ (settle_of t ms).status
      same_status = told.status ∙ sym (ap (λ (n : SettleNumbers). n.status) (settle_settled t ms (unrefused t ms none)))

      pub same_credit : credit_at_status e.election.terms ms (status_number e.status) ≡ (settle_of t ms).credit
      same_credit =
          rw (told.terms, told.status) (sym (ap (λ (n : SettleNumbers). n.credit) (settle_settled t ms (unrefused t ms none))))
