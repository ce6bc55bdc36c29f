-- A lump sum is settled as its rules say: all of the amount while there is no 2 among its marks, else all of it goes back.
-- Assumes nothing.
use mathlib.Core.Bool.{true, false}
use mathlib.Core.List.{List}
use mathlib.Core.Logic.{inl, inr}
use mathlib.Core.Path.{◌≡◌, refl, sym, subst, ◌∙◌}
use Prim.Native.Nat.{ℕ, ◌*◌, ◌≤◌, ◌<◌}
use native.Mathlib.Omega.{arith}
use Rattle.common.proofs.Tests.{by_test, never}
use Rattle.scheme.specs.Scheme.{pounds_in_pence, open_months}
use Rattle.terms.specs.declared.Terms.{Terms}
use Rattle.election.specs.ContributionOf.{contribution_of}
use Rattle.election.proofs.Laws.{contribution_least}
use Rattle.marks.specs.Counts.{has_ended, payments_of}
use Rattle.marks.proofs.Counts.{ended_stands, stands_ended, lump_sum_payments}
use Rattle.marks.proofs.StatusOf.{ended_status, running_status}
use Rattle.examination.proofs.Laws.{settled_terms}
use Rattle.settlement.specs.Settle.{SettleNumbers, credit_at_status, refund_at_status, settled_numbers, settle_of}
use Rattle.settlement.specs.LumpSum.{LumpSumSettled, LumpSumAnswered}
use Rattle.settlement.proofs.Laws.{settle_settled, settle_refusal_lem}

-- the numbers of a lump sum for which nothing came back, and of one that went back
abbrev numbers_in_full : Terms → SettleNumbers
numbers_in_full t =
    record { refusal = 0; place = 0; contribution = contribution_of t; status = 6; credit = pounds_in_pence t.amount; refund = 0 }

abbrev numbers_given_back : Terms → SettleNumbers
numbers_given_back t =
    record { refusal = 0; place = 0; contribution = contribution_of t; status = 5; credit = 0; refund = contribution_of t }

module _ (t : Terms) (ms : List ℕ) (z : t.term ≡ 0) where
  one_payment : contribution_of t * payments_of t.term ms ≡ contribution_of t
  one_payment = rw (lump_sum_payments t.term ms z) (omega arith)

  pub ended_numbers : has_ended ms ≡ true → settled_numbers t ms ≡ numbers_given_back t
  unfolding credit_at_status refund_at_status
  ended_numbers e = rw (ended_status open_months t.term ms z e, one_payment)

  pub running_numbers : has_ended ms ≡ false → settled_numbers t ms ≡ numbers_in_full t
  unfolding credit_at_status refund_at_status
  running_numbers e = rw (running_status open_months t.term ms z e)

module _ (t : Terms) (ms : List ℕ) where
  went_back : has_ended ms ≡ true → LumpSumSettled t ms (numbers_given_back t)
  went_back e =
      record {
        stays = λ nowhere. let g = ended_stands ms e in absurd (nowhere g.0 g.1.0 g.1.1);
        left = λ xs ys p. (refl, (refl, refl));
        all_or_nothing = inr refl;
        refunded = λ q. (refl, refl);
        credited = λ q. refl;
      }

  stayed : has_ended ms ≡ false → 0 < t.amount → 1 ≤ contribution_of t → LumpSumSettled t ms (numbers_in_full t)
  stayed e some paid =
      record {
        stays = λ nowhere. (refl, (refl, refl));
        left = λ xs ys p. never (sym e ∙ rw p (stands_ended xs ys));
        all_or_nothing = inl refl;
        refunded = λ q. absurd (omega arith);
        credited = λ q. absurd (omega arith);
      }

  pub lump_sum_answered : LumpSumAnswered t ms (settle_of t ms)
  lump_sum_answered unrefused z =
      let none = sym (settle_refusal_lem t ms) ∙ unrefused in
      let a = settled_terms t ms none in
      by_test (has_ended ms)
      (λ e. subst (LumpSumSettled t ms) (sym (settle_settled t ms none ∙ ended_numbers t ms z e)) (went_back e))
      (λ e.
      subst (LumpSumSettled t ms) (sym (settle_settled t ms none ∙ running_numbers t ms z e))
      (stayed e (omega (arith, a.amount_low)) (contribution_least t 0 a)))

  -- and so are equal numbers
  pub same_lump_sum_answered : (n : SettleNumbers) → n ≡ settle_of t ms → LumpSumAnswered t ms n
  same_lump_sum_answered n is = subst (LumpSumAnswered t ms) (sym is) lump_sum_answered
