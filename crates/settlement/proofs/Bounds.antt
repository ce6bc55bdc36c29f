-- How large the numbers of a settlement can be.
-- Assumes nothing.
use mathlib.Core.Bool.{Bool, true, false}
use mathlib.Core.List.{List}
use mathlib.Core.Logic.{⊎_elim}
use mathlib.Core.Path.{◌≡◌, refl, sym, ◌∙◌}
use Prim.Native.Nat.{ℕ, ◌*◌, ◌-◌, ◌≤◌, ◌<◌}
use native.Mathlib.Decide.{ℕ_discrete, dec_le}
use native.Mathlib.Nat.{mul-le-mul}
use native.Mathlib.Omega.{arith}
use borrow.Author.Tests.{eqb-true, eqb-false}
use lib.Dec.{eqb}
use lib.ListN.{length}
use Rattle.common.specs.Choice.{pick}
use Rattle.scheme.specs.Scheme.{pounds_in_pence, most_marks, open_months, ceased_from}
use Rattle.scheme.specs.Bounds.{most_monthly_contribution, most_refund, last_settle_refusal}
use Rattle.terms.specs.declared.Terms.{Terms}
use Rattle.terms.specs.Rules.{refusal_of}
use Rattle.election.specs.ContributionOf.{contribution_of}
use Rattle.terms.proofs.Laws.{refusal_most}
use Rattle.election.proofs.Laws.{terms_accepted, contribution_most, monthly_most, contribution_least}
use Rattle.marks.specs.Kind.{mark_limit}
use Rattle.marks.specs.Counts.{paid_months, payments_of}
use Rattle.refusals.specs.Places.{RefusedAt}
use Rattle.marks.specs.Refusal.{marks_refusal}
use Rattle.marks.specs.Status.{status_of}
use Rattle.common.proofs.Tests.{by_test}
use Rattle.marks.proofs.KindOf.{limit_most}
use Rattle.marks.proofs.Counts.{lump_sum_payments, monthly_payments}
use Rattle.marks.proofs.StatusOf.{not_lump, status_most, refunded_early}
use Rattle.marks.proofs.Term.{too_many_marks, few_refused, marks_unrefused, marks_lawful, marks_counts, marks_within}
use Rattle.examination.specs.Refusal.{settle_refusal}
use Rattle.examination.proofs.Laws.{refused_by_terms, refused_by_marks, settled_terms, settled_marks}
use Rattle.settlement.specs.Credit.{credit_of}
use Rattle.settlement.specs.Settle.{credit_at_status, refund_at_status, settle_of}
use Rattle.settlement.specs.Bounds.{SettleBounds}
use Rattle.settlement.proofs.Laws.{settle_refused, settle_settled, settle_refusal_lem}
use Rattle.settlement.proofs.Demand.{worked_most}

module _ (t : Terms) (ms : List ℕ) where
  -- a refusal within its bounds
  abbrev Bounded : RefusedAt → Type 0
  Bounded r = (r.refusal ≤ last_settle_refusal) × (r.place ≤ most_marks - 1)

  -- of the marks under accepted terms
  by_marks : refusal_of t 0 ≡ 0 → Bounded (marks_refusal open_months t.term ms)
  by_marks pass = go (dec_le (length ms) (mark_limit t.term)) (ℕ_discrete (marks_refusal open_months t.term ms).refusal 0)
    where
      high : mark_limit t.term ≤ most_marks
      high = limit_most t.term (terms_accepted t 0 pass).term_high

      go : Dec (length ms ≤ mark_limit t.term) → Dec ((marks_refusal open_months t.term ms).refusal ≡ 0)
          → Bounded (marks_refusal open_months t.term ms)
      go few (yes z) = rw (marks_unrefused open_months t.term ms (marks_lawful open_months t.term ms z)) (omega arith)
      go (no many) (no h) = rw (too_many_marks open_months t.term ms (omega arith)) (omega arith)
      go (yes few) (no h) =
          let bad = few_refused open_months t.term ms few h in
          (⊎_elim (λ w. omega (arith, w.0)) (λ w. omega (arith, w.0)) bad.number, omega (arith, bad.inside, few, high))

  refusal_bounds : Bounded (settle_refusal t ms)
  refusal_bounds = go (ℕ_discrete (refusal_of t 0) 0)
    where
      go : Dec (refusal_of t 0 ≡ 0) → Bounded (settle_refusal t ms)
      go (yes pass) = rw (refused_by_marks t ms pass) (by_marks pass)
      go (no h) = rw (refused_by_terms t ms h) (omega (arith, refusal_most t 0))

  -- no credit passes the amount
  pub credit_amount : (settle_refusal t ms).refusal ≡ 0 → credit_at_status t ms (status_of open_months t.term ms) ≤ pounds_in_pence t.amount
  unfolding credit_at_status
  credit_amount none = go (eqb (status_of open_months t.term ms) 5) (eqb (status_of open_months t.term ms) 6) refl refl
    where
      go : (a b : Bool) → eqb (status_of open_months t.term ms) 5 ≡ a → eqb (status_of open_months t.term ms) 6 ≡ b
          → pick a 0 (pick b (pounds_in_pence t.amount) (credit_of t ms)) ≤ pounds_in_pence t.amount
      go true b d e = omega arith
      go false true d e = omega arith
      go false false d e = worked_most t ms none (not_lump open_months t.term ms (eqb-false _ _ d) (eqb-false _ _ e))

  -- whatever the terms and marks: what is refused has no credit
  pub settle_credit_most : (settle_of t ms).credit ≤ pounds_in_pence t.amount
  settle_credit_most = go (ℕ_discrete (settle_refusal t ms).refusal 0)
    where
      go : Dec ((settle_refusal t ms).refusal ≡ 0) → (settle_of t ms).credit ≤ pounds_in_pence t.amount
      go (yes none) = rw (settle_settled t ms none) (credit_amount none)
      go (no some) = rw (settle_refused t ms some) (omega arith)

  -- what is settled has a contribution of a penny or more, so its numbers are never those of a refusal
  pub settle_contribution_least : (settle_of t ms).refusal ≡ 0 → 1 ≤ (settle_of t ms).contribution
  settle_contribution_least z =
      let none = sym (settle_refusal_lem t ms) ∙ z in
      rw (settle_settled t ms none) (contribution_least t 0 (settled_terms t ms none))

  -- eleven monthly contributions at most, or a lump sum
  refund_bound : (settle_refusal t ms).refusal ≡ 0 → refund_at_status t ms (status_of open_months t.term ms) ≤ most_refund
  unfolding refund_at_status
  refund_bound none = go (eqb (status_of open_months t.term ms) 5) refl
    where
      few_paid : 0 < t.term → status_of open_months t.term ms ≡ 5 → paid_months ms ≤ ceased_from - 1
      few_paid monthly s =
          omega (
            arith,
            refunded_early open_months t.term ms monthly s,
            (rw (marks_counts open_months t.term ms (settled_marks t ms none)) at (marks_within open_months t.term ms)).paid_most,
          )

      paid_back : status_of open_months t.term ms ≡ 5 → contribution_of t * payments_of t.term ms ≤ most_refund
      paid_back s =
          by_test (eqb t.term 0)
          (λ d. rw (lump_sum_payments t.term ms (eqb-true _ _ d)) (omega (arith, contribution_most t 0 (settled_terms t ms none))))
          (λ d.
          let monthly : 0 < t.term = omega (arith, eqb-false _ _ d) in
          rw (monthly_payments t.term ms monthly)
          (omega (
            arith,
            mul-le-mul {n₁ = contribution_of t} {m₁ = paid_months ms} {n₂ = most_monthly_contribution} {m₂ = ceased_from - 1}
                (monthly_most t 0 (settled_terms t ms none) monthly)
                (few_paid monthly s),
          )))

      go : (b : Bool) → eqb (status_of open_months t.term ms) 5 ≡ b → pick b (contribution_of t * payments_of t.term ms) 0 ≤ most_refund
      go false e = omega arith
      go true e = paid_back (eqb-true _ _ e)

  pub settle_bounds : SettleBounds (settle_of t ms)
  settle_bounds = go (ℕ_discrete (settle_refusal t ms).refusal 0)
    where
      go : Dec ((settle_refusal t ms).refusal ≡ 0) → SettleBounds (settle_of t ms)
      go (no h) =
          rw (settle_refused t ms h)
          record {
            refusal_most = refusal_bounds.0;
            place_most = refusal_bounds.1;
            contribution_most = omega arith;
            status_most = omega arith;
            credit_most = omega arith;
            refund_most = omega arith;
          }
      go (yes none) =
          rw (settle_settled t ms none)
          record {
            refusal_most = omega arith;
            place_most = omega arith;
            contribution_most = contribution_most t 0 (settled_terms t ms none);
            status_most = status_most open_months t.term ms;
            credit_most = omega (arith, credit_amount none, (settled_terms t ms none).under_cap);
            refund_most = refund_bound none;
          }
