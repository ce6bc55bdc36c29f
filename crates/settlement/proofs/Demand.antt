-- Demand 3 of every settlement; that the runs never earn more than the amount, and that a term paid in full is complete and earns just the amount.
-- Assumes nothing.
use mathlib.Core.Bool.{Bool, true, false}
use mathlib.Core.List.{List, [], ◌∷◌, ◌++◌}
use mathlib.Core.Logic.{⊎_elim}
use mathlib.Core.Path.{◌≡◌, refl, sym, ap, ◌∙◌}
use Prim.Native.Nat.{ℕ, ◌*◌, ◌≤◌, ◌<◌}
use native.Mathlib.Omega.{arith}
use borrow.Author.Tests.{ne_eqb}
use lib.Dec.{eqb}
use lib.ListN.{replicate, length-replicate}
use Rattle.common.specs.Choice.{pick}
use Rattle.common.specs.Calendar.{months_in_year}
use Rattle.scheme.specs.Scheme.{pounds_in_pence, open_months}
use Rattle.rounding.specs.Nearest.{nearest, combine}
use Rattle.rounding.proofs.InForce.{nearest_within_half, nearest_monotone}
use Rattle.terms.specs.declared.Terms.{Terms}
use Rattle.terms.specs.Rules.{refusal_of}
use Rattle.election.specs.ContributionOf.{contribution_of}
use Rattle.election.proofs.Laws.{terms_accepted}
use Rattle.refusals.specs.Places.{RefusedAt}
use Rattle.marks.specs.declared.kinds.Kind.{Kind}
use Rattle.marks.specs.Kind.{kind_of}
use Rattle.marks.specs.Lawful.{Lawful, LawfulFor}
use Rattle.marks.proofs.Runs.{all_paid_lawful}
use Rattle.marks.proofs.KindOf.{monthly_limit}
use Rattle.marks.proofs.Term.{few_months, marks_unrefused}
use Rattle.marks.specs.Status.{status_of}
use Rattle.marks.proofs.StatusOf.{monthly_status, full_status}
use Rattle.credit.specs.Runs.{paid_flags, starts_after, run_count}
use Rattle.distance.proofs.Distance.{distance}
use Rattle.distance.proofs.Amount.{contract_most, full_term}
use Rattle.examination.specs.Refusal.{settle_refusal}
use Rattle.examination.proofs.Laws.{refused_by_marks, settled_terms, settled_marks}
use Rattle.settlement.specs.Credit.{purchases_of, credit_of, exact_credit_of}
use Rattle.settlement.specs.Settle.{credit_at_status, refund_at_status, settle_of}
use Rattle.settlement.specs.Demand.{Demand3}
use Rattle.settlement.proofs.Laws.{settle_settled, settle_refusal_lem}
use Rattle.settlement.proofs.Purchases.{sound}

-- marks that are all 2 hold no run
none_after : (ms : List ℕ) → ((ys zs : List ℕ) (m : ℕ) → ms ≡ ys ++ (m ∷ zs) → m ≡ 2) → starts_after false (paid_flags ms) ≡ 0
unfolding starts_after
none_after [] h = refl
none_after (m ∷ ms) h =
    rw (h [] ms m refl)
    (none_after ms (λ ys zs n e. h (m ∷ ys) zs n (ap (λ (l : List ℕ). m ∷ l) e)))

-- lawful marks with a paid one begin with a paid one
first_paid : {kind : Kind} (ms : List ℕ) → Lawful kind open_months ms → 1 ≤ run_count ms → (rest : List Bool) × (paid_flags ms ≡ true ∷ rest)
unfolding run_count starts_after
first_paid [] law k = absurd (omega arith)
first_paid (m ∷ ms) law k =
    ⊎_elim (λ one. (paid_flags ms, rw one refl))
    (λ two. absurd (omega (arith, ended two, k)))
    (law.begins m ms refl)
  where
    ended : m ≡ 2 → starts_after false (paid_flags (m ∷ ms)) ≡ 0
    ended two = rw two (none_after ms (λ ys zs n e. law.ends [] ys zs n (rw two (ap (λ (l : List ℕ). 2 ∷ l) e))))

-- a monthly contract's credit by its status: nothing when refunded, else what the runs earned
pub credit_by_status : (t : Terms) (ms : List ℕ) → 0 < t.term
    → credit_at_status t ms (status_of open_months t.term ms) ≡ pick (eqb (status_of open_months t.term ms) 5) 0 (credit_of t ms)
unfolding credit_at_status
credit_by_status t ms monthly = rw (ne_eqb (status_of open_months t.term ms) 6 (λ z. omega (arith, monthly_status open_months t.term ms monthly)))

-- at a status other than 5 it is what the runs earned
pub credit_worked : (t : Terms) (ms : List ℕ) → 0 < t.term → (status_of open_months t.term ms ≡ 5 → ⊥)
    → credit_at_status t ms (status_of open_months t.term ms) ≡ credit_of t ms
credit_worked t ms monthly other = credit_by_status t ms monthly ∙ rw (ne_eqb (status_of open_months t.term ms) 5 other)

pub demand_3 : (t : Terms) (ms : List ℕ) → Demand3 t ms (settle_of t ms)
unfolding credit_of combine exact_credit_of
demand_3 t ms z years k other =
    let none = sym (settle_refusal_lem t ms) ∙ z in
    let law = settled_marks t ms none in
    let first = first_paid ms law.lawful k in
    rw (settle_settled t ms none)
    (rw (credit_worked t ms (omega arith) other)
    (distance nearest nearest_within_half nearest_monotone (purchases_of t) (sound t (settled_terms t ms none) (omega arith)) ms (few_months open_months t.term ms (omega arith) law)
    first.0 first.1))

-- a monthly contract's runs never earn more than the amount
pub worked_most : (t : Terms) (ms : List ℕ) → (settle_refusal t ms).refusal ≡ 0 → 0 < t.term → credit_of t ms ≤ pounds_in_pence t.amount
unfolding credit_of combine
worked_most t ms none monthly =
    let a = settled_terms t ms none in
    omega (
      arith,
      contract_most nearest nearest_within_half nearest_monotone (purchases_of t) (sound t a monthly) ms
          (few_months open_months t.term ms monthly (settled_marks t ms none)),
      a.whole,
    )

-- twelve paid months in each year of the term earn the amount exactly
full_credit : (t : Terms) → refusal_of t 0 ≡ 0 → 0 < t.term → credit_of t (replicate (months_in_year * t.term) 1) ≡ pounds_in_pence t.amount
unfolding credit_of combine
full_credit t pass monthly =
    let a = terms_accepted t 0 pass in
    omega (
      arith,
      full_term nearest nearest_within_half (purchases_of t) (sound t a monthly) monthly,
      a.whole,
    )

-- so a term that is paid in full is complete and has the amount as its credit
pub settle_full : (t : Terms) → refusal_of t 0 ≡ 0 → 0 < t.term
    → settle_of t (replicate (months_in_year * t.term) 1)
    ≡ record { refusal = 0; place = 0; contribution = contribution_of t; status = 3; credit = pounds_in_pence t.amount; refund = 0 }
unfolding credit_at_status refund_at_status
settle_full t pass monthly =
    let paid : List ℕ = replicate (months_in_year * t.term) 1 in
    let law : LawfulFor open_months t.term paid =
    record {
      few = omega (arith, length-replicate {A = ℕ} (months_in_year * t.term) 1, monthly_limit t.term monthly);
      lawful = all_paid_lawful (kind_of t.term) open_months (months_in_year * t.term);
    } in
    let none : (settle_refusal t paid).refusal ≡ 0 =
    ap (λ (r : RefusedAt). r.refusal) (refused_by_marks t paid pass ∙ marks_unrefused open_months t.term paid law) in
    settle_settled t paid none ∙ rw (full_status open_months t.term monthly, full_credit t pass monthly)
