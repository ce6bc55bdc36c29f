-- What is held after each mark of the walk is the credit that Settle gives for the marks so far.
-- Assumes nothing.
use mathlib.Core.List.{List, [], ◌∷◌}
use mathlib.Core.Path.{◌≡◌, refl, sym, ap, subst, ◌∙◌}
use Prim.Native.Nat.{ℕ, suc, ◌+◌, ◌≤◌, ◌<◌, ◌^◌}
use native.Mathlib.Numerals.{add-one}
use native.Mathlib.Omega.{arith}
use lib.Seq.{take-suc}
use borrow.Author.Tests.{eq-eqb, ne_eqb, eqb-true, eqb-false, ltb-true}
use lib.Dec.{eqb, ltb}
use lib.ListN.{length, length-take, take, get_or}
use Rattle.std.specs.Prelude.{Option, Some, None}
use Rattle.std.proofs.lemmas.Option.{none-some}
use Rattle.common.specs.Choice.{pick}
use Rattle.common.proofs.Choice.{either}
use Rattle.common.proofs.Tests.{by_test}
use Rattle.rounding.specs.Nearest.{nearest}
use Rattle.rounding.proofs.InForce.{nearest_within_half}
use Rattle.rounding.proofs.Laws.{combine_none}
use Rattle.scheme.specs.Scheme.{open_months, pounds_in_pence}
use Rattle.terms.specs.declared.Terms.{Terms}
use Rattle.election.specs.TermsAccepted.{TermsAccepted}
use Rattle.election.proofs.Laws.{upper_rate_is}
use Rattle.marks.specs.declared.kinds.Kind.{Kind}
use Rattle.marks.proofs.KindOf.{kind_at_once, kind_monthly}
use Rattle.marks.specs.Reading.{ReadSoFar, start_of, next_refusal_of, count_mark, count_up, step_by, read_on, marks_reading}
use Rattle.marks.specs.Status.{status_of}
use Rattle.marks.proofs.Term.{few_read, marks_take, marks_counts}
use Rattle.marks.proofs.StatusOf.{status_lawful}
use Rattle.years.specs.Years.{year_credits}
use Rattle.years.specs.Elected.{purchase_in}
use Rattle.years.proofs.Years.{years_most}
use Rattle.credit.specs.declared.CreditSoFar.{CreditSoFar}
use Rattle.credit.specs.Credit.{credit_in}
use Rattle.credit.specs.SoFar.{nothing_yet, credit_at, after_mark, after_marks}
use Rattle.credit.proofs.Runs.{one_mark_more, by_runs}
use Rattle.examination.specs.Refusal.{settle_refusal}
use Rattle.examination.proofs.Laws.{settled_marks, settled_few, refusal_take}
use Rattle.settlement.specs.Credit.{credit_of}
use Rattle.settlement.specs.Settle.{SettleNumbers}
use Rattle.settlement.proofs.Laws.{settle_settled}
use Rattle.settlement.proofs.Purchases.{upper_rate_asked, no_upper_rate_asked, sound, credit_fits, credit_combined}
use Rattle.settlement.proofs.Demand.{credit_by_status}
use Rattle.marks.specs.declared.kinds.Kind.TheVariants.{AtOnce}
use Rattle.marks.specs.Lawful.{Lawful}
use Rattle.marks.specs.Counts.{last_or, has_ended}
use Rattle.marks.proofs.Counts.{last_is}
use Rattle.marks.proofs.Lawful.{ended_by_last}
use Rattle.settlement.proofs.LumpSum.{ended_numbers, running_numbers}
use Rattle.common.proofs.Written.{Written, written_list}
use Rattle.schedule.specs.Schedule.{entry_of, filled_of}
use Rattle.schedule.specs.YearRows.{upper_years}
use Rattle.schedule.specs.Walk.{WalkSoFar, walk_begun, after_mark_in, after_marks_in, step_walk, walk_of, combined_in, held_of, Holdable}
use Rattle.schedule.specs.declared.YearRows.{YearRows}

some_same : (x y : List ℕ) → Some x ≡ Some y → x ≡ y
some_same x y e = cc

module _ (t : Terms) where
  -- at a whole pension age there is no upper table
  pub upper_whole : t.pnpa_months ≡ 0 → upper_years t ≡ None
  unfolding upper_years
  upper_whole whole = rw (eq-eqb t.pnpa_months 0 whole)

  pub upper_odd : (t.pnpa_months ≡ 0 → ⊥) → upper_years t ≡ Some (year_credits nearest (purchase_in t (t.pnpa_years + 1)))
  unfolding upper_years
  upper_odd odd = rw (ne_eqb t.pnpa_months 0 odd)

  -- no year of either passes the amount
  module _ (a : TermsAccepted t 0) (monthly : 0 < t.term) where
    lower_most : (n : ℕ) → get_or (year_credits nearest (purchase_in t t.pnpa_years)) n 0 ≤ pounds_in_pence t.amount
    lower_most n =
        omega (
          arith,
          a.whole,
          years_most nearest nearest_within_half (purchase_in t t.pnpa_years) (sound t a monthly).term_most (sound t a monthly).lower_falls n,
        )

    upper_most : (years : List ℕ) → upper_years t ≡ Some years → (n : ℕ) → get_or years n 0 ≤ pounds_in_pence t.amount
    upper_most years e n =
        by_test (eqb t.pnpa_months 0) (λ whole. absurd (none-some years (sym (upper_whole (eqb-true _ 0 whole)) ∙ e)))
        (λ t0.
        let odd = eqb-false t.pnpa_months 0 t0 in
        let falls = (sound t a monthly).upper_falls (omega arith) in
        rw (some_same years (year_credits nearest (purchase_in t (t.pnpa_years + 1))) (sym e ∙ upper_odd odd))
        (omega (
          arith,
          a.whole,
          years_most nearest nearest_within_half (purchase_in t (t.pnpa_years + 1)) (sound t a monthly).term_most falls n,
        )))

-- the upper table of an election: the rate that it goes by, and whether there is one
pub ruleset upper_table = (upper_rate_asked, no_upper_rate_asked, upper_rate_is, upper_whole, upper_odd)

-- a mark that is not refused is counted
counted : (r : ReadSoFar) (m : ℕ) → r.refusal ≡ 0 → (step_by count_up r m).refusal ≡ 0 → step_by count_up r m ≡ count_mark count_up r m
unfolding step_by next_refusal_of
counted r m none passes =
    by_test (ltb 0 (next_refusal_of r m))
    (λ h. absurd (let never : ⊥ = omega (arith, ltb-true 0 (next_refusal_of r m) h, rw (none, h) at passes) in never))
    (λ h. rw (none, h))

-- a month for each mark
months_in : (years : List ℕ) (e : CreditSoFar) (marks : List ℕ) → (after_marks nearest years e marks).month ≡ e.month + length marks
unfolding after_marks after_mark
months_in years e [] = omega arith
months_in years e (m ∷ ms) =
    let Next : CreditSoFar → Type 0 = λ s. s.month ≡ e.month + 1 in
    let one : Next (after_mark nearest years e m) = either Next (eqb m 1) refl refl in
    omega (arith, one, months_in years (after_mark nearest years e m) ms)

upper_begun : (o : Option (List ℕ)) → nothing_yet ≡ after_marks_in o []
unfolding after_marks
upper_begun None = refl
upper_begun (Some years) = refl

upper_more : (o : Option (List ℕ)) (marks : List ℕ) (i : ℕ) → i < length marks
    → after_mark_in o (after_marks_in o (take i marks)) (get_or marks i 0) ≡ after_marks_in o (take (i + 1) marks)
upper_more None marks i h = refl
upper_more (Some years) marks i h = sym (one_mark_more nearest years nothing_yet marks i h)

same_walk : {r s : ReadSoFar} {k l u v : CreditSoFar} → r ≡ s → k ≡ l → u ≡ v
    → ◌≡◌ {A = WalkSoFar} (record { reading = r; lower = k; upper = u }) (record { reading = s; lower = l; upper = v })
same_walk a b c = rw (a, b, c)

-- what both tables' runs have earned is the credit of the runs so far
runs_so_far : (t : Terms) (lower : List ℕ) (upper : Option (List ℕ)) (marks : List ℕ)
    → lower ≡ year_credits nearest (purchase_in t t.pnpa_years) → upper ≡ upper_years t
    → combined_in upper t.pnpa_months (credit_at nearest lower (after_marks nearest lower nothing_yet marks)) (after_marks_in upper marks)
    ≡ credit_of t marks
unfolding credit_in
runs_so_far t lower upper marks l u =
    by_test (eqb t.pnpa_months 0)
    (λ h.
    let whole = eqb-true t.pnpa_months 0 h in
    rw (u, upper_whole t whole, by_runs nearest lower marks, l)
    (sym (credit_combined t marks ∙ combine_none t.pnpa_months _ _ whole)))
    (λ h.
    let odd = eqb-false t.pnpa_months 0 h in
    rw (u, upper_odd t odd, by_runs nearest lower marks, by_runs nearest (year_credits nearest (purchase_in t (t.pnpa_years + 1))) marks, l)
    (sym (credit_combined t marks)))

module _ (s : YearRows) (marks : List ℕ) (none : (settle_refusal s.election.terms marks).refusal ≡ 0) where
  abbrev t : Terms
  t = s.election.terms

  few : (i : ℕ) → length (take i marks) < 2 ^ 31
  few i = omega (arith, length-take i marks, settled_few t marks none)

  -- the marks so far are lawful
  read_none : (i : ℕ) → (marks_reading open_months t.term (take i marks)).refusal ≡ 0
  read_none i = rw (marks_counts open_months t.term (take i marks) (settled_marks t (take i marks) (refusal_take t marks none i)))

  read_more : (i : ℕ) → i < length marks
      → count_mark count_up (marks_reading open_months t.term (take i marks)) (get_or marks i 0) ≡ marks_reading open_months t.term (take (i + 1) marks)
  read_more i h =
      let step = marks_take open_months t.term marks i (settled_marks t marks none).few h (omega (arith, settled_few t marks none)) in
      sym (counted (marks_reading open_months t.term (take i marks)) (get_or marks i 0) (read_none i) (rw step (read_none (i + 1)))) ∙ step

  pub walk_starts : walk_begun ≡ walk_of s (take 0 marks)
  unfolding read_on after_marks
  walk_starts =
      same_walk
      (ap (λ (k : Kind). start_of k open_months) (sym (kind_monthly t.term s.monthly))
      ∙ sym (few_read open_months t.term (take 0 marks) (omega arith)))
      refl
      (upper_begun s.upper)

  -- one step of the walk is one mark more
  pub walk_more : (i : ℕ) → i < length marks → step_walk s (walk_of s (take i marks)) (get_or marks i 0) ≡ walk_of s (take (i + 1) marks)
  walk_more i h = same_walk (read_more i h) (sym (one_mark_more nearest s.lower nothing_yet marks i h)) (upper_more s.upper marks i h)

  -- a month of the walk for each mark
  pub walk_months : (i : ℕ) → (walk_of s (take i marks)).lower.month < 2 ^ 31
  walk_months i = omega (arith, months_in s.lower nothing_yet (take i marks), few i)

  abbrev Most : List ℕ → Type 0
  Most years = (n : ℕ) → get_or years n 0 ≤ pounds_in_pence t.amount

  -- a table's credit so far fits 32 bits
  fits : (years : List ℕ) → Most years → (i : ℕ)
      → credit_at nearest years (after_marks nearest years nothing_yet (take i marks)) < 2 ^ 32
  fits years most i =
      rw (by_runs nearest years (take i marks))
      (credit_fits t s.election.accepted s.monthly years (take i marks) (settled_few t (take i marks) (refusal_take t marks none i)) most)

  pub holds : (i : ℕ) → Holdable s (walk_of s (take i marks))
  holds i =
      record {
        few = walk_months i;
        lower_fits = fits s.lower (subst Most (sym s.lower_is) (lower_most t s.election.accepted s.monthly)) i;
        upper_fits =
            λ years e. subst (λ (o : Option (List ℕ)). credit_at nearest years (after_marks_in o (take i marks)) < 2 ^ 32) (sym e)
            (fits years (upper_most t s.election.accepted s.monthly years (sym s.upper_is ∙ e)) i);
      }

  -- the entry, by the status after the marks so far
  entry_is : (i : ℕ) → entry_of t marks i
      ≡ pick (eqb (status_of open_months t.term (take (suc i) marks)) 5) 0 (credit_of t (take (suc i) marks))
  unfolding entry_of
  entry_is i =
      ap (λ (n : SettleNumbers). n.credit) (settle_settled t (take (suc i) marks) (refusal_take t marks none (suc i)))
      ∙ credit_by_status t (take (suc i) marks) s.monthly

  pub entry_held : (i : ℕ) → held_of s (walk_of s (take (i + 1) marks)) ≡ entry_of t marks i
  unfolding held_of
  entry_held i =
      rw (
        add-one i,
        status_lawful open_months t.term (take (suc i) marks) (settled_marks t (take (suc i) marks) (refusal_take t marks none (suc i))),
        runs_so_far t s.lower s.upper (take (suc i) marks) s.lower_is s.upper_is,
      )
      (sym (entry_is i))

-- an entry written for each mark
pub all_written : (t : Terms) (marks old out : List ℕ) {i : ℕ} → length marks ≤ length old → i ≡ length marks → Written (entry_of t marks) old out i
    → out ≡ filled_of t marks old
unfolding filled_of
all_written t marks old out few e w = written_list (entry_of t marks) old out (length marks) few (subst (Written (entry_of t marks) old out) e w)

-- The entries of a lump sum.

-- a 2 that stands among the first marks stands last of them, since only 2s follow it
last_ended : (ms : List ℕ) (i : ℕ) → i < length ms → Lawful AtOnce open_months (take (suc i) ms) → has_ended (take (suc i) ms) ≡ eqb (get_or ms i 0) 2
last_ended ms i inside law =
    sym (ended_by_last AtOnce open_months (take (suc i) ms) law)
    ∙ ap (λ (n : ℕ). eqb n 2) (ap (last_or 0) (take-suc ms i 0 inside) ∙ last_is 0 (take i ms) (get_or ms i 0))

pub lump_sum_entry : (t : Terms) (marks : List ℕ) (i : ℕ) → t.term ≡ 0 → (settle_refusal t marks).refusal ≡ 0 → i < length marks
    → entry_of t marks i ≡ pick (eqb (get_or marks i 0) 2) 0 (pounds_in_pence t.amount)
unfolding entry_of
lump_sum_entry t marks i z none inside =
    let first = take (suc i) marks in
    let unrefused = refusal_take t marks none (suc i) in
    let law : Lawful AtOnce open_months first = rw (kind_at_once t.term z) at (settled_marks t first unrefused).lawful in
    let last = last_ended marks i inside law in
    ap (λ (n : SettleNumbers). n.credit) (settle_settled t first unrefused)
    ∙ by_test (has_ended first)
    (λ e. ap (λ (n : SettleNumbers). n.credit) (ended_numbers t first z e) ∙ rw (sym last ∙ e))
    (λ e. ap (λ (n : SettleNumbers). n.credit) (running_numbers t first z e) ∙ rw (sym last ∙ e))
