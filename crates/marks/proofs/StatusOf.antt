-- The status from the reading of lawful marks is the status of the marks; and what a status tells: its range, b of a refunded contract,
-- that a term paid in full is complete and a contract without status 6 monthly.
-- Assumes nothing.
use mathlib.Core.Bool.{Bool, true, false, ◌&&◌}
use mathlib.Core.List.{List}
use mathlib.Core.Path.{◌≡◌, refl, sym, ◌∙◌}
use Prim.Native.Nat.{ℕ, zero, suc, ◌*◌, ◌≤◌, ◌<◌}
use native.Mathlib.Omega.{arith}
use borrow.Author.Tests.{lt-ltb, le-ltb, le-leb, leb-true, leb-false, eq-eqb, ne_eqb, eqb-false}
use lib.Dec.{ltb, leb, eqb}
use lib.ListN.{length, replicate, length-replicate}
use Rattle.common.specs.Choice.{pick}
use Rattle.common.specs.Calendar.{months_in_year}
use Rattle.scheme.specs.Scheme.{ceased_from}
use Rattle.marks.specs.Kind.{kind_of}
use Rattle.marks.specs.Counts.{last_or, are_all_paid, has_ended, paid_through, final_gap, payments_of}
use Rattle.marks.specs.Lawful.{LawfulFor}
use Rattle.marks.specs.Status.{stopped_of, status_of}
use Rattle.marks.specs.Reading.{marks_reading, status_from, payments_from}
use Rattle.common.proofs.Choice.{either, not_first}
use Rattle.common.proofs.Tests.{by_test}
use Rattle.marks.proofs.KindOf.{monthly_limit}
use Rattle.marks.proofs.Counts.{all_paid}
use Rattle.marks.proofs.Lawful.{ended_by_last}
use Rattle.marks.proofs.Term.{marks_counts}

-- missed months at the end that leave a contract open, as the code tests for them and as the rule is written
open_gap : (open_months gap s : ℕ) → pick (eqb gap 0) s (pick (leb gap open_months) 2 s) ≡ pick (leb 1 gap && leb gap open_months) 2 s
open_gap open_months zero s = refl
open_gap open_months (suc gap) s = rw (ne_eqb (suc gap) 0 (λ e. omega arith), le-leb 1 (suc gap) (omega arith))

pub status_lawful : (open_months term : ℕ) (ms : List ℕ) → LawfulFor open_months term ms
    → status_from term (marks_reading open_months term ms) ≡ status_of open_months term ms
unfolding status_from status_of
status_lawful open_months term ms h =
    let months = months_in_year * term in
    let count = length ms in
    by_test (eqb term 0)
    (λ z. rw (marks_counts open_months term ms h, z, ended_by_last (kind_of term) open_months ms h.lawful))
    (λ some.
    let few : count ≤ months = omega (arith, h.few, monthly_limit term (omega (arith, eqb-false term 0 some))) in
    by_test (leb months count)
    (λ t.
    let over : count ≡ months = omega (arith, few, leb-true months count t) in
    rw (marks_counts open_months term ms h, some, t, le-ltb count months (omega arith), eq-eqb count months over, sym over, all_paid ms))
    (λ t.
    let running : count < months = leb-false months count t in
    rw (marks_counts open_months term ms h, some, t, lt-ltb count months running, ne_eqb count months (λ p. omega arith))
    (rw (open_gap open_months (final_gap ms) (stopped_of (paid_through ms))))))

-- and so are the payments
pub payments_lawful : (open_months term : ℕ) (ms : List ℕ) → LawfulFor open_months term ms
    → payments_from term (marks_reading open_months term ms) ≡ payments_of term ms
unfolding payments_from payments_of
payments_lawful open_months term ms h = rw (marks_counts open_months term ms h)

module _ (open_months term : ℕ) (ms : List ℕ) where
  -- the tests of `status_of` after the first, by the status that each gives
  abbrev pub test0 : Bool
  test0 = eqb (length ms) 0

  abbrev pub test1 : Bool
  test1 = ltb (length ms) (months_in_year * term) && eqb (last_or 0 ms) 1

  abbrev pub test2 : Bool
  test2 = ltb (length ms) (months_in_year * term) && (leb 1 (final_gap ms) && leb (final_gap ms) open_months)

  abbrev pub test3 : Bool
  test3 = eqb (length ms) (months_in_year * term) && are_all_paid ms

  abbrev test4 : Bool
  test4 = leb ceased_from (paid_through ms)

  -- the statuses of a monthly contract are 0 to 5
  pub monthly_status : 0 < term → status_of open_months term ms ≤ 5
  unfolding status_of stopped_of
  monthly_status h =
      rw (ne_eqb term 0 (λ z. omega arith))
      (either (λ (n : ℕ). n ≤ 5) test0 {x = 0} (omega arith)
      (either (λ (n : ℕ). n ≤ 5) test1 {x = 1} (omega arith)
      (either (λ (n : ℕ). n ≤ 5) test2 {x = 2} (omega arith)
      (either (λ (n : ℕ). n ≤ 5) test3 {x = 3} (omega arith)
      (either (λ (n : ℕ). n ≤ 5) test4 {x = 4} {y = 5} (omega arith) (omega arith))))))

  -- a monthly contract that is refunded was paid for less than a year
  pub refunded_early : 0 < term → status_of open_months term ms ≡ 5 → paid_through ms < ceased_from
  unfolding status_of stopped_of
  refunded_early h e =
      let monthly = rw (ne_eqb term 0 (λ z. omega arith)) at e in
      let after0 = not_first (λ (n : ℕ). n ≡ 5) test0 0 _ (λ z. omega arith) monthly in
      let after1 = not_first (λ (n : ℕ). n ≡ 5) test1 1 _ (λ z. omega arith) after0.1 in
      let after2 = not_first (λ (n : ℕ). n ≡ 5) test2 2 _ (λ z. omega arith) after1.1 in
      let after3 = not_first (λ (n : ℕ). n ≡ 5) test3 3 _ (λ z. omega arith) after2.1 in
      let after4 = not_first (λ (n : ℕ). n ≡ 5) test4 4 5 (λ z. omega arith) after3.1 in
      leb-false ceased_from (paid_through ms) after4.0

-- a term that is paid in full is complete
every_paid : (n : ℕ) → are_all_paid (replicate n 1) ≡ true
unfolding are_all_paid
every_paid zero = refl
every_paid (suc n) = every_paid n

pub full_status : (open_months term : ℕ) → 0 < term → status_of open_months term (replicate (months_in_year * term) 1) ≡ 3
unfolding status_of
full_status open_months term h =
    rw (
      length-replicate,
      ne_eqb term 0 (λ z. omega arith),
      ne_eqb (months_in_year * term) 0 (λ z. omega arith),
      le-ltb (months_in_year * term) (months_in_year * term) (omega arith),
      eq-eqb (months_in_year * term) (months_in_year * term) refl,
      every_paid (months_in_year * term),
    )

-- the status of a lump sum: refunded where there is a 2
module _ (open_months term : ℕ) (ms : List ℕ) (z : term ≡ 0) where
  lump_sum_status : status_of open_months term ms ≡ pick (has_ended ms) 5 6
  unfolding status_of
  lump_sum_status = rw (eq-eqb term 0 z)

  pub ended_status : has_ended ms ≡ true → status_of open_months term ms ≡ 5
  ended_status e = lump_sum_status ∙ rw e

  pub running_status : has_ended ms ≡ false → status_of open_months term ms ≡ 6
  running_status e = lump_sum_status ∙ rw e

-- a contract with neither of these is monthly
pub not_lump : (open_months term : ℕ) (ms : List ℕ) → (status_of open_months term ms ≡ 5 → ⊥) → (status_of open_months term ms ≡ 6 → ⊥) → 0 < term
not_lump open_months zero ms five six =
    by_test (has_ended ms) (λ e. absurd (five (ended_status open_months 0 ms refl e))) (λ e. absurd (six (running_status open_months 0 ms refl e)))
not_lump open_months (suc term) ms five six = omega arith

pub status_most : (open_months term : ℕ) (ms : List ℕ) → status_of open_months term ms ≤ 6
status_most open_months zero ms =
    by_test (has_ended ms) (λ e. omega (arith, ended_status open_months 0 ms refl e)) (λ e. omega (arith, running_status open_months 0 ms refl e))
status_most open_months (suc term) ms = omega (arith, monthly_status open_months (suc term) ms (omega arith))
