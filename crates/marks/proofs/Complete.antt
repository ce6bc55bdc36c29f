-- A contract is complete only where every month of its term is paid.
-- Assumes nothing.
use mathlib.Core.Bool.{Bool, true}
use mathlib.Core.List.{List, [], ◌∷◌}
use mathlib.Core.Path.{◌≡◌, refl, ap, ◌∙◌}
use Prim.Native.Nat.{ℕ, ◌*◌, ◌<◌}
use native.Mathlib.Omega.{arith}
use borrow.Author.Tests.{eqb-true, eqb-false}
use lib.Dec.{leb, eqb}
use lib.ListN.{length, replicate}
use Rattle.common.specs.Calendar.{months_in_year}
use Rattle.scheme.specs.Scheme.{ceased_from}
use Rattle.common.proofs.Choice.{either, not_first}
use Rattle.common.proofs.Tests.{by_test, never}
use Rattle.common.specs.Choice.{pick}
use Rattle.marks.specs.Counts.{are_all_paid, has_ended, paid_through}
use Rattle.marks.specs.Status.{stopped_of, status_of}
use Rattle.marks.proofs.StatusOf.{test0, test1, test2, test3}

-- marks that are all 1
every_one : (ms : List ℕ) → are_all_paid ms ≡ true → ms ≡ replicate (length ms) 1
unfolding are_all_paid
every_one [] e = refl
every_one (m ∷ ms) e =
    by_test (eqb m 1) (λ one. rw (eqb-true m 1 one) (ap (λ (l : List ℕ). 1 ∷ l) (every_one ms (rw one at e))))
    (λ other. never (rw other at e))

full_test : (open_months term : ℕ) (ms : List ℕ) → test3 open_months term ms ≡ true → ms ≡ replicate (months_in_year * term) 1
full_test open_months term ms e =
    by_test (eqb (length ms) (months_in_year * term))
    (λ full. every_one ms (rw full at e) ∙ ap (λ (n : ℕ). replicate n 1) (eqb-true (length ms) (months_in_year * term) full))
    (λ other. never (rw other at e))

stopped_other : (b : ℕ) → stopped_of b ≡ 3 → ⊥
unfolding stopped_of
stopped_other b = either (λ (n : ℕ). n ≡ 3 → ⊥) (leb ceased_from b) {x = 4} {y = 5} (λ z. omega arith) (λ z. omega arith)

lump_sum_other : (ended : Bool) → ◌≡◌ {A = ℕ} (pick ended 5 6) 3 → ⊥
lump_sum_other ended = either (λ (n : ℕ). n ≡ 3 → ⊥) ended {x = 5} {y = 6} (λ z. omega arith) (λ z. omega arith)

pub complete_marks : (open_months term : ℕ) (ms : List ℕ) → status_of open_months term ms ≡ 3 → (0 < term) × (ms ≡ replicate (months_in_year * term) 1)
unfolding status_of
complete_marks open_months term ms e =
    let after6 = not_first (λ (n : ℕ). n ≡ 3) (eqb term 0) (pick (has_ended ms) 5 6) _ (lump_sum_other (has_ended ms)) e in
    let after0 = not_first (λ (n : ℕ). n ≡ 3) (test0 open_months term ms) 0 _ (λ z. omega arith) after6.1 in
    let after1 = not_first (λ (n : ℕ). n ≡ 3) (test1 open_months term ms) 1 _ (λ z. omega arith) after0.1 in
    let after2 = not_first (λ (n : ℕ). n ≡ 3) (test2 open_months term ms) 2 _ (λ z. omega arith) after1.1 in
    let some : 0 < term = omega (arith, eqb-false term 0 after6.0) in
    by_test (test3 open_months term ms) (λ full. (some, full_test open_months term ms full))
    (λ other. absurd (stopped_other (paid_through ms) (rw other at after2.1)))
