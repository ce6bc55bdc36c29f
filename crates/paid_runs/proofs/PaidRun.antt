-- Laws of a run of paid months: how long it is, mark by mark, and that its marks are 1s.
-- Assumes nothing.
use mathlib.Core.List.{List, [], ◌∷◌}
use mathlib.Core.Path.{◌≡◌, refl, ap}
use Prim.Native.Nat.{ℕ, zero, suc, ◌+◌, ◌≤◌, ◌<◌}
use native.Mathlib.Numerals.{add-one}
use native.Mathlib.Omega.{arith}
use borrow.Author.Tests.{eq-eqb, ne_eqb, eqb-true}
use lib.Dec.{eqb}
use lib.ListN.{length, take, drop, get_or, replicate, drop_of_length-le}
use lib.Seq.{drop-cons}
use Rattle.common.proofs.Tests.{by_test}
use Rattle.std.proofs.Common.{◌==◌, one-add}
use Rattle.std.specs.List.{prefix_len}
use Rattle.paid_runs.specs.PaidRun.{paid_run}

pub run_goes_on : (ms : List ℕ) (i : ℕ) → i < length ms → get_or ms i 0 ≡ 1 → paid_run (drop i ms) ≡ suc (paid_run (drop (i + 1) ms))
unfolding paid_run
run_goes_on ms i h e = rw (drop-cons ms i 0 h, eq-eqb _ 1 e, add-one i)

pub run_ones : (ms : List ℕ) → prefix_len (λ m. m == 1) ms ≡ paid_run ms
unfolding paid_run
run_ones [] = refl
run_ones (m ∷ ms) = by_test (eqb m 1) (λ e. rw (e, one-add) (ap suc (run_ones ms))) (λ e. rw e refl)

pub run_stops : (ms : List ℕ) (i : ℕ) → i < length ms → (get_or ms i 0 ≡ 1 → ⊥) → paid_run (drop i ms) ≡ 0
unfolding paid_run
run_stops ms i h e = rw (drop-cons ms i 0 h, ne_eqb _ 1 e)

pub run_ends : (ms : List ℕ) (i : ℕ) → length ms ≤ i → paid_run (drop i ms) ≡ 0
unfolding paid_run
run_ends ms i h = rw (drop_of_length-le ms h)

pub run_inside : (ms : List ℕ) → paid_run ms ≤ length ms
unfolding paid_run
run_inside [] = omega arith
run_inside (m ∷ ms) = by_test (eqb m 1) (λ e. rw e (omega (arith, run_inside ms))) (λ e. rw e (omega arith))

pub run_past : (n : ℕ) (ms : List ℕ) → n ≤ paid_run ms → n + paid_run (drop n ms) ≡ paid_run ms
unfolding paid_run
run_past zero ms h = omega arith
run_past (suc n) [] h = omega arith
run_past (suc n) (m ∷ ms) h =
    by_test (eqb m 1)
    (λ e. rw e (omega (arith, run_past n ms (omega (arith, rw e at h)))))
    (λ e. absurd (let none : ⊥ = omega (arith, rw e at h) in none))

-- its marks are 1s

pub run_paid : (ms : List ℕ) → take (paid_run ms) ms ≡ replicate (paid_run ms) 1
unfolding paid_run
run_paid [] = refl
run_paid (m ∷ ms) =
    by_test (eqb m 1) (λ e. rw (e, eqb-true m 1 e) (ap (λ (l : List ℕ). 1 ∷ l) (run_paid ms))) (λ e. rw e)
