-- Eight marks looked at as one by their bits: what each differs from 1 by, or-ed together, is 0 where a paid run of eight begins, and nowhere else.
-- Assumes nothing.
use mathlib.Core.Bool.{◌&&◌, and_assoc, and-true}
use mathlib.Core.List.{List}
use mathlib.Core.Path.{◌≡◌}
use Prim.Native.Nat.{ℕ, suc, ◌+◌, ◌≤◌, ◌<◌}
use native.Mathlib.Omega.{arith}
use borrow.Author.Tests.{eqb-true, eqb-false, ne_eqb}
use lib.Bits.{bit_or, bit_xor, or_add_and, xor_add_and, and_le_r, and_mask}
use lib.Dec.{leb, eqb, leb-zero, leb-suc-zero, leb-suc-suc}
use lib.ListN.{length, drop, get_or}
use Rattle.common.proofs.Tests.{by_test}
use Rattle.paid_runs.specs.PaidRun.{paid_run}
use Rattle.paid_runs.proofs.PaidRun.{run_goes_on, run_stops}

-- or-ed numbers are 0 where both are
or_none : (a b : ℕ) → eqb (bit_or a b) 0 ≡ (eqb a 0 && eqb b 0)
or_none a b =
    by_test (eqb a 0)
    (λ e. rw (eqb-true a 0 e))
    (λ e. rw (e, ne_eqb (bit_or a b) 0 (λ z. eqb-false a 0 e (omega (arith, or_add_and a b, and_le_r a b, z)))))

-- and xor-ed with 1, a number is 0 where it is 1
xor_none : (m : ℕ) → eqb (bit_xor m 1) 0 ≡ eqb m 1
xor_none m =
    by_test (eqb m 1)
    (λ e. rw (eqb-true m 1 e))
    (λ e. rw (e, ne_eqb (bit_xor m 1) 0 (λ z. eqb-false m 1 e (omega (arith, xor_add_and m 1, and_mask m 1, z)))))

-- what a mark differs from 1 by
abbrev off : List ℕ → ℕ → ℕ
off ms i = bit_xor (get_or ms i 0) 1

module _ (ms : List ℕ) (i : ℕ) (h : i + 8 ≤ length ms) where
  -- a run is longer than n months where its first month is paid and the rest has at least n
  longer : (k n : ℕ) → k < 8
      → leb (suc n) (paid_run (drop (i + k) ms)) ≡ (eqb (get_or ms (i + k) 0) 1 && leb n (paid_run (drop (i + suc k) ms)))
  longer k n small =
      let next : i + suc k ≡ i + k + 1 = omega arith in
      let less : i + k < length ms = omega arith in
      by_test (eqb (get_or ms (i + k) 0) 1)
      (λ e. rw (e, next, run_goes_on ms (i + k) less (eqb-true _ 1 e)) (leb-suc-suc n _))
      (λ e. rw (e, run_stops ms (i + k) less (eqb-false _ 1 e)) (leb-suc-zero n))

  pub run_of_eight : eqb (bit_or
      (bit_or (bit_or (bit_or (off ms i) (off ms (i + 1))) (off ms (i + 2))) (off ms (i + 3)))
      (bit_or (bit_or (bit_or (off ms (i + 4)) (off ms (i + 5))) (off ms (i + 6))) (off ms (i + 7)))) 0
      ≡ leb 8 (paid_run (drop i ms))
  run_of_eight =
      let none : i + 0 ≡ i = omega arith in
      let first = rw none at (longer 0 7 (omega arith)) in
      rw (
        first,
        longer 1 6 (omega arith),
        longer 2 5 (omega arith),
        longer 3 4 (omega arith),
        longer 4 3 (omega arith),
        longer 5 2 (omega arith),
        longer 6 1 (omega arith),
        longer 7 0 (omega arith),
        leb-zero,
      )
      (simp (or_none, xor_none, and_assoc, and-true))
