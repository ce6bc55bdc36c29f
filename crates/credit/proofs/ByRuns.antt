-- The credit run by run: what the runs from an index on earn, past a run that begins there and past a month that is not paid.
-- Assumes nothing.
use mathlib.Core.List.{List, [], ◌∷◌}
use mathlib.Core.Path.{◌≡◌}
use Prim.Native.Nat.{ℕ, suc, ◌+◌, ◌-◌, ◌≤◌, ◌<◌}
use native.Mathlib.Numerals.{add-one}
use native.Mathlib.Omega.{arith}
use borrow.Author.Tests.{eq-eqb, ne_eqb}
use lib.Dec.{eqb}
use lib.ListN.{length, drop, get_or, length-drop, drop_of_length-le}
use lib.Seq.{drop-cons, drop-drop}
use Rattle.common.proofs.Tests.{by_test}
use Rattle.paid_runs.specs.PaidRun.{paid_run}
use Rattle.paid_runs.proofs.PaidRun.{run_goes_on, run_inside}
use Rattle.credit.specs.Runs.{◌until◌, paid_flags, runs_from, run_from}
use Rattle.credit.specs.Credit.{sum_over_runs}

-- inside a run: it ends after its 1s, and the other runs come from there on
run_first : (ms : List ℕ) (a i : ℕ)
    → run_from a i (paid_flags ms) ≡ (a until (i + paid_run ms)) ∷ runs_from (i + paid_run ms) (paid_flags (drop (paid_run ms) ms))
unfolding paid_run runs_from run_from
run_first [] a i = let none : i + 0 ≡ i = omega arith in rw none
run_first (m ∷ ms) a i =
    by_test (eqb m 1)
    (λ e. let next : i + suc (paid_run ms) ≡ suc i + paid_run ms = omega arith in rw (e, next) (run_first ms a (suc i)))
    (λ e. let none : i + 0 ≡ i = omega arith in rw (e, none, e))

-- a run that begins at a paid month has that month, and ends within the marks
pub ends_inside : (marks : List ℕ) (i : ℕ) {end : ℕ} → i < length marks → get_or marks i 0 ≡ 1 → end ≡ i + paid_run (drop i marks)
    → (i < end) × (end ≤ length marks)
ends_inside marks i h e is =
    (omega (arith, run_goes_on marks i h e), omega (arith, run_inside (drop i marks), length-drop i marks))

module _ (value : ℕ → ℕ) (marks : List ℕ) where
  -- what the runs from index i on earn, where no run is open
  abbrev pub sum_from : ℕ → ℕ
  sum_from i = sum_over_runs value (runs_from i (paid_flags (drop i marks)))

  module _ (i : ℕ) (h : i < length marks) where
    -- a run begins at a paid month
    opens : get_or marks i 0 ≡ 1 → runs_from i (paid_flags (drop i marks)) ≡ run_from i i (paid_flags (drop i marks))
    unfolding runs_from run_from
    opens e = rw (drop-cons marks i 0 h, eq-eqb _ 1 e)

    pub past_run : {end : ℕ} → get_or marks i 0 ≡ 1 → end ≡ i + paid_run (drop i marks)
        → sum_from i ≡ (value end - value i) + sum_from end
    unfolding sum_over_runs
    past_run e is = rw (opens e, run_first (drop i marks) i i, drop-drop (paid_run (drop i marks)) i marks, ← is)

    pub past_other : (get_or marks i 0 ≡ 1 → ⊥) → sum_from i ≡ sum_from (i + 1)
    unfolding runs_from
    past_other e = rw (drop-cons marks i 0 h, ne_eqb _ 1 e, add-one i)

  pub no_runs_left : (i : ℕ) → length marks ≤ i → sum_from i ≡ 0
  unfolding sum_over_runs runs_from
  no_runs_left i h = rw (drop_of_length-le marks h)
