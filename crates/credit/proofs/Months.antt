-- The credit month by month: where the value never falls, the runs earn the sum, over the paid months, of the value after the month
-- less the value before it.
-- Assumes nothing.
use mathlib.Core.Bool.{Bool, true, false}
use mathlib.Core.List.{List, [], ◌∷◌}
use mathlib.Core.Path.{◌≡◌, refl, ap}
use Prim.Native.Nat.{ℕ, suc, ◌+◌, ◌≤◌, ◌<◌}
use native.Mathlib.Omega.{arith}
use lib.ListN.{length}
use Rattle.credit.specs.Runs.{paid_flags, runs_from, run_from, runs_in}
use Rattle.credit.specs.Credit.{sum_over_runs}
use Rattle.credit.specs.Months.{growth, sum_over_paid_from, sum_over_paid}
use Rattle.credit.proofs.Runs.{length_paid}

-- a value that falls in no month before N
module _ (value : ℕ → ℕ) (N : ℕ) (up : (i : ℕ) → i < N → value i ≤ value (suc i)) where
  -- outside a run at month i, and inside one that began at month a
  mutual
    unfolding sum_over_runs runs_from sum_over_paid_from

    outside : (ps : List Bool) (i : ℕ) → i + length ps ≤ N → sum_over_runs value (runs_from i ps) ≡ sum_over_paid_from (growth value) i ps
    outside [] i h = refl
    outside (true ∷ ps) i h =
        let g = up i (omega arith) in
        omega (arith, inside ps i (suc i) g (omega arith))
    outside (false ∷ ps) i h = outside ps (suc i) (omega arith)

    inside : (ps : List Bool) (a i : ℕ) → value a ≤ value i → i + length ps ≤ N
        → sum_over_runs value (run_from a i ps) + value a ≡ value i + sum_over_paid_from (growth value) i ps
    inside [] a i g h = omega arith
    inside (true ∷ ps) a i g h =
        let next = up i (omega arith) in
        omega (arith, inside ps a (suc i) (omega arith) (omega arith))
    inside (false ∷ ps) a i g h = omega (arith, outside ps (suc i) (omega arith))

  -- from month i to month j the paid months add at most what the value grows by
  most_from : (ps : List Bool) (i j : ℕ) → i + length ps ≡ j → j ≤ N → sum_over_paid_from (growth value) i ps + value i ≤ value j
  unfolding sum_over_paid_from
  most_from [] i j e h = omega (arith, ap value {x = i} {y = j} (omega arith))
  most_from (true ∷ ps) i j e h = omega (arith, most_from ps (suc i) j (omega arith) h, up i (omega arith))
  most_from (false ∷ ps) i j e h = omega (arith, most_from ps (suc i) j (omega arith) h, up i (omega arith))

-- a value that falls in no month of the marks
module _ (value : ℕ → ℕ) (marks : List ℕ) (up : (i : ℕ) → i < length marks → value i ≤ value (suc i)) where
  -- the sum over the runs is the sum over the paid months
  pub by_months : sum_over_runs value (runs_in marks) ≡ sum_over_paid (growth value) marks
  unfolding runs_in
  by_months = outside value (length marks) up (paid_flags marks) 0 (omega (arith, length_paid marks))

  -- they add at most what the value has grown by to the last of the marks
  pub paid_growth_most : sum_over_paid (growth value) marks + value 0 ≤ value (length marks)
  paid_growth_most = most_from value (length marks) up (paid_flags marks) 0 (length marks) (omega (arith, length_paid marks)) (omega arith)
