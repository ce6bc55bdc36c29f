-- No mark earns more than a bound of all the years, so that a credit fits its type.
-- Assumes nothing.
use mathlib.Core.List.{List, [], ◌∷◌}
use Prim.Native.Nat.{ℕ, suc, ◌*◌, ◌≤◌}
use native.Mathlib.Nat.{mul-le-mul_right}
use native.Mathlib.Omega.{arith}
use lib.ListN.{length, get_or}
use Rattle.rounding.specs.Rounding.{WithinHalf}
use Rattle.years.specs.Years.{month_value}
use Rattle.credit.specs.Runs.{Run, runs_in}
use Rattle.credit.specs.Credit.{sum_over_runs, credit_over}
use Rattle.credit.proofs.Months.{by_months, paid_growth_most}
use Rattle.credit.proofs.Order.{Ordered, runs_ordered}
use Rattle.years.proofs.Years.{month_most}

-- a run earns no more of a value up to u than of one that grows by u in every month
each_most : (value : ℕ → ℕ) (u : ℕ) → ((month : ℕ) → value month ≤ u) → (rs : List Run) (i : ℕ) → Ordered i rs
    → sum_over_runs value rs ≤ sum_over_runs (λ (month : ℕ). month * u) rs
unfolding sum_over_runs Ordered
each_most value u most [] i o = omega arith
each_most value u most (r ∷ rs) i o =
    omega (arith, most r.to, mul-le-mul_right u o.1, each_most value u most rs (suc r.to) o.2)

module _ (round : ℕ → ℕ → ℕ) (half : WithinHalf round) where
  pub credit_most : (years : List ℕ) (u : ℕ) → ((n : ℕ) → get_or years n 0 ≤ u) → (marks : List ℕ) → credit_over round years marks ≤ length marks * u
  unfolding credit_over
  credit_most years u most marks =
      omega (
        arith,
        each_most (month_value round years) u (month_most round half years u most) (runs_in marks) 0 (runs_ordered marks),
        by_months (λ (month : ℕ). month * u) marks (λ i h. omega arith),
        paid_growth_most (λ (month : ℕ). month * u) marks (λ i h. omega arith),
      )
