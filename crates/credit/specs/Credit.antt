-- "From rate to contribution and credit", C10 and C11: what the paid runs earn together.
-- Assumes nothing.
use Rattle.std.specs.Prelude.{List, [], ◌∷◌, ℕ, ◌+◌, ◌-◌}
use Rattle.years.specs.Years.{Purchase, year_credits, month_value}
use Rattle.credit.specs.Runs.{Run, runs_in}

-- C10, C11: each run adds what its value has grown by from its start to its end
unfoldable pub sum_over_runs : (ℕ → ℕ) → List Run → ℕ
sum_over_runs value [] = 0
sum_over_runs value (r ∷ rs) = (value r.to - value r.from) + sum_over_runs value rs

-- C11: the credit of the marks, by a row of whole-year credits
unfoldable pub credit_over : (ℕ → ℕ → ℕ) → List ℕ → List ℕ → ℕ
credit_over round years marks = sum_over_runs (month_value round years) (runs_in marks)

-- C11: one table's credit of the marks
unfoldable pub credit_in : (ℕ → ℕ → ℕ) → Purchase → List ℕ → ℕ
credit_in round p marks = credit_over round (year_credits round p) marks
