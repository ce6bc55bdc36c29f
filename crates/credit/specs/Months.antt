-- "From rate to contribution and credit", C13: a credit month by month. proofs/Months.antt shows that it is the
-- credit over the runs, for a value that never falls.
-- Assumes nothing.
use Rattle.std.specs.Prelude.{Bool, true, false, List, [], ◌∷◌, ℕ, suc, ◌+◌, ◌-◌}
use Rattle.credit.specs.Runs.{paid_flags}

-- C13: the value after the month at an index less the value before it
abbrev pub growth : (ℕ → ℕ) → ℕ → ℕ
growth value index = value (suc index) - value index

-- C12, C13: the sum of a month's figure over the paid months from an index on: only a paid one adds, and each keeps its place
unfoldable pub sum_over_paid_from : (ℕ → ℕ) → ℕ → List Bool → ℕ
sum_over_paid_from figure index [] = 0
sum_over_paid_from figure index (true ∷ ps) = figure index + sum_over_paid_from figure (suc index) ps
sum_over_paid_from figure index (false ∷ ps) = sum_over_paid_from figure (suc index) ps

-- C13: the same over all paid months of the marks
abbrev pub sum_over_paid : (ℕ → ℕ) → List ℕ → ℕ
sum_over_paid figure marks = sum_over_paid_from figure 0 (paid_flags marks)
