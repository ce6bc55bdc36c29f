-- "What each operation gives", O3: what bounds the numbers of a reduction limit.
-- Assumes nothing.
use Rattle.std.specs.Prelude.{ℕ, ◌≤◌}
use Rattle.reduction.specs.Answer.{ReductionNumbers}

-- O3: the greatest B, £325,702.17 a year: 45 years at £200,000 with a factor of 0
abbrev pub most_potential : ℕ
most_potential = 32570217

-- O3: no number of a reduction limit is larger
pub record ReductionBounds (n : ReductionNumbers) : Type 0 where
  pub refusal_most : n.refusal ≤ 18
  -- the last candidate below the latest pension age
  pub age_most : n.age ≤ 69
  pub first_most : n.first ≤ most_potential
  pub second_most : n.second ≤ most_potential
  pub third_most : n.third ≤ most_potential
