-- Not rules: a contribution in pence, as the functions beneath the operations promise it. The rules speak of its number.
-- Assumes nothing.
use Rattle.std.specs.Prelude.{ℕ}
use Rattle.money.specs.declared.ContributionPence.{ContributionPence}

-- a contribution of n pence
abbrev pub contribution : ℕ → ContributionPence
contribution n = record { 0 = n }
