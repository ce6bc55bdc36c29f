-- "Terms of an election", T8: pension a year in pence, which is never added to a contribution.
-- Assumes nothing.
use Rattle.std.specs.Prelude.{ℕ}
use Rattle.money.specs.declared.PensionPence.{PensionPence}

-- T8: n pence of pension a year
abbrev pub pension : ℕ → PensionPence
pension n = record { 0 = n }
