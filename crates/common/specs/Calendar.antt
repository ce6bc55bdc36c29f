-- The calendar that terms, marks and values go by.
-- Assumes nothing.
use Rattle.std.specs.Prelude.{ℕ}

-- months in a year
abbrev pub months_in_year : ℕ
months_in_year = 12
