-- The tables of this scheme pass, with its first age and margin.
-- Assumes nothing.
use native.Mathlib.Omega.{arith}
use Rattle.scheme.specs.Scheme.{first_age, print_margin}
use Rattle.scheme.specs.Bounds.{most_monthly_rate}
use Rattle.rates.specs.Rates.{table_of}
use Rattle.rates.proofs.Monthly.{PassingTables}
use Rattle.rates.proofs.Tables.{known_or_empty}

pub tables_passing : PassingTables first_age print_margin most_monthly_rate table_of
unfolding table_of
tables_passing = record { pass = tt; known_or_empty = known_or_empty; some = omega arith; apart = omega arith }
