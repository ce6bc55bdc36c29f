-- N1: every monthly rate is ten times a number that 16 bits hold. The test over all the tables, `tables_pass` of
-- `rates`, has both rules, and its laws carry them to the rate for each age and term.
-- Assumes nothing.
use mathlib.Core.Path.{◌≡◌}
use Prim.Native.Nat.{ℕ, ◌/◌, ◌%◌, ◌<◌}
use native.Mathlib.Omega.{arith}
use Rattle.rates.specs.Rates.{rate_of}
use Rattle.rates.proofs.Laws.{rate_most, rate_tens}
use Rattle.lookup.specs.Narrow.{Narrow}

pub rate_narrow : (o p age term : ℕ) → Narrow (rate_of o p age term)
rate_narrow o p age term =
    record {
      tenths = rate_of o p age term / 10;
      whole = omega (arith, rate_tens o p age term);
      fits = omega (arith, rate_most o p age term);
    }

-- what is no multiple of 10 pence, or £6,553.60 and more, is not narrow
pub narrow_told : (rate : ℕ) → Narrow rate → (rate % 10 ≡ 0) × (rate < 655360)
narrow_told rate n = (omega arith, omega arith)
