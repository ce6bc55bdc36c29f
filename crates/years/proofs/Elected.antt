-- The published rates fall wherever that of the term is printed.
-- Assumes nothing.
use Prim.Native.Nat.{ℕ, suc, ◌<◌}
use native.Mathlib.Omega.{arith}
use Rattle.rates.specs.Rates.{rate_of}
use Rattle.rates.proofs.Laws.{rate_falls}
use Rattle.scheme.specs.Scheme.{step_pence}
use Rattle.years.specs.Years.{FallingRates}

pub rates_fall : (option pension_age age term units : ℕ) → 0 < rate_of option pension_age age term
    → FallingRates (record { rate = rate_of option pension_age age; unit = step_pence; units = units; term = term })
rates_fall o p age term units there =
    record {
      positive = λ n low within. omega (arith, rate_falls o p age n term low within);
      falls = λ n low within. rate_falls o p age n (suc n) low (omega arith);
    }
