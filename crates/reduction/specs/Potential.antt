-- "The reduction buy-out limit", L4: B, the greatest pension a year that a buy-out up to a candidate age can be worth.
-- Assumes nothing.
use Rattle.std.specs.Prelude.{ℕ, ◌*◌, ◌-◌, ◌≤◌}
use Rattle.scheme.specs.Scheme.{pounds_in_pence}
use Rattle.rounding.specs.Nearest.{half_up}
use Rattle.reduction.specs.Near.{Near}
use Rattle.reduction.specs.Power.{billion, power_of, power_num, power_den}

-- L4: years × pay × 1.015 to those years × (1 − ERF) ÷ 54, in pence, rounded once, a half going up; pay is in pounds, the power in
-- billionths, the factor in thousandths
unfoldable pub potential_of : (years pay erf : ℕ) → ℕ
potential_of years pay erf = half_up (years * pounds_in_pence pay * power_of years * (1000 - erf)) (54 * 1000 * billion)

-- L4: the exact value in pence, a fraction: the same with the exact power, and nothing rounded
abbrev pub potential_num : (years pay erf : ℕ) → ℕ
potential_num years pay erf = years * pounds_in_pence pay * power_num years * (1000 - erf)

abbrev pub potential_den : (years : ℕ) → ℕ
potential_den years = 54 * 1000 * billion * power_den years

-- L4: b is within s pence of it
abbrev pub NearPotential : (s years pay erf b : ℕ) → Type 0
NearPotential s years pay erf b = Near s b (potential_num years pay erf) (potential_den years)

-- L4: with up to 45 years and £200,000 B is within 2 pence of its exact value, and even within one
pub record PotentialDistance : Type 0 where
  pub near : (years pay erf : ℕ) → years ≤ 45 → pay ≤ 200000 → NearPotential 2 years pay erf (potential_of years pay erf)
  pub close : (years pay erf : ℕ) → years ≤ 45 → pay ≤ 200000 → NearPotential 1 years pay erf (potential_of years pay erf)
