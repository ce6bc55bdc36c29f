-- What holds of any table that a contract counts holds of the lower one, and with odd months of the upper.
-- Assumes nothing.
use mathlib.Core.Path.{◌≡◌, refl}
use Prim.Native.Nat.{◌≤◌, ◌<◌}
use native.Mathlib.Omega.{arith}
use Rattle.scheme.specs.Scheme.{longest_term}
use Rattle.years.specs.Years.{Purchase, FallingRates}
use Rattle.distance.specs.Distance.{Purchases, SoundPurchases}

pub both_tables : (c : Purchases) → SoundPurchases c → (Q : Purchase → Type 0)
    → ((p : Purchase) → p.term ≡ c.lower.term → p.unit ≡ c.lower.unit → p.units ≡ c.lower.units → p.term ≤ longest_term → FallingRates p → Q p)
    → Q c.lower × (0 < c.odd_months → Q c.upper)
both_tables c sound Q each = (
  each c.lower refl refl refl sound.term_most sound.lower_falls,
  λ odd. each c.upper sound.same_term sound.same_unit sound.same_units (omega (arith, sound.same_term)) (sound.upper_falls odd),
)
