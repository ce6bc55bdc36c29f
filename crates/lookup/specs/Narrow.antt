-- "Narrow rates inside the lookup", N1 and N2: what it takes to hold a monthly rate in 16 bits, as a number of tenths of a pound.
-- Assumes nothing.
use Rattle.std.specs.Prelude.{◌≡◌, ℕ, ◌*◌, ◌<◌, ◌^◌}

-- N2: so many tenths of a pound, in pence
abbrev pub tenths_in_pence : ℕ → ℕ
tenths_in_pence tenths = tenths * 10

-- N1: a rate in pence that is a whole number of tenths of a pound, and 16 bits hold that number
pub record Narrow (rate : ℕ) : Type 0 where
  pub tenths : ℕ
  pub whole : rate ≡ tenths_in_pence tenths
  pub fits : tenths < 2 ^ 16
