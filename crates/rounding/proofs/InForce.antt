-- The rule in force is within a half of the quotient, and monotone in it. Callers use these two laws and what follows from them; nothing
-- above this crate opens the rule but the proved figures.
-- Assumes nothing.
use Rattle.rounding.specs.Nearest.{nearest}
use Rattle.rounding.specs.Rounding.{WithinHalf, Monotone}
use Rattle.rounding.proofs.HalfEven.{half_even_within_half, half_even_monotone}

pub nearest_within_half : WithinHalf nearest
unfolding nearest
nearest_within_half = half_even_within_half

pub nearest_monotone : Monotone nearest
unfolding nearest
nearest_monotone = half_even_monotone
