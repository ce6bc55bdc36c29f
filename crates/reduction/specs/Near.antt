-- "The reduction buy-out limit", L4 and L5: how near a whole number is to a fraction, in whole units (`Within` of `distance` counts halves).
-- Assumes nothing.
use Rattle.std.specs.Prelude.{ℕ, ◌+◌, ◌*◌, ◌≤◌, ◌<◌}

-- L4, L5: r is at most s above num ÷ den, and at most s below it; multiplied out
pub record Near (s r num den : ℕ) : Type 0 where
  pub positive : 0 < den
  pub above : r * den ≤ num + s * den
  pub below : num ≤ (r + s) * den
