-- "The reduction buy-out limit", L12: C cut off at 0. By a law the answers are the same: proofs/CutOff.
-- Assumes nothing.
use Rattle.std.specs.Prelude.{Bool, ◌||◌, ℕ, ltb, eqb, ℤ, pos, negsuc}
use Rattle.reduction.specs.declared.Application.{Application}
use Rattle.reduction.specs.Search.{potential_at, headroom}

-- L12: a number with a sign, 0 where it is below zero (`negsuc n` is −(n + 1))
abbrev pub cut_off : ℤ → ℕ
cut_off (pos n) = n
cut_off (negsuc n) = 0

-- L12: whether candidate k is taken, with C cut off
unfoldable pub candidate_is_taken_cut_off : Application → ℕ → Bool
candidate_is_taken_cut_off a k =
    eqb a.existing.0 0 || ltb (potential_at a k) (cut_off (headroom (potential_at a k) a.existing.0 a.limit.0))
