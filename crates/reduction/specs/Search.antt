-- "The reduction buy-out limit", L1, L3, L4 and L6 to L9: up to three candidate ages, one after the other, and which of them is taken.
-- Assumes nothing.
use Rattle.std.specs.Prelude.{Bool, ◌||◌, ℕ, zero, suc, ◌+◌, ◌-◌, max, ltb, eqb, ℤ, pos, slice_index}
use Rattle.std.proofs.Math.IntN.{sub_ℕ}
use Rattle.std.specs.Int.Signed.{lt_z}
use Rattle.common.specs.Choice.{pick}
use Rattle.reduction.specs.declared.Application.{Application}
use Rattle.reduction.specs.Potential.{potential_of}

-- L3: candidate 0 is NPA − 3, but at least 65; candidates 1 and 2 follow a year apart
unfoldable pub candidate_of : Application → ℕ → ℕ
candidate_of a k = max 65 (a.npa - 3) + k

-- L1: the early-retirement factor of each
unfoldable pub factor_of : Application → ℕ → ℕ
factor_of a k = slice_index a.erfs k

-- L4: the whole years to each
unfoldable pub years_to : Application → ℕ → ℕ
years_to a k = candidate_of a k - a.age

-- L4: B of each
unfoldable pub potential_at : Application → ℕ → ℕ
potential_at a k = potential_of (years_to a k) a.pay (factor_of a k)

-- L6: the greater of two numbers with a sign
abbrev pub greater_of : ℤ → ℤ → ℤ
greater_of x y = pick (lt_z x y) y x

-- L6: C, which may be below zero: the greater of B − A and L − A (`sub_ℕ x y` is x − y with its sign)
unfoldable pub headroom : (b existing limit : ℕ) → ℤ
headroom b existing limit = greater_of (sub_ℕ b existing) (sub_ℕ limit existing)

-- L7, L8: B < C; where A is 0 a candidate is taken untested
unfoldable pub is_taken : (b existing limit : ℕ) → Bool
is_taken b existing limit = eqb existing 0 || lt_z (pos b) (headroom b existing limit)

-- L7, L8: whether candidate k is taken
unfoldable pub candidate_is_taken : Application → ℕ → Bool
candidate_is_taken a k = is_taken (potential_at a k) a.existing.0 a.limit.0

-- L9: a candidate that is not below NPA ends the search
unfoldable pub below_npa : Application → ℕ → Bool
below_npa a k = ltb (candidate_of a k) a.npa

-- L9: of n candidates from k on the first that is taken, by a test; 0, no scope, at one that is not below NPA, and where none is left
unfoldable pub search_by : (taken : ℕ → Bool) → Application → (k n : ℕ) → ℕ
search_by taken a k zero = 0
search_by taken a k (suc n) = pick (below_npa a k) (pick (taken k) (candidate_of a k) (search_by taken a (suc k) n)) 0
