-- With C cut off at 0 every answer is the same.
-- Assumes nothing.
use mathlib.Core.Bool.{Bool, ◌||◌}
use mathlib.Core.Path.{◌≡◌, refl, sym, ap}
use Prim.Native.Nat.{ℕ, zero, suc}
use lib.Dec.{eqb}
use Rattle.reduction.specs.declared.Application.{Application}
use Rattle.reduction.specs.Search.{potential_at, headroom, is_taken, candidate_is_taken, search_by}
use Rattle.reduction.specs.Answer.{reduction_by, reduction_limit_of}
use Rattle.reduction.specs.CutOff.{candidate_is_taken_cut_off}
use Rattle.reduction.proofs.Headroom.{below_cut}

-- each candidate is taken just where it was
pub taken_cut : (a : Application) (k : ℕ) → candidate_is_taken_cut_off a k ≡ candidate_is_taken a k
unfolding candidate_is_taken_cut_off candidate_is_taken is_taken
taken_cut a k =
    ap (λ (t : Bool). eqb a.existing.0 0 || t)
    (sym (below_cut (potential_at a k) (headroom (potential_at a k) a.existing.0 a.limit.0)))

-- tests that say the same find the same
search_same : (a : Application) (s t : ℕ → Bool) → ((k : ℕ) → s k ≡ t k) → (k n : ℕ) → search_by s a k n ≡ search_by t a k n
unfolding search_by
search_same a s t same k zero = refl
search_same a s t same k (suc n) = rw (same k, search_same a s t same (suc k) n)

pub cut_off_same : (a : Application) → reduction_by (candidate_is_taken_cut_off a) a ≡ reduction_limit_of a
unfolding reduction_limit_of reduction_by
cut_off_same a = rw (search_same a (candidate_is_taken_cut_off a) (candidate_is_taken a) (taken_cut a) 0 3)
