-- "The reduction buy-out limit", L2 and L4 to L10: what holds of every answer beside its numbers.
-- Assumes nothing.
use Rattle.std.specs.Prelude.{◌⊎◌, ◌≡◌, ℕ, zero, suc, ◌≤◌, ◌<◌, pos, ◌<ℤ◌}
use Rattle.reduction.specs.declared.Application.{Application}
use Rattle.reduction.specs.Potential.{NearPotential}
use Rattle.reduction.specs.Range.{InRange}
use Rattle.reduction.specs.Search.{candidate_of, years_to, factor_of, potential_at, headroom}
use Rattle.reduction.specs.Answer.{ReductionNumbers}

-- L7, L8, L9: candidate k is below NPA, and A is 0 or B < C
pub record PassingCandidate (a : Application) (k : ℕ) : Type 0 where
  pub below : candidate_of a k < a.npa
  pub room : (a.existing.0 ≡ 0) ⊎ (pos (potential_at a k) <ℤ headroom (potential_at a k) a.existing.0 a.limit.0)

-- L9, L10: an age is a candidate that passes, and no earlier one does
pub record EarliestPassing (a : Application) (age : ℕ) : Type 0 where
  pub candidate : ℕ
  pub among : candidate < 3
  pub is : age ≡ candidate_of a candidate
  pub passes : PassingCandidate a candidate
  pub earlier : (j : ℕ) → j < candidate → PassingCandidate a j → ⊥

-- L9: none of the three passes
abbrev pub NonePassing : Application → Type 0
NonePassing a = (k : ℕ) → k < 3 → PassingCandidate a k → ⊥

-- L10: the B that is given for candidate k
abbrev pub given_for : ReductionNumbers → ℕ → ℕ
given_for n zero = n.first
given_for n (suc zero) = n.second
given_for n (suc (suc k)) = n.third

-- L10: candidate k is below NPA, and not after the one that is taken, if one is
pub record CandidateShown (a : Application) (age k : ℕ) : Type 0 where
  pub among : k < 3
  pub below : candidate_of a k < a.npa
  pub until : (age ≡ 0) ⊎ (candidate_of a k ≤ age)

-- L2: what is refused
pub record ReductionRefusals (a : Application) (n : ReductionNumbers) : Type 0 where
  -- where an input is out of range, 18 and nothing else,
  pub eighteen : (InRange a → ⊥) → n.refusal ≡ 18
  pub zeros : (InRange a → ⊥) → (n.age ≡ 0) × ((n.first ≡ 0) × ((n.second ≡ 0) × (n.third ≡ 0)))
  -- and no refusal anywhere else
  pub none : InRange a → n.refusal ≡ 0
  pub in_range : n.refusal ≡ 0 → InRange a

-- L4, L7 to L10: what an application is answered that is not refused
pub record ReductionAnswered (a : Application) (n : ReductionNumbers) : Type 0 where
  -- an age that is given is the earliest candidate that passes
  pub earliest : n.refusal ≡ 0 → (n.age ≡ 0 → ⊥) → EarliestPassing a n.age
  -- 0 is given just where none does
  pub no_scope : n.refusal ≡ 0 → n.age ≡ 0 → NonePassing a
  pub none_passes : n.refusal ≡ 0 → NonePassing a → n.age ≡ 0
  -- where A is 0 the first candidate is taken, whatever L is, and its B is given
  pub untested : n.refusal ≡ 0 → a.existing.0 ≡ 0 → (n.age ≡ candidate_of a 0) × (n.first ≡ potential_at a 0)
  -- B is given as far as the search went below NPA, else 0
  pub shown : n.refusal ≡ 0 → (k : ℕ) → CandidateShown a n.age k → given_for n k ≡ potential_at a k
  pub others : n.refusal ≡ 0 → (k : ℕ) → k < 3 → (CandidateShown a n.age k → ⊥) → given_for n k ≡ 0
  -- each lies within 2 pence of its exact value
  pub near : n.refusal ≡ 0 → (k : ℕ) → CandidateShown a n.age k → NearPotential 2 (years_to a k) a.pay (factor_of a k) (given_for n k)
