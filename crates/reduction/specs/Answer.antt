-- "The reduction buy-out limit", L10, with L1, L2 and L12: what it gives.
-- Assumes nothing.
use Rattle.std.specs.Prelude.{Bool, false, ◌&&◌, ◌||◌, ℕ, leb, eqb, List, is_some, unwrap_or, Result, Ok, Err, slice_index_or}
use Rattle.common.specs.Choice.{pick}
use Rattle.refusals.specs.declared.Refusal.{Refusal}
use Rattle.refusals.specs.Numbers.{refusal_number}
use Rattle.money.specs.declared.PensionPence.{PensionPence}
use Rattle.money.specs.Money.{pension}
use Rattle.reduction.specs.declared.Application.{Application}
use Rattle.reduction.specs.declared.ReductionLimit.{ReductionLimit}
use Rattle.reduction.specs.Range.{out_of_range}
use Rattle.reduction.specs.Search.{candidate_of, potential_at, candidate_is_taken, below_npa, search_by}

-- L10: the refusal, 0 none; the age, 0 for no scope; and the B of the three candidates
pub record ReductionNumbers : Type 0 where
  pub refusal : ℕ
  pub age : ℕ
  pub first : ℕ
  pub second : ℕ
  pub third : ℕ

-- L10: by the age that the search gives, 0 for none: B of candidate k if it is below NPA and not after the one taken; else 0
unfoldable pub potential_shown : Application → (age k : ℕ) → ℕ
potential_shown a age k = pick (below_npa a k && (eqb age 0 || leb (candidate_of a k) age)) (potential_at a k) 0

-- L10: what is answered by that age
abbrev pub found_reduction : Application → (age : ℕ) → ReductionNumbers
found_reduction a age =
    record { refusal = 0; age = age; first = potential_shown a age 0; second = potential_shown a age 1; third = potential_shown a age 2 }

-- O1: a refusal, all other fields 0
abbrev pub refused_with : (refusal : ℕ) → ReductionNumbers
refused_with refusal = record { refusal = refusal; age = 0; first = 0; second = 0; third = 0 }

-- L2: 18
abbrev pub refused_reduction : ReductionNumbers
refused_reduction = refused_with 18

-- L2, L9, L12: the reduction limit by a test of the three candidates; 18 comes before anything else
unfoldable pub reduction_by : (taken : ℕ → Bool) → Application → ReductionNumbers
reduction_by taken a = pick (out_of_range a) refused_reduction (found_reduction a (search_by taken a 0 3))

-- L1, L7 to L10: the reduction limit: by B < C
unfoldable pub reduction_limit_of : Application → ReductionNumbers
reduction_limit_of a = reduction_by (candidate_is_taken a) a

-- L10: B of candidate k among those that an answer holds
abbrev pub potential_held : List PensionPence → (k : ℕ) → ℕ
potential_held p k = (slice_index_or p k (pension 0)).0

-- L10: an age, or 0, with three B
abbrev pub answered_reduction : (age : ℕ) → List PensionPence → ReductionNumbers
answered_reduction age p =
    record { refusal = 0; age = age; first = potential_held p 0; second = potential_held p 1; third = potential_held p 2 }

-- O2: the numbers for each case of an answer: an age of 0 says that there is none
abbrev pub numbers_of_reduction : Result ReductionLimit Refusal → ReductionNumbers
numbers_of_reduction (Ok r) = answered_reduction (unwrap_or r.age 0) r.potentials
numbers_of_reduction (Err e) = refused_with (refusal_number e)

-- O2, L10: whether an answer has an age
abbrev pub has_scope : Result ReductionLimit Refusal → Bool
has_scope (Ok r) = is_some r.age
has_scope (Err e) = false
