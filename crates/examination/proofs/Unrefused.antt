-- What a caller knows of an examination: whether it refuses, and of what is not refused that only a lump sum, at status 5 or 6, has no years.
-- Assumes nothing.
use mathlib.Core.List.{List}
use mathlib.Core.Path.{◌≡◌, sym, ap}
use Prim.Native.Nat.{ℕ, ◌<◌}
use native.Mathlib.Omega.{arith}
use Rattle.scheme.specs.Scheme.{open_months}
use Rattle.refusals.specs.declared.Refused.{Refused}
use Rattle.refusals.specs.Numbers.{refusal_number}
use Rattle.refusals.specs.Places.{RefusedAt, refusing}
use Rattle.refusals.proofs.Numbers.{refusal_positive}
use Rattle.terms.specs.declared.Terms.{Terms}
use Rattle.marks.specs.Numbers.{status_number}
use Rattle.marks.proofs.StatusOf.{not_lump}
use Rattle.examination.specs.declared.Examined.{Examined}
use Rattle.examination.specs.Refusal.{settle_refusal}
use Rattle.examination.specs.Examine.{ExaminationOf}

module _ (t : Terms) (ms : List ℕ) where
  -- a refusal is one
  pub refusal_stands : (e : Refused) → refusing (refusal_number e.refusal) e.place ≡ settle_refusal t ms → (settle_refusal t ms).refusal ≡ 0 → ⊥
  refusal_stands e is z = omega (arith, refusal_positive e.refusal, ap (λ (r : RefusedAt). r.refusal) is, z)

  module _ (none : refusing 0 0 ≡ settle_refusal t ms) where
    -- and where there is none, nothing is refused
    pub unrefused : (settle_refusal t ms).refusal ≡ 0
    unrefused = sym (ap (λ (r : RefusedAt). r.refusal) none)

    pub examined_monthly : {e : Examined} → ExaminationOf t ms e → (status_number e.status ≡ 5 → ⊥) → (status_number e.status ≡ 6 → ⊥)
        → 0 < e.election.terms.term
    examined_monthly told five other = rw told.terms (not_lump open_months t.term ms (rw told.status at five) (rw told.status at other))
