-- A law of the statuses' numbers: two statuses have two numbers.
-- Assumes nothing.
use Rattle.std.proofs.Common.{◌≡◌, List, [], ◌∷◌, ℕ, refl, sym, ◌∙◌, ap, slice_index_or}
use Rattle.marks.specs.declared.statuses.Status.{Status}
use Rattle.marks.specs.declared.statuses.Status.TheVariants.{NoMarksYet, Paying, InGap, Complete, Ceased, Refunded, LumpSum}
use Rattle.marks.specs.Numbers.{status_number}

-- the statuses in the order of their numbers
abbrev in_order : List Status
in_order = NoMarksYet ∷ Paying ∷ InGap ∷ Complete ∷ Ceased ∷ Refunded ∷ LumpSum ∷ []

-- the status of a number
abbrev numbered : ℕ → Status
numbered n = slice_index_or in_order n LumpSum

numbered_back : (s : Status) → numbered (status_number s) ≡ s
numbered_back s =
    elim s as (λ s. numbered (status_number s) ≡ s) [
      | NoMarksYet ↦ refl
      | Paying ↦ refl
      | InGap ↦ refl
      | Complete ↦ refl
      | Ceased ↦ refl
      | Refunded ↦ refl
      | LumpSum ↦ refl
    ]

-- two statuses have two numbers
pub status_told : (r s : Status) → status_number r ≡ status_number s → r ≡ s
status_told r s e = sym (numbered_back r) ∙ ap numbered e ∙ numbered_back s
