-- Laws of the refusals' numbers: none is 0, and two rules have two numbers.
use Rattle.std.proofs.Common.{◌≡◌, ◌<◌, List, [], ◌∷◌, ℕ, ◌-◌, refl, sym, ◌∙◌, ap, lit<, slice_index_or}
use Rattle.refusals.specs.declared.Refusal.{Refusal}
use Rattle.refusals.specs.declared.Refusal.TheVariants.{WrongOption, WrongPensionAge, WrongTerm, WrongPayer, NoRate, NoUpperRate, WrongAmount, AboveCap, NoNumberLeft, TooManyMarks, UnknownMark, UnlawfulMark, BadRecord, WrongLength, WrongShape, NothingToPayOff, WrongIncrease, OutOfRange}
use Rattle.refusals.specs.Numbers.{refusal_number}

-- no rule has the number 0, which says that none refuses
pub refusal_positive : (r : Refusal) → 0 < refusal_number r
refusal_positive r =
    elim r as (λ r. 0 < refusal_number r) [
      | WrongOption ↦ lit< tt
      | WrongPensionAge ↦ lit< tt
      | WrongTerm ↦ lit< tt
      | WrongPayer ↦ lit< tt
      | NoRate ↦ lit< tt
      | NoUpperRate ↦ lit< tt
      | WrongAmount ↦ lit< tt
      | AboveCap ↦ lit< tt
      | NoNumberLeft ↦ lit< tt
      | TooManyMarks ↦ lit< tt
      | UnknownMark ↦ lit< tt
      | UnlawfulMark ↦ lit< tt
      | BadRecord ↦ lit< tt
      | WrongLength ↦ lit< tt
      | WrongShape ↦ lit< tt
      | NothingToPayOff ↦ lit< tt
      | WrongIncrease ↦ lit< tt
      | OutOfRange ↦ lit< tt
    ]

-- the rules in the order of their numbers
abbrev in_order : List Refusal
in_order =
    WrongOption ∷ WrongPensionAge ∷ WrongTerm ∷ WrongPayer ∷ NoRate ∷ NoUpperRate ∷ WrongAmount ∷ AboveCap ∷ NoNumberLeft ∷ TooManyMarks
    ∷ UnknownMark ∷ UnlawfulMark ∷ BadRecord ∷ WrongLength ∷ WrongShape ∷ NothingToPayOff ∷ WrongIncrease ∷ OutOfRange ∷ []

-- the rule of a number
abbrev numbered : ℕ → Refusal
numbered n = slice_index_or in_order (n - 1) OutOfRange

numbered_back : (r : Refusal) → numbered (refusal_number r) ≡ r
numbered_back r =
    elim r as (λ r. numbered (refusal_number r) ≡ r) [
      | WrongOption ↦ refl
      | WrongPensionAge ↦ refl
      | WrongTerm ↦ refl
      | WrongPayer ↦ refl
      | NoRate ↦ refl
      | NoUpperRate ↦ refl
      | WrongAmount ↦ refl
      | AboveCap ↦ refl
      | NoNumberLeft ↦ refl
      | TooManyMarks ↦ refl
      | UnknownMark ↦ refl
      | UnlawfulMark ↦ refl
      | BadRecord ↦ refl
      | WrongLength ↦ refl
      | WrongShape ↦ refl
      | NothingToPayOff ↦ refl
      | WrongIncrease ↦ refl
      | OutOfRange ↦ refl
    ]

-- two rules have two numbers
pub refusal_told : (r s : Refusal) → refusal_number r ≡ refusal_number s → r ≡ s
refusal_told r s e = sym (numbered_back r) ∙ ap numbered e ∙ numbered_back s
