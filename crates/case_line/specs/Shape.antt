-- "The case file", F3 and F4: what a line says.
-- Assumes nothing.
use Rattle.std.specs.Prelude.{Bool, true, false, List, [], ◌∷◌, Option, Some, None, ℕ, ◌-◌, ltb, take, drop}
use Rattle.common.specs.Choice.{pick}
use Rattle.text.specs.Field.{field_of}
use Rattle.case_line.specs.declared.Case.{Case}

-- F3: the columns from a to b, counted from 1
abbrev pub columns : ℕ → ℕ → List ℕ → List ℕ
columns a b line = take (b - (a - 1)) (drop (a - 1) line)

-- F4: nothing, a wrong shape, where a field says no number, else what follows from its number
abbrev pub on_number : Option ℕ → (ℕ → Option Case) → Option Case
on_number (Some n) next = next n
on_number None next = None

-- F3: the eight fields in their columns
unfoldable pub fields_of : List ℕ → Option Case
fields_of line =
    on_number (field_of (columns 1 6 line)) (λ election.
    on_number (field_of (columns 7 9 line)) (λ age.
    on_number (field_of (columns 10 12 line)) (λ pnpa_years.
    on_number (field_of (columns 13 15 line)) (λ pnpa_months.
    on_number (field_of (columns 16 17 line)) (λ option.
    on_number (field_of (columns 18 19 line)) (λ payer.
    on_number (field_of (columns 20 22 line)) (λ term.
    on_number (field_of (columns 23 29 line)) (λ amount.
    Some (record {
      election = election;
      terms = record { age = age; pnpa_years = pnpa_years; pnpa_months = pnpa_months; option = option; payer = payer; term = term; amount = amount };
    })))))))))

-- F3, F4: from 30 the marks: digits, nothing between
unfoldable pub all_digits : List ℕ → Bool
all_digits [] = true
all_digits (b ∷ bs) = pick (ltb b 48) false (pick (ltb 57 b) false (all_digits bs))

-- F3: the numbers that the digits are
unfoldable pub marks_in : List ℕ → List ℕ
marks_in [] = []
marks_in (b ∷ bs) = (b - 48) ∷ marks_in bs
