-- "The case file", F2: the number that a field says. Spaces fill it on the left, and a number has one spelling only.
-- Assumes nothing.
use Rattle.std.specs.Prelude.{List, [], ◌∷◌, Option, Some, None, ℕ, ◌+◌, ◌*◌, ◌-◌, ltb, eqb}
use Rattle.common.specs.Choice.{pick}

-- F2: digits and nothing else, after those that say v; at most nine in all, and no field of the case file is so wide
unfoldable pub digits_of : ℕ → List ℕ → Option ℕ
digits_of v [] = Some v
digits_of v (b ∷ bs) =
    pick (ltb b 48) None
    (pick (ltb 57 b) None
    (pick (ltb 99999999 v) None
    (digits_of (v * 10 + (b - 48)) bs)))

-- F2: a first digit 0 is the only one
unfoldable pub zero_of : List ℕ → Option ℕ
zero_of [] = Some 0
zero_of (b ∷ bs) = None

-- F2: any number of spaces, then at least one digit
unfoldable pub field_of : List ℕ → Option ℕ
field_of [] = None
field_of (b ∷ bs) = pick (eqb b 32) (field_of bs) (pick (eqb b 48) (zero_of bs) (digits_of 0 (b ∷ bs)))
