-- "Post a month", O11 and O14: the contract record, and what makes one bad.
-- Assumes nothing.
use Rattle.std.specs.Prelude.{Bool, true, not, ◌&&◌, ◌||◌, List, [], ◌∷◌, ℕ, ltb, eqb, take, drop}
use Rattle.scheme.specs.Scheme.{most_marks}
use Rattle.settlement.specs.Settle.{SettleNumbers, settle_of}
use Rattle.records.specs.declared.Contract.{Contract}

-- O11: the marks of a record that its count says are there
abbrev pub used_marks : Contract → List ℕ
used_marks c = take c.count c.marks

-- O11: the other ones
abbrev pub unused_marks : Contract → List ℕ
unused_marks c = drop c.count c.marks

-- O14: Settle of the record as it is
abbrev pub settled_record : Contract → SettleNumbers
settled_record c = settle_of c.terms (used_marks c)

-- O14: whether every mark is 0
unfoldable pub all_zero : List ℕ → Bool
all_zero [] = true
all_zero (m ∷ ms) = eqb m 0 && all_zero ms

-- O14: what makes a record bad: its marks in use have to settle, its count has to fit, and the other marks are 0
unfoldable pub bad_record : Contract → Bool
bad_record c =
    not (eqb (settled_record c).refusal 0) || (ltb most_marks c.count || not (all_zero (unused_marks c)))
