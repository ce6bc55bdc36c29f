-- "Terms of an election", T5, and "Marks and status", M15: the kind of a contract, and how many marks it takes.
-- Assumes nothing.
use Rattle.std.specs.Prelude.{Bool, true, false, ℕ, ◌*◌, eqb}
use Rattle.common.specs.Choice.{pick}
use Rattle.common.specs.Calendar.{months_in_year}
use Rattle.scheme.specs.Scheme.{lump_sum_marks}
use Rattle.marks.specs.declared.kinds.Kind.{Kind}
use Rattle.marks.specs.declared.kinds.Kind.TheVariants.{Monthly, AtOnce}

-- T5: a contract with a term in years is paid by the month; one without is paid for at once, by a lump sum
unfoldable pub kind_of : (term : ℕ) → Kind
kind_of term = pick (eqb term 0) AtOnce Monthly

-- T5: whether a contract is paid by the month
abbrev pub is_monthly : Kind → Bool
is_monthly Monthly = true
is_monthly AtOnce = false

-- M15, O9: the most marks: one for each month of a term in years, and of a lump sum those of its first year
unfoldable pub mark_limit : (term : ℕ) → ℕ
mark_limit term = pick (eqb term 0) lump_sum_marks (months_in_year * term)
