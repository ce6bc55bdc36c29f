-- "Settle", O9 and O10: what refuses marks, and where.
-- Assumes nothing.
use Rattle.std.specs.Prelude.{not, ◌||◌, List, [], ◌∷◌, ◌++◌, ℕ, ltb, eqb, length}
use Rattle.common.specs.Choice.{pick}
use Rattle.refusals.specs.Places.{RefusedAt, refusing}
use Rattle.marks.specs.declared.kinds.Kind.{Kind}
use Rattle.marks.specs.Kind.{kind_of, is_monthly, mark_limit}
use Rattle.marks.specs.Counts.{last_or, final_gap}

-- M1 to M4, M15, O9: the refusal of a mark m after the marks before it, 0 for none: 11 above 2; 12 for a 0 or 1 after a 2, for a 0 that
-- stands first or is a lump sum's, and for a 1 after more missed months than leave the contract open
unfoldable pub mark_refusal : (kind : Kind) (open_months : ℕ) (before : List ℕ) (m : ℕ) → ℕ
mark_refusal kind open_months before m =
    pick (ltb 2 m) 11
    (pick (eqb m 2) 0
    (pick (eqb (last_or 0 before) 2) 12
    (pick (eqb m 1) (pick (ltb open_months (final_gap before)) 12 0)
    (pick (eqb (length before) 0 || not (is_monthly kind)) 12 0))))

-- O9, O10: the first bad one of the marks that follow those before them, with its index; 0 and 0 where none is bad
unfoldable pub first_refusal : (kind : Kind) (open_months : ℕ) (before marks : List ℕ) → RefusedAt
first_refusal kind open_months before [] = refusing 0 0
first_refusal kind open_months before (m ∷ ms) =
    pick (eqb (mark_refusal kind open_months before m) 0) (first_refusal kind open_months (before ++ (m ∷ [])) ms)
    (refusing (mark_refusal kind open_months before m) (length before))

-- O9: 10 for too many marks under a term in years, 0 for a lump sum, before any is looked at; then the first bad mark
unfoldable pub marks_refusal : (open_months term : ℕ) (marks : List ℕ) → RefusedAt
marks_refusal open_months term ms =
    pick (ltb (mark_limit term) (length ms)) (refusing 10 0) (first_refusal (kind_of term) open_months [] ms)
