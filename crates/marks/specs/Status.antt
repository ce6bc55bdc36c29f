-- "Marks and status", M8 to M14 and M16: the status of a contract, 0 to 6.
-- Assumes nothing.
use Rattle.std.specs.Prelude.{◌&&◌, List, ℕ, ◌*◌, ltb, leb, eqb, length}
use Rattle.common.specs.Choice.{pick}
use Rattle.common.specs.Calendar.{months_in_year}
use Rattle.scheme.specs.Scheme.{ceased_from}
use Rattle.marks.specs.Counts.{last_or, are_all_paid, has_ended, paid_through, final_gap}

-- M12, M13: a contract that has stopped is ceased or refunded, by b
unfoldable pub stopped_of : (b : ℕ) → ℕ
stopped_of b = pick (leb ceased_from b) 4 5

-- M8 to M14, M16: the status under a term in years, 0 for a lump sum, of lawful marks
unfoldable pub status_of : (open_months term : ℕ) (marks : List ℕ) → ℕ
status_of open_months term ms =
    pick (eqb term 0) (pick (has_ended ms) 5 6)
    (pick (eqb (length ms) 0) 0
    (pick (ltb (length ms) (months_in_year * term) && eqb (last_or 0 ms) 1) 1
    (pick (ltb (length ms) (months_in_year * term) && (leb 1 (final_gap ms) && leb (final_gap ms) open_months)) 2
    (pick (eqb (length ms) (months_in_year * term) && are_all_paid ms) 3
    (stopped_of (paid_through ms))))))
