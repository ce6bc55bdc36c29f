-- "The exact credit", E1 to E4: nothing here depends on a rounded figure.
-- Assumes nothing.
use Rattle.std.specs.Prelude.{Bool, true, false, List, [], ◌∷◌, ℕ, zero, suc, ◌-◌, ◌/◌}
use Rattle.common.specs.Calendar.{months_in_year}
use Rattle.years.specs.Years.{Purchase, own_contribution}
use Rattle.credit.specs.Runs.{paid_flags}
use Rattle.distance.specs.Fraction.{Fraction, ◌over◌, ◌plus◌, ◌minus◌, ◌times◌, ◌divided_by◌}

-- E2: Exact year n: the unit times the quotient of the table's own contribution by its rate at n; nothing at n = 0. Not for n past the term.
unfoldable pub exact_year : Purchase → (n : ℕ) → Fraction
exact_year p zero = 0 over 1
exact_year p (suc n) = p.unit times (own_contribution p over p.rate (suc n))

-- E3: What a paid mark at an index, counted from 0, adds: a twelfth of the difference between the year it falls in and the one before.
unfoldable pub exact_month : Purchase → (index : ℕ) → Fraction
exact_month p index = (exact_year p (suc (index / months_in_year)) minus exact_year p (index / months_in_year)) divided_by months_in_year

-- E3: The sum over the marks from an index on: only a paid one adds, and each keeps its place.
unfoldable pub exact_from : Purchase → (index : ℕ) → List Bool → Fraction
exact_from p index [] = 0 over 1
exact_from p index (true ∷ ps) = exact_month p index plus exact_from p (suc index) ps
exact_from p index (false ∷ ps) = exact_from p (suc index) ps

-- E1: The exact credit of the marks in one table.
unfoldable pub exact_credit : Purchase → (marks : List ℕ) → Fraction
exact_credit p marks = exact_from p 0 (paid_flags marks)

-- E4: Odd months m: twelfths 12 − m of the lower table's figure and m of the upper's.
abbrev pub exact_blend : (m : ℕ) (lo hi : Fraction) → Fraction
exact_blend m lo hi = ((months_in_year - m) times lo plus m times hi) divided_by months_in_year
