-- "Figures at the edges", G6: lump sums by their marks, as figures.
-- Assumes nothing.
use Rattle.std.specs.Prelude.{List, [], ◌∷◌, ◌++◌, ℕ}
use Rattle.terms.specs.declared.Terms.{Terms}
use Rattle.rows.specs.Rows.{Row, ◌is◌, paid_for, settle_figures}

-- G6: £2,000 at once for £16,640 from age 40, with no dependant's pension, paid by the member or by the employer
abbrev pub at_once : (payer : ℕ) → Terms
at_once payer =
    record { age = 40; pnpa_years = 67; pnpa_months = 0; option = 1; payer = payer; term = 0; amount = 2000 }

-- G6: what is settled where the member stays, and where it goes back
abbrev pub in_full : List ℕ
in_full = 0 ∷ 0 ∷ 1664000 ∷ 6 ∷ 200000 ∷ 0 ∷ []

abbrev pub gone_back : List ℕ
gone_back = 0 ∷ 0 ∷ 1664000 ∷ 5 ∷ 0 ∷ 1664000 ∷ []

-- G6: what is refused, and where
abbrev pub turned_away : (refusal place : ℕ) → List ℕ
turned_away refusal place = refusal ∷ place ∷ 0 ∷ 0 ∷ 0 ∷ 0 ∷ []

-- G6: a member who stays, for no month and for the whole first year
unfoldable pub staying_rows : List Row
staying_rows =
    (settle_figures (at_once 1) [] is in_full)
    ∷ (settle_figures (at_once 1) (paid_for 12) is in_full)
    ∷ []

-- G6: one who leaves in the twelfth month and in the first, and one whose employer paid
unfoldable pub leaving_rows : List Row
leaving_rows =
    (settle_figures (at_once 1) (paid_for 11 ++ (2 ∷ [])) is gone_back)
    ∷ (settle_figures (at_once 1) (2 ∷ []) is gone_back)
    ∷ (settle_figures (at_once 2) (1 ∷ (2 ∷ [])) is gone_back)
    ∷ []

-- G6: thirteen marks, among them a bad one; a 0, first and later; a 1 after a 2; and a 3
unfoldable pub refused_lump_sum_rows : List Row
refused_lump_sum_rows =
    (settle_figures (at_once 1) (3 ∷ paid_for 12) is turned_away 10 0)
    ∷ (settle_figures (at_once 1) (0 ∷ []) is turned_away 12 0)
    ∷ (settle_figures (at_once 1) (paid_for 1 ++ (0 ∷ [])) is turned_away 12 1)
    ∷ (settle_figures (at_once 1) (2 ∷ (1 ∷ [])) is turned_away 12 1)
    ∷ (settle_figures (at_once 1) (paid_for 2 ++ (3 ∷ [])) is turned_away 11 2)
    ∷ []

-- G6: all of them
unfoldable pub lump_sum_rows : List Row
lump_sum_rows = staying_rows ++ (leaving_rows ++ refused_lump_sum_rows)
