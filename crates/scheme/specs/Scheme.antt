-- A5, T5 to T7, R3, C5, M3, M12, M15 and O11: the numbers of the scheme by name.
-- Assumes nothing.
use Rattle.std.specs.Prelude.{ℕ, suc, ◌*◌}
use Rattle.common.specs.Calendar.{months_in_year}

-- T6: pounds of pension a year that a rate is for: pension is sold in such steps
abbrev pub step_pounds : ℕ
step_pounds = 250

-- T7: the most pounds of pension a year that may be held
abbrev pub cap_pounds : ℕ
cap_pounds = 6500

-- A5: pounds in pence, and so both of these
abbrev pub pounds_in_pence : ℕ → ℕ
pounds_in_pence pounds = pounds * 100

abbrev pub step_pence : ℕ
step_pence = pounds_in_pence step_pounds

abbrev pub cap_pence : ℕ
cap_pence = pounds_in_pence cap_pounds

-- T5, O11: the longest term, in years, and the most marks that it has
abbrev pub longest_term : ℕ
longest_term = 20

abbrev pub most_marks : ℕ
most_marks = months_in_year * longest_term

-- C5: the places of a row of whole-year credits: the start, and each year of the longest term
abbrev pub row_places : ℕ
row_places = suc longest_term

-- M3: how many missed months in a row leave a contract open: a payment is still taken after them
abbrev pub open_months : ℕ
open_months = 11

-- M12: the months up to the last paid one from which on a contract that has stopped is ceased and not refunded
abbrev pub ceased_from : ℕ
ceased_from = 12

-- M15: the most marks of a lump sum, those of the first year: it goes back to a member who leaves within it
abbrev pub lump_sum_marks : ℕ
lump_sum_marks = months_in_year

-- R3: the print rule of the monthly tables: the first age, and the years that at least lie between the end of the term and the pension age
abbrev pub first_age : ℕ
first_age = 16

abbrev pub print_margin : ℕ
print_margin = 1
