-- The rate of a table that is held in tenths of a pound.
-- Assumes nothing.
use mathlib.Core.Bool.{Bool, true, false}
use mathlib.Core.List.{List}
use mathlib.Core.Path.{◌≡◌, refl, sym, ap, ◌∙◌}
use Prim.Native.Nat.{ℕ}
use lib.ListN.{get_or-map}
use Rattle.common.specs.Choice.{pick}
use Rattle.scheme.specs.Scheme.{first_age, print_margin}
use Rattle.rates.specs.Rates.{table_of, cell_of, rate_of}
use Rattle.rates.proofs.Entries.{place_in}
use Rattle.rates.proofs.Lookups.{rate_chosen}
use Rattle.lookup.specs.Narrow.{tenths_in_pence}
use Rattle.lookup.specs.Tables.{table_in_pence}

chosen_in_pence : (b : Bool) (n : ℕ) → pick b 0 (tenths_in_pence n) ≡ tenths_in_pence (pick b 0 n)
chosen_in_pence true n = refl
chosen_in_pence false n = refl

-- the entry of a table made pence is the table's entry, made pence
pub cell_in_pence : (table : List ℕ) (age term : ℕ) → cell_of first_age print_margin (table_in_pence table) age term ≡ tenths_in_pence (cell_of first_age print_margin table age term)
unfolding cell_of
cell_in_pence table age term = rw (get_or-map tenths_in_pence table (place_in first_age age term) 0) (simp chosen_in_pence)

-- so an entry in tenths is the rate, where the table in pence is that of an option and a pension age
pub tenths_chosen : {r pension_age : ℕ} (table : List ℕ) (o p age term : ℕ) → pension_age ≡ p → table_in_pence table ≡ table_of o p
    → r ≡ cell_of first_age print_margin table age term → tenths_in_pence r ≡ rate_of o pension_age age term
tenths_chosen table o p age term ep et e = rate_chosen o p age term ep et (ap tenths_in_pence e ∙ sym (cell_in_pence table age term))
