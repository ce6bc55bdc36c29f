-- `lookup::rate_in` meets its contract: the entry of the table made pence, and none without a table.
-- Assumes nothing.
use mathlib.Core.Path.{sym, ap, ◌∙◌}
use Rattle.scheme.specs.Scheme.{first_age, print_margin}
use Rattle.rates.proofs.Entries.{entry_none}
use Rattle.lookup.specs.Narrow.{tenths_in_pence}
use Rattle.lookup.proofs.Tenths.{cell_in_pence}
use Rattle.lookup.proofs.rate_in.Goals as goal

pub returns-in-Some : goal.returns-in-Some
returns-in-Some c = rw c.in-Some.is (c.tenths_in_pence.ensures ∙ ap tenths_in_pence c.entry.ensures ∙ sym (cell_in_pence _ _ _))

pub returns-in-None : goal.returns-in-None
returns-in-None c = rw c.in-None.is (sym (entry_none first_age print_margin _ _))
