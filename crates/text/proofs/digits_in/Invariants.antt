-- `text::digits_in` meets its contract. The invariant: the digits passed say the value.
-- Assumes nothing.
use Rattle.std.proofs.Common.{◌≡◌, ◌≤◌, drop}
use Rattle.text.specs.Field.{digits_of}
use Rattle.text.proofs.digits_in.Given as goal

abbrev pub invariant-loop-b : goal.invariant-loop-b
invariant-loop-b l = (l.value ≤ 999999999) × (digits_of l.value (drop l.b-index l.part) ≡ digits_of 0 l.part)
