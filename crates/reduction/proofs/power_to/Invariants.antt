-- `reduction::power_to` meets its contract. The loop's invariant: it holds the power of the years passed.
-- Assumes nothing.
use mathlib.Core.Path.{◌≡◌}
use Rattle.reduction.specs.Power.{power_of}
use Rattle.reduction.proofs.power_to.Given as goal

abbrev pub invariant-loop : goal.invariant-loop
invariant-loop l = l.power ≡ power_of l.counter
