-- `money::Pence::blend` meets its contract: it is the blend of the numbers.
-- Assumes nothing.
use Rattle.std.proofs.Common.{refl}
use Rattle.rounding.specs.Nearest.{blend}
use Rattle.money.proofs.Pence.blend.Goals as goal

-- opened, so that the promise of a blend by another rounding is refused for the rounding alone
pub returns : goal.returns
unfolding blend
returns g c = rw (c.of_pence.ensures, c.blend.ensures, c.in_pence-lower.ensures, c.in_pence-upper.ensures) refl
