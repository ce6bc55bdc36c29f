-- `money::Pence::combine` meets its contract: only odd months blend.
-- Assumes nothing.
use Rattle.std.proofs.Common.{sym, ap, ◌∙◌}
use Rattle.rounding.specs.Nearest.{blend}
use Rattle.rounding.proofs.Laws.{combine_none, combine_odd}
use Rattle.money.proofs.Pence.combine.Goals as goal

pub returns-then-m-eq0 : goal.returns-then-m-eq0
returns-then-m-eq0 g c =
    sym (g.met.Self.Pence.whole c.args.self) ∙ ap g.Self.Pence.of (sym (combine_none _ _ _ c.if-m-eq0.true))

-- opened as in `blend`
pub returns-else-m-eq0 : goal.returns-else-m-eq0
unfolding blend
returns-else-m-eq0 g c = c.blend.ensures ∙ ap g.Self.Pence.of (sym (combine_odd _ _ _ c.if-m-eq0.false))
