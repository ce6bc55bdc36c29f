-- `election::Election::contribution` meets its contract: the cap allows what is accepted, and the rates are those of the terms.
-- Assumes nothing.
use native.Mathlib.Omega.{arith}
use Rattle.election.proofs.Election.contribution.Goals as goal

pub contribution-requires : goal.contribution-requires
contribution-requires c = (omega (arith, c.args.self.accepted.under_cap), c.args.self.looked_up)
