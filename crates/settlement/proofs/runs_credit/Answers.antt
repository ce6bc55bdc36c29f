-- `settlement::runs_credit` meets its contract: what it buys at the upper rate fits.
-- Assumes nothing.
use Rattle.settlement.proofs.Purchases.{upper_rate_asked}
use Rattle.settlement.proofs.runs_credit.Goals as goal

pub year_credits-upper_years-requires-clause-rate_nonzero : goal.year_credits-upper_years-requires-clause-rate_nonzero
year_credits-upper_years-requires-clause-rate_nonzero c =
    let e = c.args.e in
    (upper_rate_asked _ e.accepted c.requires.monthly e.looked_up c.in-Some.rate c.in-Some.is).1
