-- `monthly::monthly_rate` meets its contract: any other option has no rates.
-- Assumes nothing.
use native.Mathlib.Omega.{arith}
use Rattle.rates.proofs.Lookups.{rate_no_table}
use Rattle.monthly.proofs.monthly_rate.Goals as goal

pub returns-in_default : goal.returns-in_default
returns-in_default c = rate_no_table _ _ _ _ (λ known. omega arith)
