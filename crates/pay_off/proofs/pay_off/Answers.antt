-- `pay_off::pay_off` meets its contract: what holds of the defined numbers holds of those that are priced.
-- Assumes nothing.
use native.Mathlib.Omega.{arith}
use Rattle.common.proofs.Tests.{tests}
use Rattle.pay_off.proofs.Contract.{contract_priced, price_is}
use Rattle.pay_off.proofs.Laws.{contract_decides}
use Rattle.pay_off.proofs.Settled.{settles, same_status, same_credit}
use Rattle.pay_off.proofs.Clauses.{same_pay_off_priced}
use Rattle.pay_off.proofs.pay_off.Goals as goal

pub returns-clause-priced : goal.returns-clause-priced
returns-clause-priced c =
    let a = c.args in
    same_pay_off_priced a.t a.marks.now a.age_now a.increase _
    (grind (arith, tests, settles, same_status, same_credit, contract_decides, contract_priced, price_is))
