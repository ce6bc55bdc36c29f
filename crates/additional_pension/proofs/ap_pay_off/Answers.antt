-- `host::ap_pay_off` meets its contract: in a buffer that is long enough the numbers of the pay-off are stored.
-- Assumes nothing.
use Rattle.additional_pension.proofs.Calls.{pay_off_stored}
use Rattle.additional_pension.proofs.ap_pay_off.Goals as goal

pub returns : goal.returns
returns c =
    let r = pay_off_stored _ _ _ _ _ c.if-out-lt-PAY_OFF_BYTES.false c.pay_off.ensures.is c.pay_off_numbers-numbers.ensures
    c.put_all.ensures in
    record { value = r.0; buffer = r.1 }
