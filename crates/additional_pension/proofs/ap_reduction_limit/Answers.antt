-- `host::ap_reduction_limit` meets its contract: in a buffer that is long enough the numbers of the reduction limit are stored.
-- Assumes nothing.
use native.Mathlib.Omega.{arith}
use Rattle.additional_pension.proofs.Calls.{reduction_stored}
use Rattle.additional_pension.proofs.ap_reduction_limit.Goals as goal

pub returns : goal.returns
returns c =
    let r = reduction_stored _ _ (omega (arith, c.if-out-lt-REDUCTION_LIMIT_BYTES.false)) c.reduction_limit.ensures.is c.reduction_numbers-numbers.ensures
    c.put_all.ensures in
    record { value = r.0; buffer = r.1 }
