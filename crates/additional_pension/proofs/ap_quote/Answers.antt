-- `host::ap_quote` meets its contract: in a buffer that is long enough the numbers of Quote are stored.
-- Assumes nothing.
use Rattle.additional_pension.proofs.Calls.{quote_stored}
use Rattle.additional_pension.proofs.ap_quote.Goals as goal

pub returns : goal.returns
returns c =
    let r = quote_stored _ _ _ _ c.if-out-lt-QUOTE_BYTES.false c.quote.ensures.is c.quote_numbers-numbers.ensures c.put_all.ensures in
    record { value = r.0; buffer = r.1 }
