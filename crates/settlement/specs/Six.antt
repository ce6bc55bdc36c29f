-- Not rules: the six numbers that the code hands on, read as the numbers of a settlement.
-- Assumes nothing.
use Rattle.settlement.specs.declared.SixNumbers.{SixNumbers}
use Rattle.settlement.specs.Settle.{SettleNumbers}

abbrev pub as_settle_numbers : SixNumbers → SettleNumbers
as_settle_numbers n =
    record {
      refusal = n.refusal;
      place = n.place;
      contribution = n.contribution;
      status = n.status;
      credit = n.credit;
      refund = n.refund;
    }
