-- Not rules: what the check of a record answers, which posting and the total both go by.
-- Assumes nothing.
use Rattle.std.specs.Prelude.{Result, Ok, Err, ℕ}
use Rattle.common.specs.Choice.{pick}
use Rattle.refusals.specs.declared.Refusal.{Refusal}
use Rattle.refusals.specs.Numbers.{refusal_number}
use Rattle.money.specs.Money.{pension}
use Rattle.money.specs.declared.PensionPence.{PensionPence}
use Rattle.records.specs.declared.Contract.{Contract}
use Rattle.records.specs.Record.{settled_record, bad_record}

-- the refusal of a record, 0 for none, and its credit
pub record CheckNumbers : Type 0 where
  pub refusal : ℕ
  pub credit : PensionPence

-- of a bad record
abbrev pub bad_check : CheckNumbers
bad_check = record { refusal = 13; credit = pension 0 }

-- of a record with so many pence of credit
abbrev pub credited : ℕ → CheckNumbers
credited n = record { refusal = 0; credit = pension n }

-- of any record: 13 for a bad one, else the credit that Settle gives
unfoldable pub check_of : Contract → CheckNumbers
check_of c = pick (bad_record c) bad_check (credited (settled_record c).credit)

-- the numbers of the code's answer
abbrev pub check_in : Result PensionPence Refusal → CheckNumbers
check_in (Err r) = record { refusal = refusal_number r; credit = pension 0 }
check_in (Ok credit) = record { refusal = 0; credit = credit }
