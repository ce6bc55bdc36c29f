-- "Member total", O20 and O21.
-- Assumes nothing.
use Rattle.std.specs.Prelude.{Result, Ok, Err, Bool, false, ◌||◌, List, [], ◌∷◌, ℕ, suc, ◌+◌, ltb, length}
use Rattle.common.specs.Choice.{pick}
use Rattle.refusals.specs.declared.Refused.{Refused}
use Rattle.refusals.specs.Numbers.{refusal_number}
use Rattle.money.specs.Money.{pension}
use Rattle.money.specs.declared.PensionPence.{PensionPence}
use Rattle.records.specs.declared.Contract.{Contract}
use Rattle.records.specs.Record.{settled_record, bad_record}

-- O21: the most records of a total
abbrev pub most_records : ℕ
most_records = 64

-- O20: the credits of the records added up, an empty list giving 0
unfoldable pub credit_sum : List Contract → ℕ
credit_sum [] = 0
credit_sum (c ∷ cs) = (settled_record c).credit + credit_sum cs

-- O21: whether any of the records is bad
unfoldable pub any_bad : List Contract → Bool
any_bad [] = false
any_bad (c ∷ cs) = bad_record c || any_bad cs

-- O21: how many records stand before the first bad one
unfoldable pub first_bad_record : List Contract → ℕ
first_bad_record [] = 0
first_bad_record (c ∷ cs) = pick (bad_record c) 0 (suc (first_bad_record cs))

-- O20, O21: the refusal of a total, 0 for success, the index of the first bad record, and the credit
pub record TotalNumbers : Type 0 where
  pub refusal : ℕ
  pub index : ℕ
  pub credit : PensionPence

-- O21: a refusal with an index; the total is then 0
abbrev pub refused_total : ℕ → ℕ → TotalNumbers
refused_total n i = record { refusal = n; index = i; credit = pension 0 }

-- O20: success; the index is then 0
abbrev pub totalling : ℕ → TotalNumbers
totalling sum = record { refusal = 0; index = 0; credit = pension sum }

-- O20, O21: a longer list of records is refused unseen; then the first bad record is named; else the credits are added up
unfoldable pub member_total_of : List Contract → TotalNumbers
member_total_of cs =
    pick (ltb most_records (length cs)) (refused_total 14 0)
    (pick (any_bad cs) (refused_total 13 (first_bad_record cs)) (totalling (credit_sum cs)))

-- O2: the numbers for each case of an answer
abbrev pub numbers_of_total : Result PensionPence Refused → TotalNumbers
numbers_of_total (Err e) = refused_total (refusal_number e.refusal) e.place
numbers_of_total (Ok credit) = record { refusal = 0; index = 0; credit = credit }
