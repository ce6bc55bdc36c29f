-- "Schedule", O16 to O19.
-- Assumes nothing.
use Rattle.std.specs.Prelude.{Result, List, ◌++◌, ℕ, suc, ltb, eqb, length, take, drop}
use Rattle.common.specs.Choice.{pick}
use Rattle.common.specs.Table.{tabulate}
use Rattle.terms.specs.declared.Terms.{Terms}
use Rattle.settlement.specs.Settle.{settle_of}
use Rattle.refusals.specs.declared.Refused.{Refused}
use Rattle.refusals.specs.Places.{refused_in}

-- O16: an entry is Settle's credit for the marks up to and with its own
unfoldable pub entry_of : Terms → List ℕ → ℕ → ℕ
entry_of t marks i = (settle_of t (take (suc i) marks)).credit

-- O16: an entry for each mark; later entries keep their contents
unfoldable pub filled_of : Terms → List ℕ → List ℕ → List ℕ
filled_of t marks list = tabulate (entry_of t marks) 0 (length marks) ++ drop (length marks) list

-- O17: the answer, and what the lent list then holds
pub record ScheduleNumbers : Type 0 where
  pub refusal : ℕ
  pub place : ℕ
  pub list : List ℕ

-- O2, O17: the numbers of an answer, beside the list
abbrev pub numbers_of_schedule : Result Unit Refused → List ℕ → ScheduleNumbers
numbers_of_schedule r list = record { refusal = (refused_in r).refusal; place = (refused_in r).place; list = list }

-- O16 to O19: Settle's refusal with its place, then 14 for a list that is shorter than the marks; neither writes anything
unfoldable pub schedule_of : Terms → List ℕ → List ℕ → ScheduleNumbers
schedule_of t marks list =
    pick (eqb (settle_of t marks).refusal 0)
    (pick (ltb (length list) (length marks)) (record { refusal = 14; place = 0; list = list })
    (record { refusal = 0; place = 0; list = filled_of t marks list }))
    (record { refusal = (settle_of t marks).refusal; place = (settle_of t marks).place; list = list })
