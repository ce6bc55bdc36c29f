-- "Settle", O8 to O10, with M13, M14 and M16.
-- Assumes nothing.
use Rattle.std.specs.Prelude.{Result, Ok, Err, List, ℕ, ◌*◌, eqb}
use Rattle.common.specs.Choice.{pick}
use Rattle.scheme.specs.Scheme.{pounds_in_pence, open_months}
use Rattle.terms.specs.declared.Terms.{Terms}
use Rattle.election.specs.ContributionOf.{contribution_of}
use Rattle.refusals.specs.declared.Refused.{Refused}
use Rattle.refusals.specs.Numbers.{refusal_number}
use Rattle.marks.specs.Counts.{payments_of}
use Rattle.marks.specs.Numbers.{status_number}
use Rattle.marks.specs.Status.{status_of}
use Rattle.examination.specs.Refusal.{settle_refusal}
use Rattle.settlement.specs.declared.Settlement.{Settlement}
use Rattle.settlement.specs.Credit.{credit_of}

-- O8: what a settlement gives, in numbers; refusal 0 is none
pub record SettleNumbers : Type 0 where
  pub refusal : ℕ
  pub place : ℕ
  pub contribution : ℕ
  pub status : ℕ
  pub credit : ℕ
  pub refund : ℕ

-- M13, M14, M16: nothing when refunded; a lump sum is credited in full; else what the paid runs earned
unfoldable pub credit_at_status : Terms → (marks : List ℕ) (status : ℕ) → ℕ
credit_at_status t marks status = pick (eqb status 5) 0 (pick (eqb status 6) (pounds_in_pence t.amount) (credit_of t marks))

-- M13, M16: each contribution that was paid when refunded, for each paid month or the lump sum once, else nothing
unfoldable pub refund_at_status : Terms → (marks : List ℕ) (status : ℕ) → ℕ
refund_at_status t marks status = pick (eqb status 5) (contribution_of t * payments_of t.term marks) 0

-- O1: a refusal, all other fields 0
abbrev pub refused_settlement : (refusal place : ℕ) → SettleNumbers
refused_settlement n place =
    record { refusal = n; place = place; contribution = 0; status = 0; credit = 0; refund = 0 }

-- O8: terms and marks that are not refused
abbrev pub settled_numbers : Terms → (marks : List ℕ) → SettleNumbers
settled_numbers t marks =
    let status = status_of open_months t.term marks in
    record {
      refusal = 0;
      place = 0;
      contribution = contribution_of t;
      status = status;
      credit = credit_at_status t marks status;
      refund = refund_at_status t marks status;
    }

-- O8 to O10: Settle: the first refusal and its place, or the settlement
unfoldable pub settle_of : Terms → (marks : List ℕ) → SettleNumbers
settle_of t marks =
    pick (eqb (settle_refusal t marks).refusal 0) (settled_numbers t marks)
    (refused_settlement (settle_refusal t marks).refusal (settle_refusal t marks).place)

-- O2: the numbers for each case of an answer
abbrev pub numbers_of_settlement : Result Settlement Refused → SettleNumbers
numbers_of_settlement (Err e) = refused_settlement (refusal_number e.refusal) e.place
numbers_of_settlement (Ok s) =
    record {
      refusal = 0;
      place = 0;
      contribution = s.contribution.0;
      status = status_number s.status;
      credit = s.credit.0;
      refund = s.refund.0;
    }
