-- "Paying off the rest", P1 to P6.
-- Assumes nothing.
use Rattle.std.specs.Prelude.{Bool, ◌||◌, Result, Ok, Err, List, ℕ, ◌+◌, ◌-◌, ltb, eqb}
use Rattle.common.specs.Choice.{pick}
use Rattle.scheme.specs.Scheme.{pounds_in_pence}
use Rattle.refusals.specs.declared.Refused.{Refused}
use Rattle.refusals.specs.Numbers.{refusal_number}
use Rattle.rates.specs.Rates.{lump_rate_of}
use Rattle.terms.specs.declared.Terms.{Terms}
use Rattle.terms.specs.Rules.{lacks_either}
use Rattle.settlement.specs.Settle.{settle_of}
use Rattle.pay_off.specs.declared.PayOff.{PayOff}
use Rattle.pay_off.specs.Cost.{increased_by, cost_of}

-- P1: what a pay-off gives, in numbers; refusal 0 is none
pub record PayOffNumbers : Type 0 where
  pub refusal : ℕ
  pub place : ℕ
  pub remaining : ℕ
  pub increased : ℕ
  pub cost : ℕ

-- P4, refusal 16: the status is 0 (no marks yet), 5 (refunded) or 6 (lump sum)
unfoldable pub nothing_to_pay_off : (status : ℕ) → Bool
nothing_to_pay_off status = eqb status 0 || (eqb status 5 || eqb status 6)

-- P5: the increases that are taken, in thousandths
abbrev pub least_increase : ℕ
least_increase = 1000

abbrev pub most_increase : ℕ
most_increase = 9999

-- P5, refusal 17: an increase that is not among them
unfoldable pub wrong_increase : (increase : ℕ) → Bool
wrong_increase increase = ltb increase least_increase || ltb most_increase increase

-- P3: the lump sum for £250 at a whole pension age: the contract's option, the age now
abbrev pub lump_sum_now : Terms → (age_now pension_age : ℕ) → ℕ
lump_sum_now t age_now pension_age = lump_rate_of t.option pension_age age_now

-- P6, refusal 5: none is printed at the only or lower pension age, or at the upper, which odd months need
unfoldable pub no_lump_sum_now : Terms → (age_now : ℕ) → Bool
no_lump_sum_now t age_now =
    lacks_either t (lump_sum_now t age_now t.pnpa_years) (lump_sum_now t age_now (t.pnpa_years + 1))

-- P4 to P6: what refuses to pay off a contract that Settle accepts: 16, 17, 5, in this order
unfoldable pub contract_refusal : Terms → (status age_now increase : ℕ) → ℕ
contract_refusal t status age_now increase =
    pick (nothing_to_pay_off status) 16 (pick (wrong_increase increase) 17 (pick (no_lump_sum_now t age_now) 5 0))

-- O1: a refusal, all other fields 0
abbrev pub refused_pay_off : (refusal place : ℕ) → PayOffNumbers
refused_pay_off n place = record { refusal = n; place = place; remaining = 0; increased = 0; cost = 0 }

-- P2: what remains of the amount, in pence, above a credit
abbrev pub remaining_of : Terms → (credit : ℕ) → ℕ
remaining_of t credit = pounds_in_pence t.amount - credit

-- P2, P3: what remains, the same increased, and its cost at the lump sums of the two pension ages
abbrev pub priced_pay_off : Terms → (credit lower upper increase : ℕ) → PayOffNumbers
priced_pay_off t credit lower upper increase =
    let increased = increased_by increase (remaining_of t credit) in
    record {
      refusal = 0;
      place = 0;
      remaining = remaining_of t credit;
      increased = increased;
      cost = cost_of increased lower upper t.pnpa_months;
    }

-- P1: a contract that Settle accepts, by its status and credit: a refusal, or what it costs at the age now
unfoldable pub contract_pay_off : Terms → (status credit age_now increase : ℕ) → PayOffNumbers
contract_pay_off t status credit age_now increase =
    pick (eqb (contract_refusal t status age_now increase) 0)
    (priced_pay_off t credit (lump_sum_now t age_now t.pnpa_years) (lump_sum_now t age_now (t.pnpa_years + 1)) increase)
    (refused_pay_off (contract_refusal t status age_now increase) 0)

-- P1, P4: Pay off: what Settle refuses is refused with Settle's number and place
unfoldable pub pay_off_of : Terms → (marks : List ℕ) → (age_now increase : ℕ) → PayOffNumbers
pay_off_of t marks age_now increase =
    let settled = settle_of t marks in
    pick (eqb settled.refusal 0) (contract_pay_off t settled.status settled.credit age_now increase)
    (refused_pay_off settled.refusal settled.place)

-- O2: the numbers of a pay-off that is not refused, and for each case of an answer
abbrev pub priced_numbers : PayOff → PayOffNumbers
priced_numbers p = record { refusal = 0; place = 0; remaining = p.remaining.0; increased = p.increased.0; cost = p.cost.0 }

abbrev pub numbers_of_pay_off : Result PayOff Refused → PayOffNumbers
numbers_of_pay_off (Err e) = refused_pay_off (refusal_number e.refusal) e.place
numbers_of_pay_off (Ok p) = priced_numbers p
