-- "The calls of a host", O22 to O24, P9 and L11: the calls, and every byte of what they are lent.
-- Assumes nothing.
use Rattle.std.specs.Prelude.{List, [], ◌∷◌, ◌++◌, ℕ, ltb, length, drop}
use Rattle.common.specs.Choice.{pick}
use Rattle.terms.specs.declared.Terms.{Terms}
use Rattle.quotes.specs.Quote.{QuoteNumbers, quote_of}
use Rattle.settlement.specs.Settle.{SettleNumbers, settle_of}
use Rattle.pay_off.specs.PayOff.{PayOffNumbers, pay_off_of}
use Rattle.money.specs.Money.{pension}
use Rattle.reduction.specs.declared.Application.{Application}
use Rattle.reduction.specs.Answer.{ReductionNumbers, reduction_limit_of}
use Rattle.number_bytes.specs.Bytes.{in_bytes}

-- O22: the terms that a call's numbers stand for
abbrev pub terms_of : (age pnpa_years pnpa_months option payer term amount : ℕ) → Terms
terms_of age pnpa_years pnpa_months option payer term amount =
    record { age = age; pnpa_years = pnpa_years; pnpa_months = pnpa_months; option = option; payer = payer; term = term; amount = amount }

-- O22, L1: the application that a call's numbers stand for
abbrev pub application_of : (npa age pay erf1 erf2 erf3 existing limit : ℕ) → Application
application_of npa age pay erf1 erf2 erf3 existing limit =
    record {
      npa = npa;
      age = age;
      pay = pay;
      erfs = erf1 ∷ erf2 ∷ erf3 ∷ [];
      existing = pension existing;
      limit = pension limit;
    }

-- O23: the result of Quote: refusal, contribution, next number
unfoldable pub quote_bytes : QuoteNumbers → List ℕ
quote_bytes n = in_bytes (n.refusal ∷ n.contribution ∷ n.next ∷ [])

-- O23: the result of Settle: refusal, place, contribution, status, credit, refund
unfoldable pub settle_bytes : SettleNumbers → List ℕ
settle_bytes n = in_bytes (n.refusal ∷ n.place ∷ n.contribution ∷ n.status ∷ n.credit ∷ n.refund ∷ [])

-- P9: the result of the pay-off: refusal, place, remaining pension, increased pension, cost
unfoldable pub pay_off_bytes : PayOffNumbers → List ℕ
pay_off_bytes n = in_bytes (n.refusal ∷ n.place ∷ n.remaining ∷ n.increased ∷ n.cost ∷ [])

-- L11: the result of the reduction limit: refusal, age, the B of the three candidates
unfoldable pub reduction_bytes : ReductionNumbers → List ℕ
reduction_bytes n = in_bytes (n.refusal ∷ n.age ∷ n.first ∷ n.second ∷ n.third ∷ [])

-- O24: what a call gives: its value, and every byte of the lent buffer when it returns
pub record HostAnswer : Type 0 where
  pub value : ℕ
  pub buffer : List ℕ

-- O24: too short a buffer: 14, whatever else is wrong, and no byte changes; else the refusal, and only the first bytes change
unfoldable pub answer_in : (size refusal : ℕ) (result buffer : List ℕ) → HostAnswer
answer_in size refusal result buffer =
    pick (ltb (length buffer) size) (record { value = 14; buffer = buffer })
    (record { value = refusal; buffer = result ++ drop size buffer })

-- O22, O23: Quote for a host, whose register is its own: 24 bytes
unfoldable pub host_quote_of : Terms → (existing last : ℕ) → List ℕ → HostAnswer
host_quote_of t existing last buffer =
    answer_in 24 (quote_of t existing last).refusal (quote_bytes (quote_of t existing last)) buffer

-- O22, O23: Settle for a host: 48 bytes
unfoldable pub host_settle_of : Terms → (marks : List ℕ) → List ℕ → HostAnswer
host_settle_of t marks buffer = answer_in 48 (settle_of t marks).refusal (settle_bytes (settle_of t marks)) buffer

-- O22, P9: the pay-off for a host: 40 bytes
unfoldable pub host_pay_off_of : Terms → (marks : List ℕ) → (age_now increase : ℕ) → List ℕ → HostAnswer
host_pay_off_of t marks age_now increase buffer =
    answer_in 40 (pay_off_of t marks age_now increase).refusal (pay_off_bytes (pay_off_of t marks age_now increase)) buffer

-- O22, L11: the reduction limit for a host: 40 bytes
unfoldable pub host_reduction_limit_of : Application → List ℕ → HostAnswer
host_reduction_limit_of a buffer = answer_in 40 (reduction_limit_of a).refusal (reduction_bytes (reduction_limit_of a)) buffer
