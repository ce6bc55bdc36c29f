-- "The calls of a host", O22, O23, P9 and L11: what a host reads out of the bytes.
-- Assumes nothing.
use Rattle.std.specs.Prelude.{List, [], ◌∷◌, ◌≡◌, ℕ, ◌+◌, ◌*◌, take, drop}
use Rattle.quotes.specs.Quote.{QuoteNumbers}
use Rattle.settlement.specs.Settle.{SettleNumbers}
use Rattle.pay_off.specs.PayOff.{PayOffNumbers}
use Rattle.reduction.specs.Answer.{ReductionNumbers}

-- O22: the number that bytes stand for, low byte first
unfoldable pub number_in_bytes : List ℕ → ℕ
number_in_bytes [] = 0
number_in_bytes (b ∷ bytes) = b + 256 * number_in_bytes bytes

-- O22: the 8-byte number that stands in a buffer from an index on
unfoldable pub number_at : List ℕ → ℕ → ℕ
number_at buffer i = number_in_bytes (take 8 (drop i buffer))

-- O23: a buffer that holds the numbers of a quote
pub record QuoteRead (buffer : List ℕ) (n : QuoteNumbers) : Type 0 where
  pub refusal : number_at buffer 0 ≡ n.refusal
  pub contribution : number_at buffer 8 ≡ n.contribution
  pub next : number_at buffer 16 ≡ n.next

-- O23: a buffer that holds the numbers of a settlement
pub record SettleRead (buffer : List ℕ) (n : SettleNumbers) : Type 0 where
  pub refusal : number_at buffer 0 ≡ n.refusal
  pub place : number_at buffer 8 ≡ n.place
  pub contribution : number_at buffer 16 ≡ n.contribution
  pub status : number_at buffer 24 ≡ n.status
  pub credit : number_at buffer 32 ≡ n.credit
  pub refund : number_at buffer 40 ≡ n.refund

-- P9: a buffer that holds the numbers of a pay-off
pub record PayOffRead (buffer : List ℕ) (n : PayOffNumbers) : Type 0 where
  pub refusal : number_at buffer 0 ≡ n.refusal
  pub place : number_at buffer 8 ≡ n.place
  pub remaining : number_at buffer 16 ≡ n.remaining
  pub increased : number_at buffer 24 ≡ n.increased
  pub cost : number_at buffer 32 ≡ n.cost

-- L11: a buffer that holds the numbers of a reduction limit
pub record ReductionRead (buffer : List ℕ) (n : ReductionNumbers) : Type 0 where
  pub refusal : number_at buffer 0 ≡ n.refusal
  pub age : number_at buffer 8 ≡ n.age
  pub first : number_at buffer 16 ≡ n.first
  pub second : number_at buffer 24 ≡ n.second
  pub third : number_at buffer 32 ≡ n.third
