-- Bytes that are read back: eight of them lose nothing of a 64-bit number, and a buffer after a call holds the operation's numbers.
-- Assumes nothing.
use mathlib.Core.List.{List, ◌++◌}
use mathlib.Core.Path.{◌≡◌, refl, subst}
use Prim.Native.Nat.{ℕ, zero, suc, ◌/◌, ◌^◌, ◌≤◌, ◌<◌}
use native.Mathlib.Nat.{pow-suc}
use native.Mathlib.Omega.{arith}
use lib.ListN.{length, drop}
use Rattle.terms.specs.declared.Terms.{Terms}
use Rattle.quotes.specs.Quote.{QuoteNumbers, quote_of}
use Rattle.quotes.specs.Bounds.{QuoteBounds}
use Rattle.quotes.proofs.Bounds.{quote_bounds}
use Rattle.settlement.specs.Settle.{SettleNumbers, settle_of}
use Rattle.settlement.specs.Bounds.{SettleBounds}
use Rattle.settlement.proofs.Bounds.{settle_bounds}
use Rattle.pay_off.specs.PayOff.{PayOffNumbers, pay_off_of}
use Rattle.pay_off.specs.Bounds.{PayOffBounds}
use Rattle.pay_off.proofs.Bounds.{pay_off_bounds}
use Rattle.reduction.specs.declared.Application.{Application}
use Rattle.reduction.specs.Answer.{ReductionNumbers, reduction_limit_of}
use Rattle.reduction.specs.Bounds.{ReductionBounds}
use Rattle.reduction.proofs.Bounds.{reduction_bounds}
use Rattle.number_bytes.specs.Bytes.{low_bytes, eight_bytes, in_bytes}
use Rattle.additional_pension.specs.Calls.{quote_bytes, settle_bytes, pay_off_bytes, reduction_bytes, host_quote_of, host_settle_of, host_pay_off_of, host_reduction_limit_of}
use Rattle.additional_pension.specs.ReadBack.{number_in_bytes, number_at, QuoteRead, SettleRead, PayOffRead, ReductionRead}
use Rattle.additional_pension.proofs.Calls.{quote_enough, settle_enough, pay_off_enough, reduction_enough}

low_back : (k n : ℕ) → n < 256 ^ k → number_in_bytes (low_bytes k n) ≡ n
unfolding number_in_bytes low_bytes
low_back zero n h = omega arith
low_back (suc k) n h =
    let less : n / 256 < 256 ^ k = omega (arith, rw pow-suc at h) in
    rw (low_back k (n / 256) less) (omega arith)

-- eight bytes give their number back
pub eight_back : (n : ℕ) → n < 2 ^ 64 → number_in_bytes (eight_bytes n) ≡ n
unfolding eight_bytes
eight_back n h = low_back 8 n h

quote_back : (n : QuoteNumbers) (rest : List ℕ) → QuoteBounds n → QuoteRead (quote_bytes n ++ rest) n
unfolding quote_bytes in_bytes eight_bytes low_bytes number_at
quote_back n rest most =
    record {
      refusal = eight_back n.refusal (omega arith);
      contribution = eight_back n.contribution (omega arith);
      next = eight_back n.next (omega arith);
    }

settle_back : (n : SettleNumbers) (rest : List ℕ) → SettleBounds n → SettleRead (settle_bytes n ++ rest) n
unfolding settle_bytes in_bytes eight_bytes low_bytes number_at
settle_back n rest most =
    record {
      refusal = eight_back n.refusal (omega arith);
      place = eight_back n.place (omega arith);
      contribution = eight_back n.contribution (omega arith);
      status = eight_back n.status (omega arith);
      credit = eight_back n.credit (omega arith);
      refund = eight_back n.refund (omega arith);
    }

pay_off_back : (n : PayOffNumbers) (rest : List ℕ) → PayOffBounds n → PayOffRead (pay_off_bytes n ++ rest) n
unfolding pay_off_bytes in_bytes eight_bytes low_bytes number_at
pay_off_back n rest most =
    record {
      refusal = eight_back n.refusal (omega arith);
      place = eight_back n.place (omega arith);
      remaining = eight_back n.remaining (omega arith);
      increased = eight_back n.increased (omega arith);
      cost = eight_back n.cost (omega arith);
    }

reduction_back : (n : ReductionNumbers) (rest : List ℕ) → ReductionBounds n → ReductionRead (reduction_bytes n ++ rest) n
unfolding reduction_bytes in_bytes eight_bytes low_bytes number_at
reduction_back n rest most =
    record {
      refusal = eight_back n.refusal (omega arith);
      age = eight_back n.age (omega arith);
      first = eight_back n.first (omega arith);
      second = eight_back n.second (omega arith);
      third = eight_back n.third (omega arith);
    }

-- after a call with room for the result, the buffer holds the numbers of Quote
pub quote_reads : (t : Terms) (existing last : ℕ) (buffer : List ℕ) → 24 ≤ length buffer
    → QuoteRead (host_quote_of t existing last buffer).buffer (quote_of t existing last)
quote_reads t existing last buffer h =
    subst (λ (l : List ℕ). QuoteRead l (quote_of t existing last)) (quote_enough t existing last buffer h refl (refl, refl)).1
    (quote_back (quote_of t existing last) (drop 24 buffer) (quote_bounds t existing last))

-- and of Settle, likewise
pub settle_reads : (t : Terms) (marks buffer : List ℕ) → 48 ≤ length buffer
    → SettleRead (host_settle_of t marks buffer).buffer (settle_of t marks)
settle_reads t marks buffer h =
    subst (λ (l : List ℕ). SettleRead l (settle_of t marks)) (settle_enough t marks buffer h refl (refl, refl)).1
    (settle_back (settle_of t marks) (drop 48 buffer) (settle_bounds t marks))

-- and of the pay-off
pub pay_off_reads : (t : Terms) (marks : List ℕ) (age_now increase : ℕ) (buffer : List ℕ) → 40 ≤ length buffer
    → PayOffRead (host_pay_off_of t marks age_now increase buffer).buffer (pay_off_of t marks age_now increase)
pay_off_reads t marks age_now increase buffer h =
    subst (λ (l : List ℕ). PayOffRead l (pay_off_of t marks age_now increase)) (pay_off_enough t marks age_now increase buffer h refl (refl, refl)).1
    (pay_off_back (pay_off_of t marks age_now increase) (drop 40 buffer) (pay_off_bounds t marks age_now increase))

-- and of the reduction limit
pub reduction_reads : (a : Application) (buffer : List ℕ) → 40 ≤ length buffer → ReductionRead (host_reduction_limit_of a buffer).buffer (reduction_limit_of a)
reduction_reads a buffer h =
    subst (λ (l : List ℕ). ReductionRead l (reduction_limit_of a)) (reduction_enough a buffer h refl (refl, refl)).1
    (reduction_back (reduction_limit_of a) (drop 40 buffer) (reduction_bounds a))
