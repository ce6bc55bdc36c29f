-- What a call of a host gives, with a shorter buffer and with one that holds the result.
-- Assumes nothing.
use mathlib.Core.List.{List, [], ◌∷◌, ◌++◌}
use mathlib.Core.Path.{◌≡◌, refl, ap, ◌∙◌}
use Prim.Native.Nat.{ℕ, ◌≤◌, ◌<◌}
use native.Mathlib.Omega.{arith}
use borrow.Author.Tests.{lt-ltb, le-ltb}
use lib.ListN.{length, get_or, drop}
use Rattle.number_bytes.specs.Stored.{stored_in}
use Rattle.number_bytes.proofs.Writing.{stored_front}
use Rattle.scheme.specs.Bounds.{last_quote_refusal, last_settle_refusal}
use Rattle.terms.specs.declared.Terms.{Terms}
use Rattle.quotes.specs.Quote.{QuoteNumbers, quote_of}
use Rattle.quotes.proofs.Bounds.{quote_bounds}
use Rattle.settlement.specs.Settle.{SettleNumbers, settle_of}
use Rattle.settlement.proofs.Bounds.{settle_bounds}
use Rattle.pay_off.specs.PayOff.{PayOffNumbers, pay_off_of}
use Rattle.pay_off.proofs.Bounds.{pay_off_bounds}
use Rattle.reduction.specs.declared.Application.{Application}
use Rattle.reduction.specs.Answer.{ReductionNumbers, reduction_limit_of}
use Rattle.reduction.proofs.Bounds.{reduction_bounds}
use Rattle.additional_pension.specs.Calls.{answer_in, quote_bytes, settle_bytes, pay_off_bytes, reduction_bytes, host_quote_of, host_settle_of, host_pay_off_of, host_reduction_limit_of}

short : (size refusal : ℕ) (result buffer : List ℕ) → length buffer < size
    → (14 ≡ (answer_in size refusal result buffer).value) × (buffer ≡ (answer_in size refusal result buffer).buffer)
unfolding answer_in
short size refusal result buffer h = rw (lt-ltb (length buffer) size h) (refl, refl)

-- where n is the operation's answer m
enough : {A : Type 0} (refusal : A → ℕ) (bytes : A → List ℕ) (size : ℕ) (buffer : List ℕ) (n m : A) {value : ℕ} {after : List ℕ}
    → size ≤ length buffer → n ≡ m → (value ≡ refusal n) × (after ≡ bytes n ++ drop size buffer)
    → (value ≡ (answer_in size (refusal m) (bytes m) buffer).value) × (after ≡ (answer_in size (refusal m) (bytes m) buffer).buffer)
unfolding answer_in
enough {A} refusal bytes size buffer n m h is is-stored =
    rw (le-ltb (length buffer) size h) (is-stored.0 ∙ ap refusal is, is-stored.1 ∙ ap (λ (a : A). bytes a ++ drop size buffer) is)

-- the value of a call that has room is small

-- the first number that is stored is the refusal
stored_first_most : {A : Type 0} (refusal : A → ℕ) (most : ℕ) {n m : A} {numbers rest : List ℕ} → n ≡ m → numbers ≡ refusal n ∷ rest → refusal m ≤ most
    → get_or numbers 0 0 ≤ most
stored_first_most refusal most is e h = omega (arith, ap (λ (l : List ℕ). get_or l 0 0) e, ap refusal is)

pub quote_value_most : (t : Terms) (existing last : ℕ) {n : QuoteNumbers} {numbers : List ℕ} → n ≡ quote_of t existing last
    → numbers ≡ n.refusal ∷ n.contribution ∷ n.next ∷ [] → get_or numbers 0 0 ≤ last_quote_refusal
quote_value_most t existing last is e = stored_first_most (λ (n : QuoteNumbers). n.refusal) last_quote_refusal is e (quote_bounds t existing last).refusal_most

pub settle_value_most : (t : Terms) (marks : List ℕ) {n : SettleNumbers} → n ≡ settle_of t marks → n.refusal ≤ last_settle_refusal
settle_value_most t marks is = omega (arith, ap (λ (n : SettleNumbers). n.refusal) is, (settle_bounds t marks).refusal_most)

pub pay_off_value_most : (t : Terms) (marks : List ℕ) (age_now increase : ℕ) {n : PayOffNumbers} {numbers : List ℕ}
    → n ≡ pay_off_of t marks age_now increase → numbers ≡ n.refusal ∷ n.place ∷ n.remaining ∷ n.increased ∷ n.cost ∷ [] → get_or numbers 0 0 ≤ 17
pay_off_value_most t marks age_now increase is e =
    stored_first_most (λ (n : PayOffNumbers). n.refusal) 17 is e (pay_off_bounds t marks age_now increase).refusal_most

pub reduction_value_most : (a : Application) {n : ReductionNumbers} {numbers : List ℕ} → n ≡ reduction_limit_of a
    → numbers ≡ n.refusal ∷ n.age ∷ n.first ∷ n.second ∷ n.third ∷ [] → get_or numbers 0 0 ≤ 18
reduction_value_most a is e = stored_first_most (λ (n : ReductionNumbers). n.refusal) 18 is e (reduction_bounds a).refusal_most

-- the two outcomes

module _ (t : Terms) (existing last : ℕ) (buffer : List ℕ) where
  pub quote_short : length buffer < 24
      → (14 ≡ (host_quote_of t existing last buffer).value) × (buffer ≡ (host_quote_of t existing last buffer).buffer)
  unfolding host_quote_of
  quote_short h = short 24 (quote_of t existing last).refusal (quote_bytes (quote_of t existing last)) buffer h

  pub quote_enough : {n : QuoteNumbers} {value : ℕ} {after : List ℕ} → 24 ≤ length buffer → n ≡ quote_of t existing last
      → (value ≡ n.refusal) × (after ≡ quote_bytes n ++ drop 24 buffer)
      → (value ≡ (host_quote_of t existing last buffer).value) × (after ≡ (host_quote_of t existing last buffer).buffer)
  unfolding host_quote_of
  quote_enough h is is-stored = enough (λ (n : QuoteNumbers). n.refusal) quote_bytes 24 buffer _ _ h is is-stored

  -- where the numbers of the quote are stored, in their order
  pub quote_stored : {n : QuoteNumbers} {numbers after : List ℕ} → 24 ≤ length buffer → n ≡ quote_of t existing last
      → numbers ≡ n.refusal ∷ n.contribution ∷ n.next ∷ [] → after ≡ stored_in numbers buffer
      → (get_or numbers 0 0 ≡ (host_quote_of t existing last buffer).value) × (after ≡ (host_quote_of t existing last buffer).buffer)
  unfolding quote_bytes
  quote_stored h is e stored =
      quote_enough h is (ap (λ (l : List ℕ). get_or l 0 0) e, stored ∙ ap (λ (l : List ℕ). stored_in l buffer) e ∙ stored_front _ buffer h)

module _ (t : Terms) (marks buffer : List ℕ) where
  pub settle_short : length buffer < 48
      → (14 ≡ (host_settle_of t marks buffer).value) × (buffer ≡ (host_settle_of t marks buffer).buffer)
  unfolding host_settle_of
  settle_short h = short 48 (settle_of t marks).refusal (settle_bytes (settle_of t marks)) buffer h

  pub settle_enough : {n : SettleNumbers} {value : ℕ} {after : List ℕ} → 48 ≤ length buffer → n ≡ settle_of t marks
      → (value ≡ n.refusal) × (after ≡ settle_bytes n ++ drop 48 buffer)
      → (value ≡ (host_settle_of t marks buffer).value) × (after ≡ (host_settle_of t marks buffer).buffer)
  unfolding host_settle_of
  settle_enough h is is-stored = enough (λ (n : SettleNumbers). n.refusal) settle_bytes 48 buffer _ _ h is is-stored

  -- where the numbers of the settlement are stored, in their order
  pub settle_stored : {n : SettleNumbers} {after : List ℕ} → 48 ≤ length buffer → n ≡ settle_of t marks
      → after ≡ stored_in (n.refusal ∷ n.place ∷ n.contribution ∷ n.status ∷ n.credit ∷ n.refund ∷ []) buffer
      → (n.refusal ≡ (host_settle_of t marks buffer).value) × (after ≡ (host_settle_of t marks buffer).buffer)
  unfolding settle_bytes
  settle_stored h is stored = settle_enough h is (refl, stored ∙ stored_front _ buffer h)

module _ (t : Terms) (marks : List ℕ) (age_now increase : ℕ) (buffer : List ℕ) where
  pub pay_off_short : length buffer < 40
      → (14 ≡ (host_pay_off_of t marks age_now increase buffer).value) × (buffer ≡ (host_pay_off_of t marks age_now increase buffer).buffer)
  unfolding host_pay_off_of
  pay_off_short h =
      short 40 (pay_off_of t marks age_now increase).refusal (pay_off_bytes (pay_off_of t marks age_now increase)) buffer h

  pub pay_off_enough : {n : PayOffNumbers} {value : ℕ} {after : List ℕ} → 40 ≤ length buffer → n ≡ pay_off_of t marks age_now increase
      → (value ≡ n.refusal) × (after ≡ pay_off_bytes n ++ drop 40 buffer)
      → (value ≡ (host_pay_off_of t marks age_now increase buffer).value) × (after ≡ (host_pay_off_of t marks age_now increase buffer).buffer)
  unfolding host_pay_off_of
  pay_off_enough h is is-stored = enough (λ (n : PayOffNumbers). n.refusal) pay_off_bytes 40 buffer _ _ h is is-stored

  -- where the numbers of the pay-off are stored, in their order
  pub pay_off_stored : {n : PayOffNumbers} {numbers after : List ℕ} → 40 ≤ length buffer → n ≡ pay_off_of t marks age_now increase
      → numbers ≡ n.refusal ∷ n.place ∷ n.remaining ∷ n.increased ∷ n.cost ∷ [] → after ≡ stored_in numbers buffer
      → (get_or numbers 0 0 ≡ (host_pay_off_of t marks age_now increase buffer).value) × (after ≡ (host_pay_off_of t marks age_now increase buffer).buffer)
  unfolding pay_off_bytes
  pay_off_stored h is e stored =
      pay_off_enough h is (ap (λ (l : List ℕ). get_or l 0 0) e, stored ∙ ap (λ (l : List ℕ). stored_in l buffer) e ∙ stored_front _ buffer h)

module _ (a : Application) (buffer : List ℕ) where
  pub reduction_short : length buffer < 40
      → (14 ≡ (host_reduction_limit_of a buffer).value) × (buffer ≡ (host_reduction_limit_of a buffer).buffer)
  unfolding host_reduction_limit_of
  reduction_short h = short 40 (reduction_limit_of a).refusal (reduction_bytes (reduction_limit_of a)) buffer h

  pub reduction_enough : {n : ReductionNumbers} {value : ℕ} {after : List ℕ} → 40 ≤ length buffer → n ≡ reduction_limit_of a
      → (value ≡ n.refusal) × (after ≡ reduction_bytes n ++ drop 40 buffer)
      → (value ≡ (host_reduction_limit_of a buffer).value) × (after ≡ (host_reduction_limit_of a buffer).buffer)
  unfolding host_reduction_limit_of
  reduction_enough h is is-stored = enough (λ (n : ReductionNumbers). n.refusal) reduction_bytes 40 buffer _ _ h is is-stored

  -- where the numbers of the reduction limit are stored, in their order
  pub reduction_stored : {n : ReductionNumbers} {numbers after : List ℕ} → 40 ≤ length buffer → n ≡ reduction_limit_of a
      → numbers ≡ n.refusal ∷ n.age ∷ n.first ∷ n.second ∷ n.third ∷ [] → after ≡ stored_in numbers buffer
      → (get_or numbers 0 0 ≡ (host_reduction_limit_of a buffer).value) × (after ≡ (host_reduction_limit_of a buffer).buffer)
  unfolding reduction_bytes
  reduction_stored h is e stored =
      reduction_enough h is (ap (λ (l : List ℕ). get_or l 0 0) e, stored ∙ ap (λ (l : List ℕ). stored_in l buffer) e ∙ stored_front _ buffer h)
