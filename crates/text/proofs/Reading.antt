-- A field read a byte at a time.
-- Assumes nothing.
use Rattle.std.proofs.Common.{◌≡◌, refl, sym, ◌∙◌, List, ◌∷◌, [], ℕ, ◌+◌, ◌*◌, ◌-◌, ◌<◌, ◌≤◌, ◌==◌, not, nat_lt, length, length-drop, take, drop, get_or, add-one, one-add, add-zero, arith, inl, inr, Some, None}
use Rattle.std.specs.Char.{IsAsciiDigit, IsNotAsciiDigit}
use Rattle.std.specs.List.{position, position_or_len}
use Rattle.std.proofs.lemmas.Option.{none-some, cond_some}
use Rattle.std.proofs.lemmas.List.Quantifiers.{position-Some}
use borrow.Author.Tests.{lt-ltb, le-ltb, eq-eqb, ne_eqb, ltb-false}
use lib.Dec.{eqb}
use lib.ListN.{drop_of_length-le}
use lib.Seq.{drop-cons, get_or-drop, take-length}
use Rattle.common.proofs.Tests.{by_test, never}
use Rattle.text.specs.Field.{digits_of, zero_of, field_of}

module _ (l : List ℕ) (i v : ℕ) where
  pub digit_more : i < length l → IsAsciiDigit (get_or l i 0) → v ≤ 99999999
      → digits_of v (drop i l) ≡ digits_of (v * 10 + (get_or l i 0 - 48)) (drop (i + 1) l)
  unfolding digits_of
  digit_more h d small = rw (drop-cons l i 0, add-one, le-ltb (get_or l i 0) 48 d.0, le-ltb 57 (get_or l i 0) d.1, le-ltb 99999999 v small)

  pub no_digit : i < length l → IsNotAsciiDigit (get_or l i 0) → digits_of v (drop i l) ≡ None
  unfolding digits_of
  no_digit h (inl low) = rw (drop-cons l i 0, lt-ltb (get_or l i 0) 48 low)
  no_digit h (inr high) = rw (drop-cons l i 0, le-ltb (get_or l i 0) 48 (omega arith), lt-ltb 57 (get_or l i 0) high)

  pub too_many : i < length l → IsAsciiDigit (get_or l i 0) → 99999999 < v → digits_of v (drop i l) ≡ None
  unfolding digits_of
  too_many h d large = rw (drop-cons l i 0, le-ltb (get_or l i 0) 48 d.0, le-ltb 57 (get_or l i 0) d.1, lt-ltb 99999999 v large)

  pub digits_end : length l ≤ i → digits_of v (drop i l) ≡ Some v
  unfolding digits_of
  digits_end h = rw (drop_of_length-le l h)

-- the first byte that is no space; where there is none, the length
abbrev first_said : List ℕ → ℕ
first_said l = position_or_len (λ b. not (b == 32)) l

spaces_skipped : (l : List ℕ) → field_of l ≡ field_of (drop (first_said l) l)
unfolding field_of
spaces_skipped [] = refl
spaces_skipped (b ∷ l) = by_test (eqb b 32) (λ e. rw (e, one-add) (spaces_skipped l)) (λ e. rw (e, e) refl)

pub blank_field : (l : List ℕ) → position (λ b. not (b == 32)) l ≡ None → field_of l ≡ None
unfolding field_of
blank_field l e =
    by_test (nat_lt (first_said l) (length l))
    (λ t. absurd (none-some (first_said l) (sym (rw t at e))))
    (λ t. spaces_skipped l ∙ rw (drop_of_length-le l (ltb-false (first_said l) (length l) t)))

-- what stands behind the spaces
pub record Said (l said : List ℕ) : Type 0 where
  pub same : field_of l ≡ field_of said
  pub some : 0 < length said
  pub no_space : get_or said 0 0 ≡ 32 → ⊥

pub said_from : (l : List ℕ) (i : ℕ) → position (λ b. not (b == 32)) l ≡ Some i → Said l (take (length l - i) (drop i l))
said_from l i e =
    let first = position-Some (λ b. not (b == 32)) l i 0 e in
    let whole : take (length l - i) (drop i l) ≡ drop i l = rw (← length-drop i l) (take-length (drop i l)) in
    let at : get_or (drop i l) 0 0 ≡ get_or l i 0 = get_or-drop i l 0 0 ∙ rw add-zero refl in
    rw whole (record {
      same = rw (← (cond_some _ _ _ e).1) (spaces_skipped l);
      some = omega (arith, length-drop i l, first.0);
      no_space = λ h. never (rw (eq-eqb (get_or l i 0) 32 (sym at ∙ h)) at first.1);
    })

pub zero_alone : (said : List ℕ) → get_or said 0 0 ≡ 48 → length said ≡ 1 → field_of said ≡ Some 0
unfolding field_of zero_of
zero_alone [] z k = absurd (omega arith)
zero_alone (b ∷ []) z k = rw z refl
zero_alone (b ∷ (d ∷ l)) z k = absurd (omega arith)

pub zero_leads : (said : List ℕ) → get_or said 0 0 ≡ 48 → (length said ≡ 1 → ⊥) → field_of said ≡ None
unfolding field_of zero_of
zero_leads [] z k = refl
zero_leads (b ∷ []) z k = absurd (k refl)
zero_leads (b ∷ (d ∷ l)) z k = rw z refl

pub digits_begin : (l said : List ℕ) → Said l said → (get_or said 0 0 ≡ 48 → ⊥) → field_of said ≡ digits_of 0 said
unfolding field_of
digits_begin l [] s z = absurd (omega (arith, s.some))
digits_begin l (b ∷ bs) s z = rw (ne_eqb b 32 s.no_space, ne_eqb b 48 z) refl
