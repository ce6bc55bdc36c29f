-- A number that is written in a field wide enough for it is read back, so nothing of it is lost.
-- Assumes nothing.
use mathlib.Core.Bool.{Bool, true, false}
use mathlib.Core.List.{List, [], ◌∷◌, ◌++◌}
use mathlib.Core.Path.{◌≡◌, refl, sym, ap, ◌∙◌}
use Rattle.std.specs.Prelude.{Option, Some, None}
use Prim.Native.Nat.{ℕ, zero, suc, ◌+◌, ◌*◌, ◌-◌, ◌/◌, ◌%◌, ◌<◌, ◌≤◌, ◌^◌}
use native.Mathlib.Decide.{ℕ_discrete}
use native.Mathlib.Nat.{pow-suc, one-le-pow, mul-le-mul_right}
use native.Mathlib.Omega.{arith}
use borrow.Author.Tests.{le-ltb, eq-eqb, ne_eqb, ltb-false}
use lib.Dec.{ltb, eqb}
use lib.ListN.{length}
use lib.Seq.{append_snoc}
use Rattle.common.specs.Choice.{pick}
use Rattle.common.proofs.Choice.{either, not_first}
use Rattle.text.specs.Field.{digits_of, zero_of, field_of}
use Rattle.text.specs.Column.{glyph_of, front_of, column_of}

no_number : {n : ℕ} {A : Type 0} → None ≡ Some n → A
no_number e = let z : ◌≡◌ {A = ℕ} 0 1 = cc in absurd (omega arith)

-- past a test that a number has passed
through : (t : Bool) (x y : Option ℕ) {n m : ℕ} → pick t None x ≡ Some n → (x ≡ Some n → y ≡ Some m) → pick t None y ≡ Some m
through true x y e f = no_number e
through false x y e f = f e

one_digit : (a d : ℕ) → a ≤ 99999999 → d < 10 → digits_of a ((48 + d) ∷ []) ≡ Some (a * 10 + d)
unfolding digits_of
one_digit a d small h = rw (le-ltb (48 + d) 48 (omega arith), le-ltb 57 (48 + d) (omega arith), le-ltb 99999999 a small) (ap Some (omega arith))

digits_more : (l : List ℕ) (a n d : ℕ) → digits_of a l ≡ Some n → n ≤ 99999999 → d < 10 → digits_of a (l ++ ((48 + d) ∷ [])) ≡ Some (n * 10 + d)
unfolding digits_of
digits_more [] a n d e small h =
    let same : a ≡ n = cc in
    one_digit a d (omega arith) h ∙ ap (λ (k : ℕ). Some (k * 10 + d)) same
digits_more (b ∷ l) a n d e small h =
    through (ltb b 48) _ _ e
    (λ e₁. through (ltb 57 b) _ _ e₁
    (λ e₂. through (ltb 99999999 a) _ _ e₂
    (λ e₃. digits_more l (a * 10 + (b - 48)) n d e₃ small h)))

not_zero : (l : List ℕ) {n : ℕ} {A : Type 0} → zero_of l ≡ Some n → 0 < n → A
unfolding zero_of
not_zero [] {n} e h = let z : 0 ≡ n = cc in absurd (omega arith)
not_zero (b ∷ l) e h = no_number e

-- what begins with a digit, in either way
started : (t : Bool) (l x y : List ℕ) {n m : ℕ} → pick t (zero_of l) (digits_of 0 x) ≡ Some n → 0 < n
    → (digits_of 0 x ≡ Some n → digits_of 0 y ≡ Some m) → (z : Option ℕ) → pick t z (digits_of 0 y) ≡ Some m
started true l x y e h f z = not_zero l e h
started false l x y e h f z = f e

spaced : (t : Bool) (x x' y y' : Option ℕ) {n m : ℕ} → pick t x y ≡ Some n → (x ≡ Some n → x' ≡ Some m) → (y ≡ Some n → y' ≡ Some m) → pick t x' y' ≡ Some m
spaced true x x' y y' e f g = f e
spaced false x x' y y' e f g = g e

field_more : (l : List ℕ) (n d : ℕ) → field_of l ≡ Some n → 0 < n → n ≤ 99999999 → d < 10 → field_of (l ++ ((48 + d) ∷ [])) ≡ Some (n * 10 + d)
unfolding field_of
field_more [] n d e some small h = no_number e
field_more (b ∷ l) n d e some small h =
    spaced (eqb b 32) _ _ _ _ e (λ e₁. field_more l n d e₁ some small h)
    (λ e₁. started (eqb b 48) l (b ∷ l) (b ∷ (l ++ ((48 + d) ∷ []))) e₁ some (λ e₂. digits_more (b ∷ l) 0 n d e₂ small h) _)

spaces_more : (w : ℕ) (s : List ℕ) → field_of (front_of w 0 ++ s) ≡ field_of s
unfolding front_of glyph_of field_of
spaces_more zero s = refl
spaces_more (suc w) s = ap field_of (append_snoc (front_of w 0) 32 s) ∙ spaces_more w (32 ∷ s)

lone_digit : (d : ℕ) → d < 10 → field_of ((48 + d) ∷ []) ≡ Some d
unfolding field_of zero_of
lone_digit d h = rw (ne_eqb (48 + d) 32 (λ e. omega arith)) (go (ℕ_discrete d 0))
  where
    go : Dec (d ≡ 0) → pick (eqb (48 + d) 48) (Some 0) (digits_of 0 ((48 + d) ∷ [])) ≡ Some d
    go (yes z) = rw (eq-eqb (48 + d) 48 (omega arith)) (ap Some (sym z))
    go (no z) = rw (ne_eqb (48 + d) 48 (λ e. z (omega arith))) (one_digit 0 d (omega arith) h ∙ ap Some (omega arith))

front_column : (w v : ℕ) → (v ≡ 0 → ⊥) → front_of (suc w) v ≡ column_of (suc w) v
unfolding front_of column_of glyph_of
front_column w v h = rw (ne_eqb v 0 h)

-- from the digits but the last
one_more : (w v : ℕ) → v ≤ 999999999 → field_of (column_of (suc w) (v / 10)) ≡ Some (v / 10) → field_of (column_of (suc (suc w)) v) ≡ Some v
unfolding column_of
one_more w v small e = go (ℕ_discrete (v / 10) 0)
  where
    go : Dec (v / 10 ≡ 0) → field_of (front_of (suc w) (v / 10) ++ ((48 + v % 10) ∷ [])) ≡ Some v
    go (yes z) =
        let all : v % 10 ≡ v = omega arith in
        rw z (spaces_more (suc w) ((48 + v % 10) ∷ []) ∙ lone_digit (v % 10) (omega arith) ∙ ap Some all)
    go (no z) =
        let all : v / 10 * 10 + v % 10 ≡ v = omega arith in
        field_more (front_of (suc w) (v / 10)) (v / 10) (v % 10) (rw (front_column w (v / 10) z) e) (omega arith) (omega arith) (omega arith)
        ∙ ap Some all

pub column_read : (w v : ℕ) → v < 10 ^ suc w → v ≤ 999999999 → field_of (column_of (suc w) v) ≡ Some v
unfolding column_of front_of
column_read zero v wide small =
    let low : v < 10 = omega (arith, pow-suc 10 0) in
    let all : v % 10 ≡ v = omega arith in
    lone_digit (v % 10) (omega arith) ∙ ap Some all
column_read (suc w) v wide small = one_more w v small (column_read w (v / 10) (omega (arith, pow-suc 10 (suc w))) (omega arith))

below_more : (a x n p q : ℕ) → n < x * p → x * p ≤ (a + 1) * 10 * p → q ≡ p * 10 → n < (a + 1) * q
below_more a x n p q h g e = rw e (omega arith)

digits_below : (l : List ℕ) (a n : ℕ) → digits_of a l ≡ Some n → n < (a + 1) * 10 ^ length l
unfolding digits_of
digits_below [] a n e =
    let same : a ≡ n = cc in
    omega arith
digits_below (b ∷ l) a n e =
    let low = not_first (λ (f : Option ℕ). f ≡ Some n) (ltb b 48) _ _ no_number e in
    let high = not_first (λ (f : Option ℕ). f ≡ Some n) (ltb 57 b) _ _ no_number low.1 in
    let many = not_first (λ (f : Option ℕ). f ≡ Some n) (ltb 99999999 a) _ _ no_number high.1 in
    let digit : b ≤ 57 = ltb-false 57 b high.0 in
    let more = mul-le-mul_right {m = a * 10 + (b - 48) + 1} {n = (a + 1) * 10} (10 ^ length l) (omega arith) in
    below_more a _ n _ _ (digits_below l (a * 10 + (b - 48)) n many.1) more (pow-suc 10 (length l))

zero_below : (l : List ℕ) {n : ℕ} → zero_of l ≡ Some n → n ≡ 0
unfolding zero_of
zero_below [] e = cc
zero_below (b ∷ l) e = no_number e

-- a field of w bytes says less than the power w of ten
pub field_below : (l : List ℕ) (n : ℕ) → field_of l ≡ Some n → n < 10 ^ length l
unfolding field_of
field_below [] n e = no_number e
field_below (b ∷ l) n e =
    either (λ (f : Option ℕ). f ≡ Some n → n < 10 ^ suc (length l)) (eqb b 32)
    (λ h. omega (arith, field_below l n h, pow-suc 10 (length l)))
    (either (λ (f : Option ℕ). f ≡ Some n → n < 10 ^ suc (length l)) (eqb b 48)
    (λ h. omega (arith, zero_below l h, one-le-pow (suc (length l)) 10 (omega arith)))
    (λ h. omega (arith, digits_below (b ∷ l) 0 n h)))
    e
