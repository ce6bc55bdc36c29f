-- `half_even` is the nearest whole number, of two equally near the even one, and no other number is; it is within a half of the quotient,
-- and monotone in it.
-- Assumes nothing.
use mathlib.Core.Path.{◌≡◌, refl, sym}
use mathlib.Core.Logic.{◌⊎◌, inl, inr, ⊎_elim}
use Prim.Native.Nat.{ℕ, zero, suc, ◌+◌, ◌*◌, ◌/◌, ◌%◌, ◌≤◌, ◌<◌}
use native.Mathlib.Nat.{mul-le-mul_left, mul-le-mul_right, le_of_mul-le-mul_left, le_refl, le_antisymm, eq-or-lt_of_le, div-add-mod, div-zero, mod-lt, mul-pos, eq_of_mul-eq-mul_right}
use native.Mathlib.Decide.{dec_le}
use native.Mathlib.Omega.{arith}
use lib.Dec.{ltb, eqb}
use borrow.Author.Tests.{ltb-true, ltb-false, eqb-true, eqb-false, le-ltb}
use Rattle.common.proofs.Tests.{by_test}
use Rattle.rounding.specs.HalfEven.{off_by, NearestEven, nearer, half_even}
use Rattle.rounding.specs.Rounding.{WithinHalf, Monotone}

-- `NearestEven` multiplied out: r is within a half of n ÷ d, and even where it is exactly a half away, above or below
pub record Half (n d r : ℕ) : Type 0 where
  pub above : 2 * d * r ≤ 2 * n + d
  pub below : 2 * n ≤ 2 * d * r + d
  pub above_even : 2 * d * r ≡ 2 * n + d → r % 2 ≡ 0
  pub below_even : 2 * n ≡ 2 * d * r + d → r % 2 ≡ 0

-- a nearest number is compared with its two neighbours
nearest_half : (n d r : ℕ) → 0 < d → NearestEven n d r → Half n d r
unfolding off_by
nearest_half n d zero d0 p =
    record { above = omega arith; below = omega (arith, p.none_nearer 1); above_even = λ e. refl; below_even = λ e. refl }
nearest_half n d (suc k) d0 p =
    record {
      above = omega (arith, p.none_nearer k);
      below = omega (arith, p.none_nearer (suc (suc k)));
      above_even = λ e. p.even k (λ z. omega arith) (omega arith);
      below_even = λ e. p.even (suc (suc k)) (λ z. omega arith) (omega arith);
    }

-- x is below r, or r itself, or above it
order : (x r : ℕ) → (x < r) ⊎ ((x ≡ r) ⊎ (r < x))
order x r = by_test (ltb x r) (λ e. inl (ltb-true x r e)) (λ e. inr (⊎_elim (λ z. inl (sym z)) inr (eq-or-lt_of_le (ltb-false x r e))))

-- and no number is nearer than one within a half
half_nearest : (n d r : ℕ) → 0 < d → Half n d r → NearestEven n d r
unfolding off_by
half_nearest n d r d0 p = record { none_nearer = λ x. near x (order x r); even = λ x other e. tie x other e (order x r) }
  where
    -- the next multiple is d further
    next : (a b : ℕ) → a < b → d * a + d ≤ d * b
    next a b h =
        let l : d * suc a ≤ d * b = mul-le-mul_left d h in
        omega arith

    near : (x : ℕ) → (x < r) ⊎ ((x ≡ r) ⊎ (r < x)) → off_by n d r ≤ off_by n d x
    near x (inl h) = omega (arith, p.above, next x r h)
    near x (inr (inl e)) = rw e (le_refl _)
    near x (inr (inr h)) = omega (arith, p.below, next r x h)

    tie : (x : ℕ) → (x ≡ r → ⊥) → off_by n d x ≡ off_by n d r → (x < r) ⊎ ((x ≡ r) ⊎ (r < x)) → r % 2 ≡ 0
    tie x other e (inl h) = p.above_even (omega (arith, p.above, next x r h))
    tie x other e (inr (inl same)) = absurd (other same)
    tie x other e (inr (inr h)) = p.below_even (omega (arith, p.below, next r x h))

-- n divided by d is q with the rest r
module _ (n d q r : ℕ) (d0 : 0 < d) (e : d * q + r ≡ n) (l : r < d) where
  -- q is it where the rest is less than half of d, or exactly half and q even; else the next number is
  half_low : 2 * r + q % 2 ≤ d → Half n d q
  half_low h = record { above = omega arith; below = omega arith; above_even = λ x. absurd (omega arith); below_even = λ x. omega arith }

  half_high : d < 2 * r + q % 2 → Half n d (q + 1)
  half_high h = record { above = omega arith; below = omega arith; above_even = λ x. omega arith; below_even = λ x. absurd (omega arith) }

  nearer_half : Half n d (nearer n d q (q + 1))
  unfolding nearer off_by
  nearer_half =
      by_test (ltb (off_by n d q) (off_by n d (q + 1)))
      (λ a. let less : off_by n d q < off_by n d (q + 1) = ltb-true _ _ a in
      rw a (half_low (omega arith)))
      (λ a. let more : off_by n d (q + 1) ≤ off_by n d q = ltb-false _ _ a in
      by_test (ltb (off_by n d (q + 1)) (off_by n d q))
      (λ b. let less : off_by n d (q + 1) < off_by n d q = ltb-true _ _ b in
      rw (a, b) (half_high (omega arith)))
      (λ b. let same : off_by n d q ≤ off_by n d (q + 1) = ltb-false _ _ b in
      by_test (eqb (q % 2) 0)
      (λ z. rw (a, b, z) (half_low (omega (arith, eqb-true (q % 2) 0 z))))
      (λ z. rw (a, b, z) (half_high (omega (arith, eqb-false (q % 2) 0 z))))))

half_even_half : (n d : ℕ) → 0 < d → Half n d (half_even n d)
unfolding half_even
half_even_half n d d0 = nearer_half n d (n / d) (n % d) d0 (div-add-mod n d) (mod-lt n d0)

-- a quotient that is at least as great has no smaller number
half_keeps : (a b c d r s : ℕ) → 0 < b → 0 < d → a * d ≤ c * b → Half a b r → Half c d s → r ≤ s
half_keeps a b c d r s b0 d0 h p q = go (dec_le r s)
  where
    go : Dec (r ≤ s) → r ≤ s
    go (yes l) = l
    go (no l) =
        let up : 2 * (b * d) * suc s ≤ 2 * (b * d) * r = mul-le-mul_left (2 * (b * d)) (omega arith) in
        let x : 2 * b * r * d ≤ (2 * a + b) * d = mul-le-mul_right d p.above in
        let y : 2 * c * b ≤ (2 * d * s + d) * b = mul-le-mul_right b q.below in
        let one : r ≤ suc s = le_of_mul-le-mul_left {k = b * d} (omega arith) (mul-pos b0 d0) in
        let t : r % 2 ≡ 0 = p.above_even (eq_of_mul-eq-mul_right d d0 _ _ (omega arith)) in
        let u : s % 2 ≡ 0 = q.below_even (eq_of_mul-eq-mul_right b b0 _ _ (omega arith)) in
        absurd (omega arith)

-- two such numbers are the same
half_is : (n d r : ℕ) → 0 < d → Half n d r → r ≡ half_even n d
half_is n d r d0 p =
    let q = half_even_half n d d0 in
    le_antisymm (half_keeps n d n d r _ d0 d0 (omega arith) p q) (half_keeps n d n d _ r d0 d0 (omega arith) q p)

-- n divided by d is q with the rest r: q where the rest is less than half of d, or exactly half and q even; else the next number
pub half_even_low : (n d q r : ℕ) → q * d + r ≡ n → r < d → 2 * r + q % 2 ≤ d → q ≡ half_even n d
half_even_low n d q r e l h = half_is n d q (omega arith) (half_low n d q r (omega arith) (omega arith) l h)

pub half_even_high : (n d q r : ℕ) → q * d + r ≡ n → r < d → d < 2 * r + q % 2 → q + 1 ≡ half_even n d
half_even_high n d q r e l h = half_is n d (q + 1) (omega arith) (half_high n d q r (omega arith) (omega arith) l h)

-- it is what the rule asks for, and the only number that is
pub half_even_nearest : (n d : ℕ) → 0 < d → NearestEven n d (half_even n d)
half_even_nearest n d d0 = half_nearest n d (half_even n d) d0 (half_even_half n d d0)

pub half_even_only : (n d r : ℕ) → 0 < d → NearestEven n d r → r ≡ half_even n d
half_even_only n d r d0 p = half_is n d r d0 (nearest_half n d r d0 p)

-- over 0 it is 0
pub half_even_none : (n : ℕ) → half_even n 0 ≡ 0
unfolding half_even nearer off_by
half_even_none n =
    rw (div-zero n, le-ltb (off_by n 0 0) (off_by n 0 0) (omega arith)) refl

pub half_even_within_half : WithinHalf half_even
half_even_within_half =
    record { above = λ n d h. (half_even_half n d h).above; below = λ n d h. (half_even_half n d h).below }

pub half_even_monotone : Monotone half_even
half_even_monotone =
    record { keeps = λ a b c d hb hd h. half_keeps a b c d _ _ hb hd h (half_even_half a b hb) (half_even_half c d hd) }
