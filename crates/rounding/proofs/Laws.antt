-- What follows for any rounding from its being within a half, and the same of the rule in force.
-- Assumes nothing.
use mathlib.Core.Path.{◌≡◌, ap, ◌∙◌}
use Prim.Native.Nat.{ℕ, ◌+◌, ◌*◌, ◌-◌, ◌≤◌, ◌<◌}
use native.Mathlib.Nat.{mul-le-mul_left, lt_of_mul-lt-mul_left, le_antisymm}
use native.Mathlib.Omega.{arith}
use lib.Dec.{eqb}
use borrow.Author.Tests.{eq-eqb, ne_eqb, eqb-false}
use Rattle.common.proofs.Tests.{by_test}
use Rattle.rounding.specs.Nearest.{nearest, twelfths, blend_by, blend, combine_by, combine}
use Rattle.rounding.specs.Rounding.{WithinHalf}
use Rattle.rounding.proofs.InForce.{nearest_within_half}

-- twelfths m and 12 − m of figures that are at most u, or at least l
pub weighted_most : (m lo hi u : ℕ) → m ≤ 12 → lo ≤ u → hi ≤ u → twelfths m lo hi ≤ u * 12
weighted_most m lo hi u h p q =
    let s : (12 - m) + m ≡ 12 = omega arith in
    omega (arith, mul-le-mul_left (12 - m) p, mul-le-mul_left m q, ap (λ t. t * u) s)

pub weighted_least : (m lo hi l : ℕ) → m ≤ 12 → l ≤ lo → l ≤ hi → l * 12 ≤ twelfths m lo hi
weighted_least m lo hi l h p q =
    let s : (12 - m) + m ≡ 12 = omega arith in
    omega (arith, mul-le-mul_left (12 - m) p, mul-le-mul_left m q, ap (λ t. t * l) s)

module _ (round : ℕ → ℕ → ℕ) (half : WithinHalf round) where
  -- a quotient of at most q rounds to at most q
  pub round_most : (n d q : ℕ) → 0 < d → n ≤ q * d → round n d ≤ q
  round_most n d q d0 h =
      let l : 2 * d * round n d < 2 * d * (q + 1) = omega (arith, half.above n d d0) in
      omega (arith, lt_of_mul-lt-mul_left (2 * d) l)

  -- a quotient of at least q rounds to at least q
  pub round_least : (n d q : ℕ) → 0 < d → q * d ≤ n → q ≤ round n d
  round_least n d q d0 h =
      let l : 2 * d * q < 2 * d * (round n d + 1) = omega (arith, half.below n d d0) in
      omega (arith, lt_of_mul-lt-mul_left (2 * d) l)

  -- a whole quotient stays
  pub round_whole : (q d : ℕ) → 0 < d → round (q * d) d ≡ q
  round_whole q d d0 = le_antisymm (round_most (q * d) d q d0 (omega arith)) (round_least (q * d) d q d0 (omega arith))

  -- a blend lies between bounds of both figures
  pub blended_most : (m lo hi u : ℕ) → m ≤ 12 → lo ≤ u → hi ≤ u → blend_by round m lo hi ≤ u
  blended_most m lo hi u h p q = round_most (twelfths m lo hi) 12 u (omega arith) (weighted_most m lo hi u h p q)

  blended_least : (m lo hi l : ℕ) → m ≤ 12 → l ≤ lo → l ≤ hi → l ≤ blend_by round m lo hi
  blended_least m lo hi l h p q = round_least (twelfths m lo hi) 12 l (omega arith) (weighted_least m lo hi l h p q)

  -- no twelfths: the first figure itself
  pub blended_none : (lo hi : ℕ) → blend_by round 0 lo hi ≡ lo
  blended_none lo hi =
      let e : twelfths 0 lo hi ≡ lo * 12 = omega arith in
      ap (λ (n : ℕ). round n 12) e ∙ round_whole lo 12 (omega arith)

  -- two tables' figures combined lie between bounds of both, where the upper one counts with odd months only
  pub combined_most : (m lo hi u : ℕ) → m ≤ 12 → lo ≤ u → (0 < m → hi ≤ u) → combine_by round m lo hi ≤ u
  combined_most m lo hi u h p q =
      by_test (eqb m 0) (λ e. rw e p) (λ e. rw e (blended_most m lo hi u h p (q (omega (arith, eqb-false m 0 e)))))

  pub combined_least : (m lo hi l : ℕ) → m ≤ 12 → l ≤ lo → (0 < m → l ≤ hi) → l ≤ combine_by round m lo hi
  combined_least m lo hi l h p q =
      by_test (eqb m 0) (λ e. rw e p) (λ e. rw e (blended_least m lo hi l h p (q (omega (arith, eqb-false m 0 e)))))

-- bounds of a blend and of combined figures, by the rule in force
pub blend_most : (m lo hi u : ℕ) → m ≤ 12 → lo ≤ u → hi ≤ u → blend m lo hi ≤ u
unfolding blend
blend_most = blended_most nearest nearest_within_half

pub combine_most : (m lo hi u : ℕ) → m ≤ 12 → lo ≤ u → hi ≤ u → combine m lo hi ≤ u
unfolding combine
combine_most m lo hi u h p q = combined_most nearest nearest_within_half m lo hi u h p (λ odd. q)

pub combine_least : (m lo hi l : ℕ) → m ≤ 12 → l ≤ lo → (0 < m → l ≤ hi) → l ≤ combine m lo hi
unfolding combine
combine_least = combined_least nearest nearest_within_half

-- at a whole pension age the upper figure does not matter
pub combine_upper : (m lo a b : ℕ) → ((m ≡ 0 → ⊥) → a ≡ b) → combine m lo a ≡ combine m lo b
unfolding combine
combine_upper m lo a b h = by_test (eqb m 0) (λ e. rw e) (λ e. ap (combine_by nearest m lo) (h (eqb-false m 0 e)))

-- at a whole pension age the lower figure itself, with odd months the blend
pub combine_none : (m lo hi : ℕ) → m ≡ 0 → combine m lo hi ≡ lo
unfolding combine
combine_none m lo hi z = rw (eq-eqb m 0 z)

pub combine_odd : (m lo hi : ℕ) → (m ≡ 0 → ⊥) → combine m lo hi ≡ blend m lo hi
unfolding blend combine
combine_odd m lo hi odd = rw (ne_eqb m 0 odd)
