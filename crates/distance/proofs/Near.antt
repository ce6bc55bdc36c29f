-- How errors add up: in a blend, and over the paid months, where each month's value lies near an exact line.
-- Assumes nothing.
use mathlib.Core.Bool.{Bool, true, false}
use mathlib.Core.List.{List, [], ◌∷◌}
use mathlib.Core.Path.{◌≡◌, ap}
use Prim.Native.Nat.{ℕ, suc, ◌+◌, ◌*◌, ◌-◌, ◌≤◌, ◌<◌}
use native.Mathlib.Nat.{sub-add_cancel, mul-le-mul_left}
use native.Mathlib.Omega.{arith}
use lib.ListN.{length}
use Rattle.rounding.specs.Nearest.{blend_by}
use Rattle.rounding.specs.Rounding.{WithinHalf}
use Rattle.credit.specs.Runs.{starts_after}
use Rattle.credit.specs.Months.{growth, sum_over_paid_from}

-- x and y are at most d apart
abbrev pub Close : ℕ → ℕ → ℕ → Type 0
Close x y d = (x ≤ y + d) × (y ≤ x + d)

-- Two figures over D, each off by at most h halves: their blend is off by one half more, for its own rounding.
pub blend_near : (round : ℕ → ℕ → ℕ) → WithinHalf round → (m lo hi x y D h : ℕ) → m ≤ 12
    → Close (2 * D * lo) (2 * x) (h * D) → Close (2 * D * hi) (2 * y) (h * D)
    → Close (24 * D * blend_by round m lo hi) (2 * ((12 - m) * x + m * y)) (12 * suc h * D)
blend_near round half m lo hi x y D h l a b =
    let n = (12 - m) * lo + m * hi in
    let s : (12 - m) + m ≡ 12 = omega arith in
    omega (
      arith,
      mul-le-mul_left (12 - m) a.0,
      mul-le-mul_left (12 - m) a.1,
      mul-le-mul_left m b.0,
      mul-le-mul_left m b.1,
      mul-le-mul_left D (half.above n 12 (omega arith)),
      mul-le-mul_left D (half.below n 12 (omega arith)),
      ap (λ t. t * (h * D)) s,
    )

-- D times the values v, which do not fall, lie within D of the heights of the exact line; the line rises by each month's figure
module _ (v height figure : ℕ → ℕ) (D N : ℕ) (up : (i : ℕ) → i < N → v i ≤ v (suc i))
    (step : (i : ℕ) → i < N → height i + figure i ≡ height (suc i)) (near : (i : ℕ) → i ≤ N → Close (D * v i) (height i) D) where
  -- what a paid month adds to the value, times D
  grown : (i : ℕ) → i < N → D * growth v i + D * v i ≡ D * v (suc i)
  grown i h = omega (arith, ap (λ t. D * t) (sub-add_cancel (up i h)))

  mutual
    unfolding starts_after sum_over_paid_from

    near_outside : (ps : List Bool) (i : ℕ) → i + length ps ≤ N
        → Close (D * sum_over_paid_from (growth v) i ps) (sum_over_paid_from figure i ps) (starts_after false ps * (2 * D))
    near_outside [] i h = omega arith
    near_outside (true ∷ ps) i h =
        omega (arith, near_inside ps (suc i) (omega arith), near i (omega arith), step i (omega arith), grown i (omega arith))
    near_outside (false ∷ ps) i h = near_outside ps (suc i) (omega arith)

    -- inside a run, with all that value and height have come to
    near_inside : (ps : List Bool) (i : ℕ) → i + length ps ≤ N
        → Close (D * (v i + sum_over_paid_from (growth v) i ps)) (height i + sum_over_paid_from figure i ps) (D + starts_after true ps * (2 * D))
    near_inside [] i h = omega (arith, near i (omega arith))
    near_inside (true ∷ ps) i h = omega (arith, near_inside ps (suc i) (omega arith), step i (omega arith), grown i (omega arith))
    near_inside (false ∷ ps) i h = omega (arith, near i (omega arith), near_outside ps (suc i) (omega arith))

  -- A run that begins at month 0, where value and height are both 0, is not off at that end.
  pub near_first : v 0 ≡ 0 → height 0 ≡ 0 → (ps : List Bool) → length ps ≤ N
      → Close (D * sum_over_paid_from (growth v) 0 ps) (sum_over_paid_from figure 0 ps) (D + starts_after true ps * (2 * D))
  near_first v0 h0 ps h = omega (arith, near_inside ps 0 (omega arith), ap (λ t. D * t) v0)
