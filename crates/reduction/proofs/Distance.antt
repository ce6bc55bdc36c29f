-- B lies within a penny of its exact value, so within the 2 pence of L4; and its product fits 64 bits once a hundred is cancelled.
-- Assumes nothing.
use mathlib.Core.Path.{◌≡◌, ap, sym, ◌∙◌}
use Prim.Native.Nat.{ℕ, ◌+◌, ◌*◌, ◌-◌, ◌^◌, ◌≤◌, ◌<◌}
use native.Mathlib.Nat.{mul-le-mul, mul-le-mul_left, mul-le-mul_right, one-le-pow}
use native.Mathlib.Omega.{arith}
use lib.Dec.{ltb→lt}
use Rattle.scheme.specs.Scheme.{pounds_in_pence}
use Rattle.rounding.specs.Nearest.{half_up}
use Rattle.rounding.proofs.HalfUp.{half_up_within_half, half_up_cancel}
use Rattle.rounding.proofs.Laws.{round_most}
use Rattle.reduction.specs.Power.{billion, power_of, power_num, power_den}
use Rattle.reduction.specs.Potential.{potential_of, NearPotential, PotentialDistance}
use Rattle.reduction.specs.Bounds.{most_potential}
use Rattle.reduction.proofs.Near.{near_wider}
use Rattle.reduction.proofs.Growth.{most_power, power_most, power_close}

-- the same without the hundred
pub potential_cancelled : (years pay erf : ℕ)
    → half_up (years * pay * power_of years * (1000 - erf)) (540 * billion) ≡ potential_of years pay erf
unfolding potential_of
potential_cancelled years pay erf =
    let n = years * pay * power_of years * (1000 - erf) in
    let up : years * pounds_in_pence pay * power_of years * (1000 - erf) ≡ 100 * n = omega arith in
    sym (ap (λ (m : ℕ). half_up m (54 * 1000 * billion)) up ∙ half_up_cancel 100 n (540 * billion) (omega arith))

-- with it the product of the greatest numbers does not fit
pub uncancelled_over : 2 ^ 64 < 45 * pounds_in_pence 200000 * power_of 45 * (1000 - 0)
unfolding power_of half_up
uncancelled_over = ltb→lt (2 ^ 64) (45 * pounds_in_pence 200000 * power_of 45 * (1000 - 0)) tt

-- from the distance of the power p to that of B: q is the product without the power, x over t the exact power
near_above : (q p t x b : ℕ) → q ≤ 900000000000 → p * t ≤ x + 2 * t
    → 2 * 54000000000000 * b ≤ 2 * (q * p) + 54000000000000 → b * (54000000000000 * t) ≤ q * x + 1 * (54000000000000 * t)
near_above q p t x b small near half =
    omega (arith, mul-le-mul_right t half, mul-le-mul_left q near, mul-le-mul_right t small)

near_below : (q p t x b : ℕ) → q ≤ 900000000000 → x ≤ (p + 2) * t
    → 2 * (q * p) ≤ 2 * 54000000000000 * b + 54000000000000 → q * x ≤ (b + 1) * (54000000000000 * t)
near_below q p t x b small near half =
    omega (arith, mul-le-mul_right t half, mul-le-mul_left q near, mul-le-mul_right t small)

module _ (years pay erf : ℕ) (few : years ≤ 45) (paid : pay ≤ 200000) where
  -- the product, factor by factor
  pub service_most : years * pay ≤ 9000000
  service_most = mul-le-mul few paid

  pub grown_most : years * pay * power_of years ≤ 9000000 * most_power
  grown_most = mul-le-mul service_most (power_most years few)

  reduction_most : 1000 - erf ≤ 1000
  reduction_most = omega arith

  pub product_most : years * pay * power_of years * (1000 - erf) ≤ 17587917135000000000
  product_most = mul-le-mul grown_most reduction_most

  pub potential_most : potential_of years pay erf ≤ most_potential
  potential_most =
      rw (← potential_cancelled years pay erf)
      (round_most half_up half_up_within_half (years * pay * power_of years * (1000 - erf)) (540 * billion) most_potential
      (omega arith) (omega (arith, product_most)))

  weight_most : years * pounds_in_pence pay * (1000 - erf) ≤ 900000000000
  weight_most = omega (arith, mul-le-mul service_most reduction_most)

  pub potential_close : NearPotential 1 years pay erf (potential_of years pay erf)
  unfolding potential_of
  potential_close =
      let q = years * pounds_in_pence pay * (1000 - erf) in
      let n = years * pounds_in_pence pay * power_of years * (1000 - erf) in
      let b = half_up n 54000000000000 in
      let p = power_close years few in
      record {
        positive = omega (arith, one-le-pow years 1000 (omega arith));
        above = omega (
          arith,
          near_above q (power_of years) (power_den years) (power_num years) b weight_most p.above
              (omega (arith, half_up_within_half.above n 54000000000000 (omega arith))),
        );
        below = omega (
          arith,
          near_below q (power_of years) (power_den years) (power_num years) b weight_most p.below
              (omega (arith, half_up_within_half.below n 54000000000000 (omega arith))),
        );
      }

pub potential_distance : PotentialDistance
potential_distance =
    record {
      near = λ years pay erf few paid. near_wider (omega arith) (potential_close years pay erf few paid);
      close = λ years pay erf few paid. near_wider (omega arith) (potential_close years pay erf few paid);
    }
