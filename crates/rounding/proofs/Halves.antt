-- Where the two rules part: at an exact half above an even number, where half up gives one more, and nowhere else.
-- Assumes nothing.
use mathlib.Core.Path.{◌≡◌, sym, ◌∙◌}
use Prim.Native.Nat.{ℕ, ◌+◌, ◌*◌, ◌/◌, ◌%◌, ◌<◌}
use native.Mathlib.Nat.{div-add-mod', mod-lt}
use native.Mathlib.Omega.{arith}
use lib.Dec.{ltb, eqb}
use borrow.Author.Tests.{ltb-true, ltb-false, eqb-true, eqb-false}
use Rattle.common.proofs.Tests.{by_test}
use Rattle.rounding.specs.HalfEven.{half_even}
use Rattle.rounding.specs.Nearest.{half_up}
use Rattle.rounding.proofs.HalfUp.{half_up_low, half_up_high}
use Rattle.rounding.proofs.HalfEven.{half_even_low, half_even_high}

module _ (n d : ℕ) (d0 : 0 < d) where
  -- the rest is less than half of d, or more
  below : 2 * (n % d) < d → half_even n d ≡ half_up n d
  below h =
      sym (half_even_low n d (n / d) (n % d) (div-add-mod' n d) (mod-lt n d0) (omega arith))
      ∙ half_up_low n d (n / d) (n % d) (div-add-mod' n d) (omega arith)

  above : d < 2 * (n % d) → half_even n d ≡ half_up n d
  above h =
      sym (half_even_high n d (n / d) (n % d) (div-add-mod' n d) (mod-lt n d0) (omega arith))
      ∙ half_up_high n d (n / d) (n % d) (div-add-mod' n d) (mod-lt n d0) (omega arith)

  -- where it is not exactly half of d, both rules give the same number
  pub off_half : (2 * (n % d) ≡ d → ⊥) → half_even n d ≡ half_up n d
  off_half other =
      by_test (ltb (2 * (n % d)) d) (λ e. below (ltb-true _ _ e)) (λ e. above (omega (arith, other, ltb-false (2 * (n % d)) d e)))

  -- where it is, half up gives the next number, and half to even the even one of the two
  pub at_half_up : 2 * (n % d) ≡ d → half_up n d ≡ n / d + 1
  at_half_up h = sym (half_up_high n d (n / d) (n % d) (div-add-mod' n d) (mod-lt n d0) (omega arith))

  pub at_half_even : 2 * (n % d) ≡ d → half_even n d ≡ n / d + n / d % 2
  at_half_even h =
      by_test (eqb (n / d % 2) 0)
      (λ e. let z : n / d % 2 ≡ 0 = eqb-true (n / d % 2) 0 e in
      sym (half_even_low n d (n / d) (n % d) (div-add-mod' n d) (mod-lt n d0) (omega arith)) ∙ omega arith)
      (λ e. let one : n / d % 2 ≡ 1 = omega (arith, eqb-false (n / d % 2) 0 e) in
      sym (half_even_high n d (n / d) (n % d) (div-add-mod' n d) (mod-lt n d0) (omega arith)) ∙ omega arith)
