-- Fractions over one common denominator, and one for all the rates of a table.
-- Assumes nothing.
use mathlib.Core.Path.{◌≡◌, ap}
use Prim.Native.Nat.{ℕ, zero, suc, ◌+◌, ◌*◌, ◌-◌, ◌≤◌, ◌<◌, ◌∣◌}
use native.Mathlib.Decide.{ℕ_discrete}
use native.Mathlib.Nat.{mul-le-mul_right, le_of_mul-le-mul_right, mul-pos, mul-sub, dvd-mul_right, dvd-mul_left_of_dvd}
use native.Mathlib.Omega.{arith}
use Rattle.distance.specs.Fraction.{Fraction, ◌over◌, ◌plus◌, ◌minus◌, ◌divided_by◌}
use Rattle.distance.specs.Distance.{Within}
use Rattle.distance.proofs.Near.{Close}

-- x is n over D, multiplied out
pub record IsOver (x : Fraction) (n D : ℕ) : Type 0 where
  pub same : x.num * D ≡ n * x.den
  pub positive : 0 < x.den

pub none_is : (D : ℕ) → IsOver (0 over 1) 0 D
none_is D = record { same = omega arith; positive = omega arith }

pub plus_is : {x y : Fraction} {m n D : ℕ} → IsOver x m D → IsOver y n D → IsOver (x plus y) (m + n) D
plus_is {x} {y} a b =
    record {
      same = omega (arith, ap (λ t. t * y.den) a.same, ap (λ t. t * x.den) b.same);
      positive = mul-pos a.positive b.positive;
    }

pub minus_is : {x y : Fraction} {m n D : ℕ} → IsOver x m D → IsOver y n D → IsOver (x minus y) (m - n) D
minus_is {x} {y} {m} {n} {D} a b =
    record {
      same =
          omega (
            arith,
            mul-sub D (x.num * y.den) (y.num * x.den),
            mul-sub (x.den * y.den) m n,
            ap (λ t. t * y.den) a.same,
            ap (λ t. t * x.den) b.same,
          );
      positive = mul-pos a.positive b.positive;
    }

pub divided_is : {x : Fraction} {n D : ℕ} (k : ℕ) → 0 < k → IsOver x n D → IsOver (x divided_by k) n (k * D)
divided_is k h a = record { same = omega (arith, ap (λ t. t * k) a.same); positive = mul-pos a.positive h }

-- what is near over the common denominator is near the fraction itself
pub close_within : {x : Fraction} {n D : ℕ} (c h : ℕ) → 0 < D → IsOver x n D → Close (2 * (D * c)) (2 * n) (h * D) → Within c x h
close_within {x} {n} {D} c h d a near =
    record {
      positive = a.positive;
      above = le_of_mul-le-mul_right {k = D} (omega (arith, mul-le-mul_right x.den near.0)) d;
      below = le_of_mul-le-mul_right {k = D} (omega (arith, mul-le-mul_right x.den near.1)) d;
    }

-- the product of the rates at 1 to T
pub product : (ℕ → ℕ) → ℕ → ℕ
product rate zero = 1
product rate (suc n) = rate (suc n) * product rate n

module _ (rate : ℕ → ℕ) where
  pub product_positive : (T : ℕ) → ((n : ℕ) → 0 < n → n ≤ T → 0 < rate n) → 0 < product rate T
  unfolding product
  product_positive zero h = omega arith
  product_positive (suc T) h =
      mul-pos (h (suc T) (omega arith) (omega arith)) (product_positive T (λ n a b. h n a (omega arith)))

  pub divides_product : (T n : ℕ) → 0 < n → n ≤ T → rate n ∣ product rate T
  unfolding product
  divides_product zero n a b = absurd (omega arith)
  divides_product (suc T) n a b = go (ℕ_discrete n (suc T)) (divides_product T n a)
    where
      go : Dec (n ≡ suc T) → (n ≤ T → rate n ∣ product rate T) → rate n ∣ rate (suc T) * product rate T
      go (yes e) before = rw e (dvd-mul_right (rate (suc T)) (product rate T))
      go (no e) before = dvd-mul_left_of_dvd (rate n) (before (omega arith)) (rate (suc T))
