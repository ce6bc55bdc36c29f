-- 18 refuses just what is out of range.
-- Assumes nothing.
use mathlib.Core.Bool.{true, false}
use mathlib.Core.List.{List, [], ◌∷◌}
use mathlib.Core.Path.{◌≡◌, refl}
use Prim.Native.Nat.{ℕ, zero, suc, ◌≤◌, ◌<◌, zero-le}
use native.Mathlib.Omega.{arith}
use lib.Dec.{ltb}
use lib.ListN.{get_or}
use borrow.Author.Tests.{ltb-false, le-ltb}
use Rattle.std.specs.List.{list_any}
use Rattle.common.specs.Choice.{pick}
use Rattle.common.proofs.Tests.{by_test, or_false}
use Rattle.reduction.specs.declared.Application.{Application}
use Rattle.reduction.specs.Range.{most_reduction_pence, outside_range, out_of_range, InRange}

within : (least most x : ℕ) → outside_range least most x ≡ false → (least ≤ x) × (x ≤ most)
unfolding outside_range
within least most x e =
    let p = or_false _ _ e in
    (ltb-false x least p.0, ltb-false most x p.1)

inside : (least most x : ℕ) → least ≤ x → x ≤ most → outside_range least most x ≡ false
unfolding outside_range
inside least most x l m = rw (le-ltb x least l, le-ltb most x m)

-- none of a list is above a number, read past its end as 0
none_above : (most : ℕ) (xs : List ℕ) → list_any (ltb most) xs ≡ false → (k : ℕ) → get_or xs k 0 ≤ most
none_above most [] e k = zero-le
none_above most (x ∷ xs) e zero = ltb-false most x (or_false _ _ e).0
none_above most (x ∷ xs) e (suc k) = none_above most xs (or_false _ _ e).1 k

all_within : (most : ℕ) (xs : List ℕ) → ((k : ℕ) → get_or xs k 0 ≤ most) → list_any (ltb most) xs ≡ false
all_within most [] h = refl
all_within most (x ∷ xs) h = rw (le-ltb most x (h zero)) (all_within most xs (λ k. h (suc k)))

pub in_range : (a : Application) → out_of_range a ≡ false → InRange a
unfolding out_of_range
in_range a e =
    let one = or_false _ _ e in
    let two = or_false _ _ one.1 in
    let three = or_false _ _ two.1 in
    let four = or_false _ _ three.1 in
    let five = or_false _ _ four.1 in
    let npa = within 66 70 a.npa one.0 in
    let age = within 24 64 a.age two.0 in
    let pay = within 1 200000 a.pay three.0 in
    record {
      npa_low = npa.0;
      npa_high = npa.1;
      age_low = age.0;
      age_high = age.1;
      pay_low = pay.0;
      pay_high = pay.1;
      factors_high = none_above 1000 a.erfs four.0;
      existing_high = ltb-false most_reduction_pence a.existing.0 five.0;
      limit_high = ltb-false most_reduction_pence a.limit.0 five.1;
    }

pub not_out : (a : Application) → InRange a → out_of_range a ≡ false
unfolding out_of_range
not_out a in_it =
    rw (
      inside 66 70 a.npa in_it.npa_low in_it.npa_high,
      inside 24 64 a.age in_it.age_low in_it.age_high,
      inside 1 200000 a.pay in_it.pay_low in_it.pay_high,
      all_within 1000 a.erfs in_it.factors_high,
      le-ltb most_reduction_pence a.existing.0 in_it.existing_high,
      le-ltb most_reduction_pence a.limit.0 in_it.limit_high,
    )

-- what the number that the code refuses with says
module _ (a : Application) {n : ℕ} (is : n ≡ pick (out_of_range a) 18 0) where
  pub out_by : 0 < n → out_of_range a ≡ true
  out_by some = by_test (out_of_range a) (λ e. e) (λ e. absurd (omega (arith, rw e at is)))

  pub in_by : n ≡ 0 → InRange a
  in_by none = in_range a (by_test (out_of_range a) (λ e. absurd (omega (arith, rw e at is))) (λ e. e))
