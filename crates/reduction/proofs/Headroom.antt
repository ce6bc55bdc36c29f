-- C, with its sign and cut off at 0: B is below the one just where it is below the other. And the test as the code makes it.
-- Assumes nothing.
use mathlib.Core.Bool.{true, false}
use mathlib.Core.Path.{◌≡◌, refl, sym, ap, ◌∙◌}
use Prim.Native.Nat.{ℕ, suc, ◌-◌, max, zero-le}
use native.Mathlib.Omega.{arith}
use lib.Dec.{ltb}
use lib.IntN.{ℤ, pos, negsuc, sub_ℕ}
use lib.Signed.{lt_z}
use borrow.Author.Tests.{lt-ltb, le-ltb, ltb-true, ltb-false, eq-eqb, ne_eqb}
use Rattle.common.proofs.Tests.{by_test, same_ltb}
use Rattle.reduction.specs.Search.{headroom, is_taken}
use Rattle.reduction.specs.CutOff.{cut_off}

-- b is not below zero, so it is below c just where it is below c cut off
pub below_cut : (b : ℕ) (c : ℤ) → lt_z (pos b) c ≡ ltb b (cut_off c)
below_cut b (pos n) = refl
below_cut b (negsuc n) = sym (le-ltb b 0 zero-le)

-- x − y cut off is the difference of natural numbers
cut_difference : (x y : ℕ) → cut_off (sub_ℕ x y) ≡ x - y
cut_difference x y = by_test (ltb x y) (λ e. let h = ltb-true x y e in rw e (omega arith)) (λ e. rw e)

-- x − y < z − y
both_less : (x z y : ℕ) → lt_z (sub_ℕ x y) (sub_ℕ z y) ≡ ltb x z
both_less x z y =
    by_test (ltb x y)
    (λ e. let h = ltb-true x y e in
    by_test (ltb z y)
    (λ d. let g = ltb-true z y d in
    rw (e, d) (same_ltb (y - suc z) (y - suc x) x z (λ p. omega arith) (λ p. omega arith)))
    (λ d. let g = ltb-false z y d in rw (e, d) (sym (lt-ltb x z (omega arith)))))
    (λ e. let h = ltb-false x y e in
    by_test (ltb z y)
    (λ d. let g = ltb-true z y d in rw (e, d) (sym (le-ltb x z (omega arith))))
    (λ d. let g = ltb-false z y d in
    rw (e, d) (same_ltb (x - y) (z - y) x z (λ p. omega arith) (λ p. omega arith))))

-- C cut off is the greater of both differences cut off
pub cut_headroom : (b existing limit : ℕ) → cut_off (headroom b existing limit) ≡ max (b - existing) (limit - existing)
unfolding headroom
cut_headroom b existing limit =
    by_test (lt_z (sub_ℕ b existing) (sub_ℕ limit existing))
    (λ e. let h = ltb-true b limit (sym (both_less b limit existing) ∙ e) in rw e (cut_difference limit existing ∙ omega arith))
    (λ e. let h = ltb-false b limit (sym (both_less b limit existing) ∙ e) in rw e (cut_difference b existing ∙ omega arith))

-- without existing pension the candidate is taken, and else by L − A cut off: B − A is below B
pub taken_none : (b existing limit : ℕ) → ltb 0 existing ≡ false → is_taken b existing limit ≡ true
unfolding is_taken
taken_none b existing limit e = rw (eq-eqb existing 0 (omega (arith, ltb-false 0 existing e)))

pub taken_some : (b existing limit : ℕ) → ltb 0 existing ≡ true → is_taken b existing limit ≡ ltb b (limit - existing)
unfolding is_taken
taken_some b existing limit e =
    let some = ltb-true 0 existing e in
    rw (ne_eqb existing 0 (λ z. omega arith))
    (below_cut b (headroom b existing limit) ∙ ap (ltb b) (cut_headroom b existing limit)
    ∙ same_ltb b (max (b - existing) (limit - existing)) b (limit - existing) (λ p. omega arith) (λ p. omega arith))
