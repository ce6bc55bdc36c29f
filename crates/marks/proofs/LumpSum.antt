-- The lawful marks of a lump sum are 1s and then 2s, and all such are lawful.
-- Assumes nothing.
use mathlib.Core.List.{List, [], ◌∷◌, ◌++◌, append-nil, append_assoc}
use mathlib.Core.Path.{◌≡◌, refl, sym, ap, ◌∙◌}
use Prim.Native.Nat.{ℕ, zero, suc}
use native.Mathlib.Omega.{arith}
use lib.ListN.{replicate}
use Rattle.marks.specs.declared.kinds.Kind.TheVariants.{AtOnce}
use Rattle.marks.specs.Counts.{last_or}
use Rattle.marks.specs.Lawful.{Lawful, StayedThenLeft}
use Rattle.marks.proofs.KindOf.{at_once_told}
use Rattle.marks.proofs.Lists.{by_the_last, replicate_last}
use Rattle.marks.proofs.Counts.{last_is}
use Rattle.marks.proofs.Lawful.{Follows, lawful_prefix, lawful_follows, follows_lawful}
use Rattle.marks.proofs.Runs.{all_paid_lawful}

module _ (open_months : ℕ) where
  abbrev stayed_then_left : (a b : ℕ) → List ℕ
  stayed_then_left a b = replicate a 1 ++ replicate b 2

  -- after the month of leaving the last mark is a 2
  left_last : (a b : ℕ) → last_or 0 (stayed_then_left a (suc b)) ≡ 2
  left_last a b =
      ap (λ (l : List ℕ). last_or 0 (replicate a 1 ++ l)) (replicate_last b 2)
      ∙ ap (last_or 0) (sym (append_assoc (replicate a 1) (replicate b 2) (2 ∷ [])))
      ∙ last_is 0 (stayed_then_left a b) 2

  one_more : (ms : List ℕ) (m : ℕ) → Follows AtOnce open_months ms m → StayedThenLeft ms → StayedThenLeft (ms ++ (m ∷ []))
  one_more ms zero f s = absurd (at_once_told {kind = AtOnce} refl (f.missed refl))
  one_more ms (suc zero) f (a, (zero, is)) =
      (suc a, (zero, rw (is, append-nil) (sym (replicate_last a 1))))
  one_more ms (suc zero) f (a, (suc b, is)) =
      let two = f.ends (ap (last_or 0) is ∙ left_last a b) in
      absurd (let none : ⊥ = omega arith in none)
  one_more ms (suc (suc zero)) f (a, (b, is)) =
      (a, (suc b, rw is (append_assoc (replicate a 1) (replicate b 2) (2 ∷ []) ∙ ap (λ (l : List ℕ). replicate a 1 ++ l) (sym (replicate_last b 2)))))
  one_more ms (suc (suc (suc m))) f s = absurd (let none : ⊥ = omega (arith, f.known) in none)

  pub lawful_shape : (ms : List ℕ) → Lawful AtOnce open_months ms → StayedThenLeft ms
  lawful_shape ms =
      by_the_last (λ (xs : List ℕ). Lawful AtOnce open_months xs → StayedThenLeft xs)
      (λ xs x p h. one_more xs x (lawful_follows AtOnce open_months xs x h) (p (lawful_prefix AtOnce open_months xs (x ∷ []) h)))
      (λ h. (0, (0, refl)))
      ms

  left_lawful : (a b : ℕ) → Lawful AtOnce open_months (stayed_then_left a b)
  left_lawful a zero = rw (append-nil {A = ℕ} (replicate a 1)) (all_paid_lawful AtOnce open_months a)
  left_lawful a (suc b) =
      rw (replicate_last b 2, ← append_assoc)
      (follows_lawful AtOnce open_months (stayed_then_left a b) 2 (left_lawful a b)
      (record {
        known = omega arith;
        begins = λ e z. omega arith;
        missed = λ z. absurd (omega arith);
        resumes = λ e. absurd (omega arith);
        ends = λ e. refl;
      }))

  pub shape_lawful : (ms : List ℕ) → StayedThenLeft ms → Lawful AtOnce open_months ms
  shape_lawful ms (a, (b, is)) = rw is (left_lawful a b)
