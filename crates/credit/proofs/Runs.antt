-- Marks read one at a time give the credit over the unbroken runs, for any rounding and any list of marks, and so for any first part of it.
-- Assumes nothing.
use mathlib.Core.Bool.{Bool, true, false}
use mathlib.Core.List.{List, [], ◌∷◌, ◌++◌}
use mathlib.Core.Path.{◌≡◌, refl, ◌∙◌}
use Prim.Native.Nat.{ℕ, suc, ◌+◌, ◌<◌}
use native.Mathlib.Numerals.{add-one}
use native.Mathlib.Omega.{arith}
use lib.Dec.{eqb}
use lib.ListN.{length, length-map, take, get_or}
use lib.Seq.{take-suc}
use Rattle.common.specs.Choice.{pick}
use Rattle.money.specs.Money.{pension}
use Rattle.credit.specs.declared.CreditSoFar.{CreditSoFar}
use Rattle.years.specs.Years.{month_value}
use Rattle.credit.specs.Runs.{paid_flags, runs_from, run_from, runs_in}
use Rattle.credit.specs.Credit.{sum_over_runs, credit_over}
use Rattle.credit.specs.SoFar.{nothing_yet, credit_at, after_mark, after_marks}

pub length_paid : (marks : List ℕ) → length (paid_flags marks) ≡ length marks
length_paid marks = length-map marks (λ mark. eqb mark 1)

-- a first mark that is paid, and one that is not
by_first : {A : Type 0} (p : Bool) (f : A → ℕ) (x y : A) (g : Bool → ℕ) → f x ≡ g true → f y ≡ g false → f (pick p x y) ≡ g p
by_first true f x y g a b = a
by_first false f x y g a b = b

module _ (round : ℕ → ℕ → ℕ) (years : List ℕ) where
  after_marks_append : (e : CreditSoFar) (xs ys : List ℕ) → after_marks round years e (xs ++ ys) ≡ after_marks round years (after_marks round years e xs) ys
  unfolding after_marks
  after_marks_append e [] ys = refl
  after_marks_append e (x ∷ xs) ys = after_marks_append (after_mark round years e x) xs ys

  -- one mark more is one step more
  pub one_mark_more : (e : CreditSoFar) (marks : List ℕ) (i : ℕ) → i < length marks
      → after_marks round years e (take (i + 1) marks) ≡ after_mark round years (after_marks round years e (take i marks)) (get_or marks i 0)
  unfolding after_marks
  one_mark_more e marks i h = rw (add-one, take-suc marks i 0, after_marks_append)

  -- outside a run at month i, and inside one that began at month a, where the closed runs earned s
  mutual
    unfolding credit_at after_mark after_marks sum_over_runs runs_from run_from

    outside : (marks : List ℕ) (s i : ℕ)
        → credit_at round years (after_marks round years (record { month = i; from = i; sum = pension s }) marks)
        ≡ s + sum_over_runs (month_value round years) (runs_from i (paid_flags marks))
    outside [] s i = omega arith
    outside (m ∷ ms) s i =
        by_first (eqb m 1) (λ e. credit_at round years (after_marks round years e ms)) _ _
        (λ p. s + sum_over_runs (month_value round years) (runs_from i (p ∷ paid_flags ms)))
        (rw add-one (inside ms s i (suc i)))
        (rw add-one (outside ms _ (suc i) ∙ omega arith))

    inside : (marks : List ℕ) (s a i : ℕ)
        → credit_at round years (after_marks round years (record { month = i; from = a; sum = pension s }) marks)
        ≡ s + sum_over_runs (month_value round years) (run_from a i (paid_flags marks))
    inside [] s a i = omega arith
    inside (m ∷ ms) s a i =
        by_first (eqb m 1) (λ e. credit_at round years (after_marks round years e ms)) _ _
        (λ p. s + sum_over_runs (month_value round years) (run_from a i (p ∷ paid_flags ms)))
        (rw add-one (inside ms s a (suc i)))
        (rw add-one (outside ms _ (suc i) ∙ omega arith))

  -- the credit after the marks is the sum over their runs
  pub by_runs : (marks : List ℕ) → credit_at round years (after_marks round years nothing_yet marks) ≡ credit_over round years marks
  unfolding credit_over runs_in
  by_runs marks = outside marks 0 0 ∙ omega arith
