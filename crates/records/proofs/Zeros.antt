-- Marks that are all 0.
-- Assumes nothing.
use mathlib.Core.Bool.{Bool, true, false, ◌&&◌}
use mathlib.Core.List.{List, [], ◌∷◌}
use mathlib.Core.Path.{◌≡◌, refl, sym, ap, subst}
use Prim.Native.Nat.{ℕ, zero, suc}
use lib.Dec.{T, eqb}
use lib.ListN.{drop}
use Rattle.std.specs.List.{list_all}
use Rattle.records.specs.Record.{all_zero}

-- what a test of each mark in turn answers
pub list_all_zero : (ms : List ℕ) → list_all (λ m. eqb m 0) ms ≡ all_zero ms
unfolding all_zero
list_all_zero [] = refl
list_all_zero (m ∷ ms) = ap (λ b. eqb m 0 && b) (list_all_zero ms)

pub zeros_further : (ms : List ℕ) (i : ℕ) → all_zero (drop i ms) ≡ true → all_zero (drop (suc i) ms) ≡ true
unfolding all_zero
zeros_further [] i e = refl
zeros_further (m ∷ ms) zero e = go (eqb m 0) e
  where
    go : (b : Bool) → (b && all_zero ms) ≡ true → all_zero ms ≡ true
    go true e = e
    go false e = absurd (subst T (sym e) tt)
zeros_further (m ∷ ms) (suc i) e = zeros_further ms i e
