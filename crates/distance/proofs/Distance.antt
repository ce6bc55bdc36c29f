-- E7, demand 3: the credit of a contract lies within 2k − 1 pence of the exact credit, half a penny more with odd months.
-- Assumes nothing.
use mathlib.Core.Bool.{Bool, true}
use mathlib.Core.List.{List, ◌∷◌}
use mathlib.Core.Path.{◌≡◌}
use Prim.Native.Nat.{ℕ, suc, ◌*◌, ◌-◌, ◌≤◌}
use native.Mathlib.Nat.{mul-le-mul_right, mul-pos}
use native.Mathlib.Omega.{arith}
use borrow.Author.Tests.{eqb-false}
use lib.Dec.{eqb}
use lib.ListN.{length}
use Rattle.common.specs.Calendar.{months_in_year}
use Rattle.common.proofs.Tests.{by_test}
use Rattle.rounding.specs.Nearest.{blend_by}
use Rattle.rounding.specs.Rounding.{WithinHalf, Monotone}
use Rattle.credit.specs.Runs.{paid_flags, run_count}
use Rattle.credit.specs.Credit.{credit_in}
use Rattle.distance.specs.Fraction.{Fraction}
use Rattle.distance.specs.Exact.{exact_credit, exact_blend}
use Rattle.distance.specs.Distance.{Within, half_pence, Purchases, credit_by, exact_credit_by, SoundPurchases}
use Rattle.distance.proofs.Near.{blend_near}
use Rattle.distance.proofs.Table.{table_distance}
use Rattle.distance.proofs.Tables.{both_tables}

widen : {c h : ℕ} {x : Fraction} (g : ℕ) → h ≤ g → Within c x h → Within c x g
widen {x = x} g l a =
    let m = mul-le-mul_right x.den l in
    record { positive = a.positive; above = omega arith; below = omega arith }

-- the rounding of a blend adds a half penny
blend_within : (round : ℕ → ℕ → ℕ) → WithinHalf round → (m lo hi h : ℕ) (x y : Fraction) → m ≤ 12
    → Within lo x h → Within hi y h → Within (blend_by round m lo hi) (exact_blend m x y) (suc h)
blend_within round half m lo hi h x y l a b =
    let near = blend_near round half m lo hi (x.num * y.den) (y.num * x.den) (x.den * y.den) h l
    (omega (arith, mul-le-mul_right y.den a.above), omega (arith, mul-le-mul_right y.den a.below))
    (omega (arith, mul-le-mul_right x.den b.above), omega (arith, mul-le-mul_right x.den b.below)) in
    record { positive = mul-pos (mul-pos a.positive b.positive) (omega arith); above = omega arith; below = omega arith }

pub distance : (round : ℕ → ℕ → ℕ) → WithinHalf round → Monotone round → (c : Purchases) → SoundPurchases c
    → (marks : List ℕ) → length marks ≤ months_in_year * c.lower.term → (rest : List Bool) → paid_flags marks ≡ true ∷ rest
    → Within (credit_by round c marks) (exact_credit_by c marks) (half_pence c.odd_months (run_count marks))
distance round half mono c sound marks fits rest begins =
    let h = 2 * (2 * run_count marks - 1) in
    let near = both_tables c sound (λ p. Within (credit_in round p marks) (exact_credit p marks) h)
    (λ p term unit units short falling. table_distance round half p short falling mono marks rest begins (rw term fits)) in
    by_test (eqb c.odd_months 0) (λ whole. rw whole (widen _ (omega arith) near.0))
    (λ odd. rw odd
    (widen _ (omega arith) (blend_within round half c.odd_months _ _ h _ _ (omega (arith, sound.odd_most)) near.0
    (near.1 (omega (arith, eqb-false c.odd_months 0 odd))))))
