-- The rules of Table S: a computed test, and the law that carries it to the lump sum for each option, pension age and age; and where a lump
-- sum stands in its column.
-- Assumes nothing.
use mathlib.Core.Path.{◌≡◌, sym, ◌∙◌}
use mathlib.Core.List.{List, [], ◌∷◌}
use Prim.Native.Nat.{ℕ, suc, ◌-◌, ◌%◌, ◌≤◌, ◌<◌}
use native.Mathlib.Omega.{arith}
use lib.Dec.{T, ltb, eqb}
use lib.ListN.{get_or}
use borrow.Author.Tests.{eqb-true, ltb-true, ltb-false, le-ltb}
use Rattle.common.proofs.Tests.{by_test}
use Rattle.scheme.specs.Scheme.{step_pence}
use Rattle.scheme.specs.Bounds.{most_lump_sum_rate}
use Rattle.rates.specs.Rates.{lump_column, lump_rate_of, LumpPrinted}
use Rattle.common.proofs.Computed.{Comparison, always, given, AllTrue, compare, compared, all, all_at}
use Rattle.rates.proofs.Entries.{above_0}

-- above £250, at most £4,560, in tens of pounds, never less a year later, and less without than with dependant's pension
abbrev rules_of : ℕ → ℕ → ℕ → List Comparison
rules_of o p age =
    always (suc step_pence) (lump_rate_of o p age)
    ∷ always (lump_rate_of o p age) most_lump_sum_rate
    ∷ always (lump_rate_of o p age % 1000) 0
    ∷ given (suc age) 64 (lump_rate_of o p age) (lump_rate_of o p (suc age))
    ∷ always (suc (lump_rate_of 1 p age)) (lump_rate_of 2 p age)
    ∷ []

-- options 1 and 2, pension ages 65 to 68, ages 16 to 64
table_passes : T (all (λ o. all (λ p. all (λ age. compare (rules_of o p age)) 16 49) 65 4) 1 2)
unfolding lump_rate_of lump_column
table_passes = tt

facts : (o p age : ℕ) → LumpPrinted o p age → AllTrue (rules_of o p age)
facts o p age r =
    compared (rules_of o p age)
    (all_at (λ age. compare (rules_of o p age)) 16 49
    (all_at (λ p. all (λ age. compare (rules_of o p age)) 16 49) 65 4
    (all_at (λ o. all (λ p. all (λ age. compare (rules_of o p age)) 16 49) 65 4) 1 2 table_passes o (omega arith) (omega arith))
    p (omega arith) (omega arith)) age (omega arith) (omega arith))

-- only the two options have a column
has_column : (o k : ℕ) → 0 < get_or (lump_column o) k 0 → (1 ≤ o) × (o ≤ 2)
unfolding lump_column
has_column o k h =
    by_test (eqb o 1) (λ e. omega (arith, eqb-true o 1 e))
    (λ e. by_test (eqb o 2) (λ f. omega (arith, eqb-true o 2 f)) (λ f. absurd (omega (arith, rw (e, f) at h))))

pub printed_lump : (o p age : ℕ) → 0 < lump_rate_of o p age → LumpPrinted o p age
unfolding lump_rate_of
printed_lump o p age h =
    let a = above_0 (ltb p 65) h in
    let b = above_0 (ltb 68 p) a.1 in
    let c = above_0 (ltb age 16) b.1 in
    let d = above_0 (ltb 64 age) c.1 in
    let option = has_column o (age - 16) d.1 in
    omega (arith, ltb-false p 65 a.0, ltb-false 68 p b.0, ltb-false age 16 c.0, ltb-false 64 age d.0)

-- within the table's ages the lump sum is the entry of the option's column, whatever the pension age
pub lump_entry : (o p age : ℕ) → 65 ≤ p → p ≤ 68 → 16 ≤ age → age ≤ 64 → lump_rate_of o p age ≡ get_or (lump_column o) (age - 16) 0
unfolding lump_rate_of
lump_entry o p age p-low p-high low high = rw (le-ltb p 65 p-low, le-ltb 68 p p-high, le-ltb age 16 low, le-ltb 64 age high)

-- so it is what stands there in the column that was chosen
pub lump_chosen : {r option : ℕ} {column : List ℕ} (o p age : ℕ) → 65 ≤ p → p ≤ 68 → 16 ≤ age → age ≤ 64 → option ≡ o → column ≡ lump_column o
    → r ≡ get_or column (age - 16) 0 → r ≡ lump_rate_of option p age
lump_chosen o p age p-low p-high low high eo ec e = e ∙ rw (ec, eo) (sym (lump_entry o p age p-low p-high low high))

-- and 0 where none is printed
pub no_lump : (o p age : ℕ) → (LumpPrinted o p age → ⊥) → lump_rate_of o p age ≡ 0
no_lump o p age out =
    by_test (ltb 0 (lump_rate_of o p age)) (λ e. absurd (out (printed_lump o p age (ltb-true 0 _ e))))
    (λ e. omega (arith, ltb-false 0 (lump_rate_of o p age) e))

-- the rules of the lump sum for an option at a pension age and an age
pub record LumpRules (o p age : ℕ) : Type 0 where
  pub above : step_pence < lump_rate_of o p age
  pub most : lump_rate_of o p age ≤ most_lump_sum_rate
  pub tens : lump_rate_of o p age % 1000 ≡ 0
  pub rises : age < 64 → lump_rate_of o p age ≤ lump_rate_of o p (suc age)
  pub options : lump_rate_of 1 p age < lump_rate_of 2 p age

pub lump_rules : (o p age : ℕ) → LumpPrinted o p age → LumpRules o p age
lump_rules o p age r =
    let f = facts o p age r in
    record { above = f.0; most = f.1.0; tens = omega arith; rises = f.1.1.1.0; options = f.1.1.1.1.0 }
