-- "The exact credit", E5: fractions as pairs of whole numbers, never reduced and never rounded.
-- Assumes nothing.
use Rattle.std.specs.Prelude.{ℕ, ◌+◌, ◌*◌, ◌-◌}

infix 60 ◌over◌
infixl 62 ◌divided_by◌
infixl 65 ◌plus◌ ◌minus◌
infixr 70 ◌times◌
-- E5: a numerator over a denominator
pub record Fraction : Type 0 where
  pub num : ℕ
  pub den : ℕ

-- E5: the fraction n ÷ d
abbrev pub ◌over◌ : ℕ → ℕ → Fraction
n over d = record { num = n; den = d }

-- E5: sum
abbrev pub ◌plus◌ : Fraction → Fraction → Fraction
x plus y = (x.num * y.den + y.num * x.den) over (x.den * y.den)

-- E5: difference, where y is at most x (`exact_rises` of proofs/Exact: it is, wherever the exact credit takes one)
abbrev pub ◌minus◌ : Fraction → Fraction → Fraction
x minus y = (x.num * y.den - y.num * x.den) over (x.den * y.den)

-- E5: a number times a fraction
abbrev pub ◌times◌ : ℕ → Fraction → Fraction
n times x = (n * x.num) over x.den

-- E5: a fraction divided by a number
abbrev pub ◌divided_by◌ : Fraction → ℕ → Fraction
x divided_by n = x.num over (x.den * n)
