-- Not rules: marks read one at a time from the left, with what they have earned so far. proofs/Runs shows that this is the sum over the runs.
-- Assumes nothing.
use Rattle.std.specs.Prelude.{List, [], ◌∷◌, ℕ, ◌+◌, ◌-◌, ◌*◌, ◌≤◌, ◌<◌, ◌^◌, eqb}
use Rattle.common.specs.Choice.{pick}
use Rattle.money.specs.Money.{pension}
use Rattle.credit.specs.declared.CreditSoFar.{CreditSoFar}
use Rattle.years.specs.Years.{month_value}

-- before the first mark
abbrev pub nothing_yet : CreditSoFar
nothing_yet = record { month = 0; from = 0; sum = pension 0 }

-- the credit if no mark follows: the run from `from` ends at the present month, and earns nothing where the two are one
unfoldable pub credit_at : (ℕ → ℕ → ℕ) → List ℕ → CreditSoFar → ℕ
credit_at round years e = e.sum.0 + (month_value round years e.month - month_value round years e.from)

-- a paid mark leaves the run open, or opens one at the present month; any other closes it, and the next can begin after this month
unfoldable pub after_mark : (ℕ → ℕ → ℕ) → List ℕ → CreditSoFar → ℕ → CreditSoFar
after_mark round years e mark =
    pick (eqb mark 1)
    (record { month = e.month + 1; from = e.from; sum = e.sum })
    (record { month = e.month + 1; from = e.month + 1; sum = pension (credit_at round years e) })

-- after all the marks of a list
unfoldable pub after_marks : (ℕ → ℕ → ℕ) → List ℕ → CreditSoFar → List ℕ → CreditSoFar
after_marks round years e [] = e
after_marks round years e (mark ∷ marks) = after_marks round years (after_mark round years e mark) marks

-- what a state has to keep to for its sum to fit: few enough marks, each of which earned less than 2 ^ 32 pence
pub record SoFarWithin (e : CreditSoFar) : Type 0 where
  pub few : e.month < 2 ^ 31
  pub small : e.sum.0 ≤ e.month * 2 ^ 32
