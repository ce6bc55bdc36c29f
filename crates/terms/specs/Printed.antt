-- "What each operation gives", the refusals 5 and 6 of O1 in the words of the print rules, R3 and R4. proofs/Printed proves them.
-- Assumes nothing.
use Rattle.std.specs.Prelude.{false, ◌⊎◌, ◌≡◌, ℕ, ◌+◌, ◌<◌}
use Rattle.scheme.specs.Scheme.{first_age, print_margin}
use Rattle.rates.specs.Rates.{MonthlyPrinted, LumpPrinted}
use Rattle.terms.specs.declared.Terms.{Terms}
use Rattle.terms.specs.Rules.{wrong_option, wrong_pension_age, wrong_term, wrong_payer, refusal_of}

-- C2: the whole pension ages that are needed: the only or lower one, and with odd months the upper
abbrev pub NeededPensionAge : Terms → (pension_age : ℕ) → Type 0
NeededPensionAge t pension_age = (pension_age ≡ t.pnpa_years) ⊎ ((pension_age ≡ t.pnpa_years + 1) × (t.pnpa_months ≡ 0 → ⊥))

-- R4: for an age no lump sum is printed at a pension age that is needed
abbrev pub LacksLumpSum : Terms → (age : ℕ) → Type 0
LacksLumpSum t age = (p : ℕ) × (NeededPensionAge t p × (LumpPrinted t.option p age → ⊥))

-- R3: a monthly rate is printed for the terms at a whole pension age
abbrev pub MonthlyPrintedFor : Terms → (pension_age : ℕ) → Type 0
MonthlyPrintedFor t pension_age = MonthlyPrinted first_age print_margin t.option pension_age t.age t.term

-- R3, R4, refusal 5: the lump sum at a needed pension age, or the monthly rate of the only or lower one, is not printed
abbrev pub LacksRate : Terms → Type 0
LacksRate t =
    ((t.term ≡ 0) × LacksLumpSum t t.age) ⊎ ((0 < t.term) × (MonthlyPrintedFor t t.pnpa_years → ⊥))

-- R3, refusal 6: the monthly rate of the lower pension age is printed, and that of the upper, which odd months need, is not
abbrev pub LacksUpperRate : Terms → Type 0
LacksUpperRate t =
    (0 < t.term) × (MonthlyPrintedFor t t.pnpa_years × ((t.pnpa_months ≡ 0 → ⊥) × (MonthlyPrintedFor t (t.pnpa_years + 1) → ⊥)))

-- O5: the rules that need no rate, 1 to 4, pass
pub record FirstFourPass (t : Terms) : Type 0 where
  pub option : wrong_option t ≡ false
  pub pension_age : wrong_pension_age t ≡ false
  pub term : wrong_term t ≡ false
  pub payer : wrong_payer t ≡ false

-- O5: there 5 and 6 are given just so
pub record PrintedRefusals (t : Terms) (existing : ℕ) : Type 0 where
  pub five : refusal_of t existing ≡ 5 → LacksRate t
  pub just_five : LacksRate t → refusal_of t existing ≡ 5
  pub six : refusal_of t existing ≡ 6 → LacksUpperRate t
  pub just_six : LacksUpperRate t → refusal_of t existing ≡ 6
