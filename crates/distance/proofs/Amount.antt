-- The amount: no credit passes it, and a term that is paid in full earns it.
-- Assumes nothing.
use mathlib.Core.List.{List, [], ◌∷◌}
use mathlib.Core.Path.{◌≡◌, ap, ◌∙◌}
use Prim.Native.Nat.{ℕ, zero, suc, ◌+◌, ◌*◌, ◌-◌, ◌≤◌, ◌<◌}
use native.Mathlib.Nat.{le_refl, le_antisymm}
use native.Mathlib.Omega.{arith}
use lib.ListN.{length, replicate}
use Rattle.common.specs.Calendar.{months_in_year}
use Rattle.scheme.specs.Scheme.{longest_term}
use Rattle.rounding.specs.Rounding.{WithinHalf, Monotone}
use Rattle.rounding.proofs.Laws.{round_whole, combined_most, combined_least}
use Rattle.years.specs.Years.{Purchase, own_contribution, year_credits, month_value, FallingRates}
use Rattle.credit.specs.Runs.{◌until◌, paid_flags, runs_from, run_from, runs_in}
use Rattle.credit.specs.Credit.{sum_over_runs, credit_over, credit_in}
use Rattle.years.proofs.Years.{year_none, year_within, years_most, month_most}
use Rattle.credit.proofs.Months.{paid_growth_most}
use Rattle.distance.specs.Distance.{Purchases, credit_by, SoundPurchases}
use Rattle.distance.proofs.Months.{month_year, next_rises, credit_by_months}
use Rattle.distance.proofs.Tables.{both_tables}

one_run : (n a i : ℕ) → run_from a i (paid_flags (replicate n 1)) ≡ (a until (i + n)) ∷ []
unfolding runs_from
one_run zero a i = ap (λ (b : ℕ). (a until b) ∷ []) (omega arith)
one_run (suc n) a i = one_run n a (suc i) ∙ ap (λ (b : ℕ). (a until b) ∷ []) (omega arith)

all_paid : (value : ℕ → ℕ) (n : ℕ) → 0 < n → sum_over_runs value (runs_in (replicate n 1)) ≡ value n - value 0
unfolding sum_over_runs runs_in runs_from
all_paid value zero h = absurd (omega arith)
all_paid value (suc n) h = rw (one_run n 0 1) (omega (arith, ap value {x = 1 + n} {y = suc n} (omega arith)))

module _ (round : ℕ → ℕ → ℕ) (half : WithinHalf round) where
  module _ (mono : Monotone round) where
    table_most : (p : Purchase) → p.term ≤ longest_term → FallingRates p → (marks : List ℕ) → length marks ≤ months_in_year * p.term
        → credit_in round p marks ≤ p.units * p.unit
    table_most p short falling marks fits =
        omega (
          arith,
          credit_by_months round mono p short falling marks fits,
          paid_growth_most (month_value round (year_credits round p)) marks (λ i h. next_rises round mono p short falling i (omega arith)),
          month_most round half (year_credits round p) (p.units * p.unit) (years_most round half p short falling) (length marks),
        )

    pub contract_most : (c : Purchases) → SoundPurchases c → (marks : List ℕ) → length marks ≤ months_in_year * c.lower.term
        → credit_by round c marks ≤ c.lower.units * c.lower.unit
    contract_most c sound marks fits =
        let u = c.lower.units * c.lower.unit in
        let most = both_tables c sound (λ p. credit_in round p marks ≤ u)
        (λ p term unit units short falling. rw (← unit, ← units) (table_most p short falling marks (rw term fits))) in
        combined_most round half c.odd_months _ _ u (omega (arith, sound.odd_most)) most.0 most.1

  table_full : (p : Purchase) → p.term ≤ longest_term → FallingRates p → 0 < p.term → credit_in round p (replicate (months_in_year * p.term) 1) ≡ p.units * p.unit
  unfolding credit_in credit_over
  table_full p short falling h =
      let r = p.rate p.term in
      let same : own_contribution p * p.unit ≡ p.units * p.unit * r = omega arith in
      omega (
        arith,
        all_paid (month_value round (year_credits round p)) (months_in_year * p.term) (omega arith),
        month_year round half p short 0,
        month_year round half p short p.term,
        year_none round p,
        year_within round p p.term h (le_refl p.term),
        ap (λ (n : ℕ). round n r) same,
        round_whole round half (p.units * p.unit) r (falling.positive p.term h (le_refl p.term)),
      )

  pub full_term : (c : Purchases) → SoundPurchases c → 0 < c.lower.term
      → credit_by round c (replicate (months_in_year * c.lower.term) 1) ≡ c.lower.units * c.lower.unit
  full_term c sound h =
      let u = c.lower.units * c.lower.unit in
      let marks : List ℕ = replicate (months_in_year * c.lower.term) 1 in
      let full = both_tables c sound (λ p. credit_in round p marks ≡ u)
      (λ p term unit units short falling. rw (← term, ← unit, ← units) (table_full p short falling (omega arith))) in
      let l : c.odd_months ≤ 12 = omega (arith, sound.odd_most) in
      le_antisymm (combined_most round half c.odd_months _ _ u l (omega (arith, full.0)) (λ odd. omega (arith, full.1 odd)))
      (combined_least round half c.odd_months _ _ u l (omega (arith, full.0)) (λ odd. omega (arith, full.1 odd)))
