-- One table: the credit of marks that begin paid lies within 2k − 1 pence of the exact credit.
-- Assumes nothing.
use mathlib.Core.Bool.{Bool, true}
use mathlib.Core.List.{List, ◌∷◌}
use mathlib.Core.Logic.{⊎_elim}
use mathlib.Core.Path.{◌≡◌, ap, ◌∙◌}
use Prim.Native.Nat.{ℕ, suc, ◌+◌, ◌*◌, ◌-◌, ◌/◌, ◌%◌, ◌≤◌, ◌<◌}
use native.Mathlib.Nat.{mul-le-mul_left, le_of_mul-le-mul_right}
use native.Mathlib.Omega.{arith}
use lib.ListN.{length}
use Rattle.common.specs.Calendar.{months_in_year}
use Rattle.scheme.specs.Scheme.{longest_term}
use Rattle.rounding.specs.Rounding.{WithinHalf, Monotone}
use Rattle.years.specs.Years.{Purchase, own_contribution, year_credit, year_credits, month_value, FallingRates}
use Rattle.credit.specs.Runs.{paid_flags, starts_after, run_count}
use Rattle.credit.specs.Credit.{credit_in}
use Rattle.years.proofs.Years.{year_none, year_within, year_or_none}
use Rattle.credit.proofs.Runs.{length_paid}
use Rattle.distance.specs.Exact.{exact_credit}
use Rattle.distance.specs.Distance.{Within}
use Rattle.distance.proofs.Denominator.{close_within}
use Rattle.distance.proofs.Exact.{denominator, share, exact_over, month_over, denominator_positive, over_exact, over_step, exact_is}
use Rattle.years.specs.Years.{month_numerator}
use Rattle.distance.proofs.Months.{by_numerator, month_year, next_rises, credit_by_months}
use Rattle.distance.proofs.Near.{Close, blend_near, near_first}

module _ (round : ℕ → ℕ → ℕ) (half : WithinHalf round) (p : Purchase) (short : p.term ≤ longest_term) (falling : FallingRates p) where
  year_near : (n : ℕ) → Close (2 * denominator p * year_credit round p n) (2 * exact_over p n) (1 * denominator p)
  year_near n = ⊎_elim (λ none. rw (none round, none (share p)) (omega arith)) (λ h. in_term h.0 h.1) (year_or_none p n)
    where
      in_term : 0 < n → n ≤ p.term → Close (2 * denominator p * year_credit round p n) (2 * exact_over p n) (1 * denominator p)
      in_term a b =
          let q = own_contribution p * p.unit in
          let r = falling.positive n a b in
          let e = over_exact p falling n a b in
          rw (year_within round p n a b) (
            le_of_mul-le-mul_right (omega (arith, mul-le-mul_left (denominator p) (half.above q (p.rate n) r))) r,
            le_of_mul-le-mul_right (omega (arith, mul-le-mul_left (denominator p) (half.below q (p.rate n) r))) r,
          )

  month_near : (i : ℕ) → Close (12 * denominator p * month_value round (year_credits round p) i) (month_numerator (exact_over p) i) (12 * denominator p)
  month_near i =
      let n = i / 12 in
      let year = year_credit round p in
      let e = exact_over p in
      let d = denominator p in
      let near = blend_near round half (i % 12) (year n) (year (suc n)) (e n) (e (suc n)) d 1 (omega arith)
      (year_near n) (year_near (suc n)) in
      rw (by_numerator round p short i) (omega arith)

  pub table_distance : Monotone round → (marks : List ℕ) (rest : List Bool) → paid_flags marks ≡ true ∷ rest → length marks ≤ months_in_year * p.term
      → Within (credit_in round p marks) (exact_credit p marks) (2 * (2 * run_count marks - 1))
  unfolding exact_credit run_count starts_after
  table_distance mono marks rest e h =
      let l : length (true ∷ rest) ≤ months_in_year * p.term = omega (arith, length_paid marks, ap length e) in
      let none : month_value round (year_credits round p) 0 ≡ 0 = month_year round half p short 0 ∙ year_none round p in
      let none' : month_numerator (exact_over p) 0 ≡ 0 = omega (arith, year_none (share p) p) in
      let near = near_first (month_value round (year_credits round p)) (month_numerator (exact_over p)) (month_over p) (12 * denominator p)
      (months_in_year * p.term) (next_rises round mono p short falling) (over_step p falling) (λ i g. month_near i) none none' (true ∷ rest) l in
      let bound : 2 * (2 * suc (starts_after true rest) - 1) ≡ 4 * starts_after true rest + 2 = omega arith in
      rw (credit_by_months round mono p short falling marks h, e, bound)
      (close_within _ _ (omega (arith, denominator_positive p falling)) (exact_is p falling (true ∷ rest) 0 (omega arith))
      (omega (arith, near)))
