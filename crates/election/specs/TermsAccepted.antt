-- Not rules: what holds of terms that no rule refuses, gathered for the functions that are called with them.
-- Assumes nothing.
use Rattle.std.specs.Prelude.{◌≡◌, ℕ, ◌+◌, ◌*◌, ◌≤◌, ◌<◌}
use Rattle.common.specs.Calendar.{months_in_year}
use Rattle.scheme.specs.Scheme.{step_pounds, pounds_in_pence, cap_pence, longest_term}
use Rattle.terms.specs.declared.Terms.{Terms}
use Rattle.terms.specs.Rate.{units_of, table_rate}

-- the pension age is from 65 years 0 months to 68 years 0 months
pub record PensionAgeIn (t : Terms) : Type 0 where
  pub months_high : t.pnpa_months < months_in_year
  pub years_low : 65 ≤ t.pnpa_years
  pub age_high : t.pnpa_years * months_in_year + t.pnpa_months ≤ 68 * months_in_year

-- what holds of terms that no rule refuses
pub record TermsAccepted (t : Terms) (existing : ℕ) : Type 0 where
  pub option_low : 1 ≤ t.option
  pub option_high : t.option ≤ 2
  pub pension_age : PensionAgeIn t
  pub term_high : t.term ≤ longest_term
  pub lower_printed : 0 < table_rate t t.pnpa_years
  pub upper_printed : (t.pnpa_months ≡ 0 → ⊥) → 0 < table_rate t (t.pnpa_years + 1)
  pub amount_low : step_pounds ≤ t.amount
  pub whole : units_of t * step_pounds ≡ t.amount
  pub under_cap : existing + pounds_in_pence t.amount ≤ cap_pence
