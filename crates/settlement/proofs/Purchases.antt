-- The published tables meet what the theorems on credits and the code ask of rates, and what they earn fits 32 bits.
-- Assumes nothing.
use mathlib.Core.List.{List}
use mathlib.Core.Path.{◌≡◌, refl, sym, ap, ◌∙◌}
use Rattle.std.specs.Prelude.{Some, None}
use Prim.Native.Nat.{ℕ, ◌+◌, ◌≤◌, ◌<◌, ◌^◌}
use native.Mathlib.Nat.{mul-le-mul}
use native.Mathlib.Omega.{arith}
use lib.ListN.{length, get_or}
use Rattle.rounding.specs.Nearest.{nearest, combine}
use Rattle.rounding.proofs.InForce.{nearest_within_half}
use Rattle.rates.specs.Rates.{rate_of}
use Rattle.terms.specs.declared.Terms.{Terms}
use Rattle.election.specs.declared.TableRates.{TableRates}
use Rattle.election.specs.ContributionOf.{contribution_at, contribution_in}
use Rattle.election.specs.LookedUp.{rates_of}
use Rattle.election.specs.TermsAccepted.{TermsAccepted}
use Rattle.terms.specs.Rate.{units_of}
use Rattle.terms.proofs.Laws.{monthly_rate}
use Rattle.election.proofs.Laws.{upper_rate_is, upper_rate_none}
use Rattle.scheme.specs.Scheme.{pounds_in_pence, cap_pence, most_marks}
use Rattle.years.specs.Years.{own_contribution}
use Rattle.credit.specs.Credit.{credit_over, credit_in}
use Rattle.credit.proofs.Bounds.{credit_most}
use Rattle.years.specs.Elected.{purchase_in}
use Rattle.years.proofs.Elected.{rates_fall}
use Rattle.distance.specs.Distance.{SoundPurchases}
use Rattle.settlement.specs.Credit.{purchases_of, credit_of}

module _ (t : Terms) (a : TermsAccepted t 0) (monthly : 0 < t.term) where
  lower_printed : 0 < rate_of t.option t.pnpa_years t.age t.term
  lower_printed = rw (monthly_rate t t.pnpa_years monthly) at a.lower_printed

  upper_printed : (t.pnpa_months ≡ 0 → ⊥) → 0 < rate_of t.option (t.pnpa_years + 1) t.age t.term
  upper_printed odd = rw (monthly_rate t (t.pnpa_years + 1) monthly) at (a.upper_printed odd)

  pub sound : SoundPurchases (purchases_of t)
  sound =
      record {
        odd_most = a.pension_age.months_high;
        term_most = a.term_high;
        lower_falls = rates_fall t.option t.pnpa_years t.age t.term (units_of t) lower_printed;
        upper_falls =
            λ odd. rates_fall t.option (t.pnpa_years + 1) t.age t.term (units_of t) (upper_printed (λ z. omega arith));
        same_term = refl;
        same_unit = refl;
        same_units = refl;
      }

  amount_fits : pounds_in_pence t.amount < 2 ^ 32
  amount_fits = omega (arith, a.under_cap)

  -- what `year_credits` asks of the rates that the terms go by
  module _ {rates : TableRates} (are : rates ≡ rates_of t) where
    pub lower_rate_asked : (rates.lower ≡ rate_of t.option t.pnpa_years t.age t.term) × ((0 < rates.lower) × (pounds_in_pence t.amount < 2 ^ 32))
    lower_rate_asked = rw are (monthly_rate t t.pnpa_years monthly, (a.lower_printed, amount_fits))

    pub upper_rate_asked : (rate : ℕ) → rates.upper ≡ Some rate
        → (rate ≡ rate_of t.option (t.pnpa_years + 1) t.age t.term) × ((0 < rate) × (pounds_in_pence t.amount < 2 ^ 32))
    upper_rate_asked rate e =
        let upper = upper_rate_is t rate (sym (ap (λ (r : TableRates). r.upper) are) ∙ e) in
        rw upper.1 (monthly_rate t (t.pnpa_years + 1) monthly, (a.upper_printed upper.0, amount_fits))

    -- only odd months have an upper rate
    pub no_upper_rate_asked : rates.upper ≡ None → t.pnpa_months ≡ 0
    no_upper_rate_asked e = upper_rate_none t (sym (ap (λ (r : TableRates). r.upper) are) ∙ e)

  -- what the marks of at most the longest term earn in a table of which no year passes the amount fits 32 bits
  pub credit_fits : (years ms : List ℕ) → length ms ≤ most_marks → ((n : ℕ) → get_or years n 0 ≤ pounds_in_pence t.amount)
      → credit_over nearest years ms < 2 ^ 32
  credit_fits years ms few most =
      omega (
        arith,
        a.under_cap,
        credit_most nearest nearest_within_half years (pounds_in_pence t.amount) most ms,
        mul-le-mul {n₁ = length ms} {m₁ = pounds_in_pence t.amount} {n₂ = most_marks} {m₂ = cap_pence} few (omega (arith, a.under_cap)),
      )

-- a table's own contribution, by which its credit is worked out, is the one that the terms have
pub own_is_contribution : (t : Terms) (p : ℕ) → 0 < t.term → own_contribution (purchase_in t p) ≡ contribution_in t p
unfolding contribution_in contribution_at
own_is_contribution t p monthly = rw (monthly_rate t p monthly)

-- the credit of a contract is that of its tables combined
pub credit_combined : (t : Terms) (ms : List ℕ)
    → credit_of t ms ≡ combine t.pnpa_months (credit_in nearest (purchase_in t t.pnpa_years) ms) (credit_in nearest (purchase_in t (t.pnpa_years + 1)) ms)
unfolding credit_of combine
credit_combined t ms = refl
