-- What refuses the rates that are looked up.
-- Assumes nothing.
use mathlib.Core.Bool.{Bool, true, false, not, ◌&&◌, ◌||◌}
use mathlib.Core.Path.{◌≡◌, refl, sym}
use Prim.Native.Nat.{ℕ, ◌+◌, ◌≤◌, ◌^◌}
use native.Mathlib.Omega.{arith}
use Rattle.std.specs.Prelude.{Some, None}
use Rattle.std.proofs.lemmas.Option.{none-some}
use lib.Dec.{eqb}
use borrow.Author.Tests.{eq-eqb, ne_eqb, eqb-true, eqb-false}
use Rattle.common.specs.Choice.{pick}
use Rattle.terms.specs.declared.Terms.{Terms}
use Rattle.terms.specs.Rate.{table_rate}
use Rattle.terms.specs.Rules.{missing_upper, no_rate, no_upper_rate}
use Rattle.terms.specs.RefusalParts.{rate_refusal}
use Rattle.election.specs.LookedUp.{if_printed}
use Rattle.election.proofs.Laws.{rate_past}

-- a rate is found just where it is not 0
module _ (n : ℕ) where
  pub found : (r : ℕ) → if_printed n ≡ Some r → (n ≡ r) × (n ≡ 0 → ⊥)
  found r = go (eqb n 0) refl
    where
      go : (b : Bool) → eqb n 0 ≡ b → pick b None (Some n) ≡ Some r → (n ≡ r) × (n ≡ 0 → ⊥)
      go true z e = absurd (none-some r e)
      go false some e = (cc, eqb-false n 0 some)

  pub not_found : if_printed n ≡ None → n ≡ 0
  not_found = go (eqb n 0) refl
    where
      go : (b : Bool) → eqb n 0 ≡ b → pick b None (Some n) ≡ None → n ≡ 0
      go true z e = eqb-true n 0 z
      go false some e = absurd (none-some n (sym e))

-- no rate is printed for a pension age that 32 bits do not hold
pub past_is_zero : (t : Terms) (p : ℕ) → 2 ^ 32 ≤ p → table_rate t p ≡ 0
past_is_zero t p past = rate_past t p (omega (arith, past))

pub past_is_none : (t : Terms) (p : ℕ) → 2 ^ 32 ≤ p → None ≡ if_printed (table_rate t p)
past_is_none t p past = rw (past_is_zero t p past)

-- where no rate is found: 5 for the lower one and for a lump sum, 6 for the upper one of a monthly contract
no_rates : (lump lower upper : Bool)
    → ◌≡◌ {A = ℕ} (pick (pick lump (lower || upper) lower) 5 (pick (not lump && upper) 6 0))
    (pick lower 5 (pick upper (pick lump 5 6) 0))
no_rates true true upper = refl
no_rates true false true = refl
no_rates true false false = refl
no_rates false true upper = refl
no_rates false false true = refl
no_rates false false false = refl

module _ (t : Terms) where
  by_lookups : rate_refusal t
      ≡ pick (eqb (table_rate t t.pnpa_years) 0) 5
      (pick (missing_upper t (table_rate t (t.pnpa_years + 1))) (pick (eqb t.term 0) 5 6) 0)
  unfolding rate_refusal no_rate no_upper_rate
  by_lookups = no_rates (eqb t.term 0) (eqb (table_rate t t.pnpa_years) 0) _

  pub lower_lacks : table_rate t t.pnpa_years ≡ 0 → 5 ≡ rate_refusal t
  lower_lacks z = rw (by_lookups, eq-eqb _ _ z)

  module _ (lower : table_rate t t.pnpa_years ≡ 0 → ⊥) where
    pub whole_passes : t.pnpa_months ≡ 0 → 0 ≡ rate_refusal t
    whole_passes whole = rw (by_lookups, ne_eqb _ _ lower, eq-eqb _ _ whole)

    module _ (odd : t.pnpa_months ≡ 0 → ⊥) where
      pub odd_passes : (table_rate t (t.pnpa_years + 1) ≡ 0 → ⊥) → 0 ≡ rate_refusal t
      odd_passes upper = rw (by_lookups, ne_eqb _ _ lower, ne_eqb _ _ odd, ne_eqb _ _ upper)

      pub lump_sum_lacks : table_rate t (t.pnpa_years + 1) ≡ 0 → t.term ≡ 0 → 5 ≡ rate_refusal t
      lump_sum_lacks z lump = rw (by_lookups, ne_eqb _ _ lower, ne_eqb _ _ odd, eq-eqb _ _ z, eq-eqb _ _ lump)

      pub monthly_lacks : table_rate t (t.pnpa_years + 1) ≡ 0 → (t.term ≡ 0 → ⊥) → 6 ≡ rate_refusal t
      monthly_lacks z monthly = rw (by_lookups, ne_eqb _ _ lower, ne_eqb _ _ odd, eq-eqb _ _ z, ne_eqb _ _ monthly)
