-- Laws of the two kinds of contract, and of how many marks each takes.
-- Assumes nothing.
use mathlib.Core.Bool.{true, false}
use mathlib.Core.Path.{◌≡◌, refl, sym, ap, subst, ◌∙◌}
use Prim.Native.Nat.{ℕ, ◌*◌, ◌≤◌, ◌<◌}
use native.Mathlib.Omega.{arith}
use borrow.Author.Tests.{eqb-true, eqb-false, eq-eqb, ne_eqb}
use lib.Dec.{T, eqb}
use Rattle.common.specs.Calendar.{months_in_year}
use Rattle.common.proofs.Tests.{by_test}
use Rattle.scheme.specs.Scheme.{longest_term, lump_sum_marks, most_marks}
use Rattle.marks.specs.declared.kinds.Kind.{Kind}
use Rattle.marks.specs.declared.kinds.Kind.TheVariants.{Monthly, AtOnce}
use Rattle.marks.specs.Kind.{kind_of, is_monthly, mark_limit}

-- a kind by the test of it

pub monthly_told : (kind : Kind) → is_monthly kind ≡ true → kind ≡ Monthly
monthly_told kind =
    elim kind as (λ kind. is_monthly kind ≡ true → kind ≡ Monthly) [
      | Monthly ↦ λ e. refl
      | AtOnce ↦ λ e. absurd (subst T (sym e) tt)
    ]

pub at_once_told : {kind : Kind} → is_monthly kind ≡ false → kind ≡ Monthly → ⊥
at_once_told e m = subst T (sym (ap is_monthly m) ∙ e) tt

-- a term's kind, and its most marks

pub kind_at_once : (term : ℕ) → term ≡ 0 → kind_of term ≡ AtOnce
unfolding kind_of
kind_at_once term z = rw (eq-eqb term 0 z)

pub kind_monthly : (term : ℕ) → 0 < term → kind_of term ≡ Monthly
unfolding kind_of
kind_monthly term some = rw (ne_eqb term 0 (λ z. omega arith))

pub lump_sum_limit : (term : ℕ) → term ≡ 0 → mark_limit term ≡ lump_sum_marks
unfolding mark_limit
lump_sum_limit term z = rw (eq-eqb term 0 z)

pub monthly_limit : (term : ℕ) → 0 < term → mark_limit term ≡ months_in_year * term
unfolding mark_limit
monthly_limit term some = rw (ne_eqb term 0 (λ z. omega arith))

-- no term has more marks than the longest
pub limit_most : (term : ℕ) → term ≤ longest_term → mark_limit term ≤ most_marks
limit_most term high =
    by_test (eqb term 0) (λ e. omega (arith, lump_sum_limit term (eqb-true term 0 e)))
    (λ e. omega (arith, high, monthly_limit term (omega (arith, eqb-false term 0 e))))
