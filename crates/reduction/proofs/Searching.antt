-- The search as the code makes it: what is known before candidate k is tried, and what is answered where the search ends.
-- Assumes nothing.
use mathlib.Core.Bool.{Bool, true, false}
use mathlib.Core.List.{List, [], ◌∷◌}
use mathlib.Core.Path.{◌≡◌, refl, sym, ap, ◌∙◌}
use Prim.Native.Nat.{ℕ, zero, suc, ◌+◌, ◌*◌, ◌-◌, ◌^◌, ◌≤◌, ◌<◌, max}
use native.Mathlib.Numerals.{add-one}
use native.Mathlib.Omega.{arith}
use lib.Dec.{ltb}
use lib.ListN.{get_or, set}
use borrow.Author.Tests.{lt-ltb, ltb-true, ltb-false}
use Rattle.common.proofs.Tests.{by_test}
use Rattle.rounding.specs.Nearest.{half_up}
use Rattle.money.specs.Money.{pension}
use Rattle.money.specs.declared.PensionPence.{PensionPence}
use Rattle.reduction.specs.declared.Application.{Application}
use Rattle.reduction.specs.Power.{power_of}
use Rattle.reduction.specs.Potential.{potential_of}
use Rattle.reduction.specs.Range.{InRange}
use Rattle.reduction.specs.Search.{candidate_of, factor_of, years_to, potential_at, is_taken, candidate_is_taken, below_npa, search_by}
use Rattle.reduction.specs.Answer.{answered_reduction, reduction_limit_of}
use Rattle.reduction.proofs.Range.{in_by}
use Rattle.reduction.proofs.Growth.{power_more, power_most}
use Rattle.reduction.proofs.Candidates.{search_from, earliest_age, candidate_least, candidate_first, candidate_later, candidates_rise, candidates_apart, below_npa_lem, not_below_npa, first_below, age_before, years_few}
use Rattle.reduction.proofs.Answers.{tried_of, tried, answer_shown, shown_untaken, shown_taken}

-- before candidate k, of this age: its power, what is left to search, and the B of the candidates before it, all of them below NPA
pub record Searching (a : Application) (k age power : ℕ) (p : List PensionPence) : Type 0 where
  pub in_it : InRange a
  pub few : k ≤ 3
  pub is : age ≡ candidate_of a k
  pub low : age ≤ a.npa
  pub grown : power ≡ power_of (years_to a k)
  pub rest : earliest_age a ≡ search_from a k (3 - k)
  pub noted : p ≡ tried a k

-- one B more
noted_more : (a : Application) (k : ℕ) (b : PensionPence) → k < 3 → b ≡ pension (potential_at a k) → set (tried a k) k b ≡ tried a (k + 1)
unfolding tried_of
noted_more a zero b h e = rw e
noted_more a (suc zero) b h e = rw e
noted_more a (suc (suc zero)) b h e = rw e
noted_more a (suc (suc (suc k))) b h e = absurd (omega arith)

-- one candidate that is not taken
further : (a : Application) (k n : ℕ) → below_npa a k ≡ true → candidate_is_taken a k ≡ false → search_from a k (suc n) ≡ search_from a (suc k) n
unfolding search_by
further a k n below t = rw (below, t)

-- no candidate from k on, however many are left
ended : (a : Application) (k n : ℕ) → below_npa a k ≡ false → search_from a k n ≡ 0
unfolding search_by
ended a k zero past = refl
ended a k (suc n) past = rw past

-- before the first
module _ (a : Application) (in_it : InRange a) {age : ℕ} (first : age ≡ max 65 (a.npa - 3)) where
  pub first_later : a.age ≤ age
  first_later = omega (arith, candidate_first a first, age_before a in_it 0)

  pub first_few : age - a.age ≤ 45
  unfolding years_to
  first_few = omega (arith, candidate_first a first, years_few a in_it 0 (omega arith))

  pub search_begun : {power : ℕ} {p : List PensionPence} → power ≡ power_of (age - a.age) → p ≡ pension 0 ∷ pension 0 ∷ pension 0 ∷ [] → Searching a 0 age power p
  unfolding tried_of years_to
  search_begun e nothing =
      let is = candidate_first a first in
      record {
        in_it = in_it;
        few = omega arith;
        is = is;
        low = omega (arith, first_below a in_it);
        grown = e ∙ ap (λ (n : ℕ). power_of (n - a.age)) is;
        rest = refl;
        noted = nothing;
      }

module _ (a : Application) {k age power : ℕ} {p : List PensionPence} (s : Searching a k age power p) where
  years_are : age - a.age ≡ years_to a k
  unfolding years_to
  years_are = ap (λ (n : ℕ). n - a.age) s.is

  pub later_age : a.age ≤ age
  later_age = omega (arith, s.is, age_before a s.in_it k)

  pub power_is : power ≡ power_of (age - a.age)
  power_is = s.grown ∙ ap power_of (sym years_are)

  -- the search, where a candidate is left
  searching_on : k < 3 → earliest_age a ≡ search_from a k (suc (2 - k))
  searching_on h = s.rest ∙ ap (search_from a k) (omega arith)

  -- the candidates before it are below NPA
  before_below : (j : ℕ) → ltb j k ≡ true → below_npa a j ≡ true
  before_below j e = below_npa_lem a j (omega (arith, candidates_apart a j k (ltb-true j k e), s.is, s.low))

  -- at NPA the search ends
  pub past_npa : a.npa ≤ age → answered_reduction 0 p ≡ reduction_limit_of a
  unfolding search_by
  past_npa past =
      let here = not_below_npa a k (omega (arith, s.is)) in
      let none : earliest_age a ≡ 0 = s.rest ∙ ended a k (3 - k) here in
      let at_npa : (j : ℕ) → below_npa a j ≡ ltb j k =
      λ j. by_test (ltb j k)
      (λ e. rw e (before_below j e))
      (λ e. rw e (not_below_npa a j (omega (arith, candidates_rise a k j (ltb-false j k e), s.is)))) in
      rw s.noted (answer_shown a s.in_it k 0 none (λ j l. shown_untaken a k j (at_npa j)))

  -- no candidate is left: the three end at NPA at the latest
  pub no_candidate_left : 3 ≤ k → answered_reduction 0 p ≡ reduction_limit_of a
  unfolding candidate_of
  no_candidate_left h = past_npa (omega (arith, s.is))

  -- an age is none of the 0s that say that there is no scope
  pub some_age : true ≡ ltb 0 age
  some_age = sym (lt-ltb 0 age (omega (arith, s.is, candidate_least a k)))

  -- a candidate below NPA
  module _ (low : age < a.npa) where
    here_below : candidate_of a k < a.npa
    here_below = omega (arith, s.is)

    pub among : k < 3
    unfolding candidate_of
    among = omega (arith, here_below)

    pub candidate_years : age - a.age ≤ 45
    candidate_years = omega (arith, years_are, years_few a s.in_it k among)

    pub power_fits : power * 1015 < 2 ^ 64
    power_fits = omega (arith, power_is, power_most (age - a.age) candidate_years)

    -- what the code works out for it
    module _ {b : PensionPence} (is : b ≡ pension (potential_of (age - a.age) a.pay (get_or a.erfs k 0))) where
      value : b ≡ pension (potential_at a k)
      unfolding potential_at factor_of
      value = is ∙ rw years_are

      more : set p k b ≡ tried a (k + 1)
      more = rw s.noted (noted_more a k b among value)

      test : {t v : Bool} → t ≡ is_taken b.0 a.existing.0 a.limit.0 → t ≡ v → candidate_is_taken a k ≡ v
      unfolding candidate_is_taken
      test told e = rw value at (sym told ∙ e)

      module _ {t : Bool} (told : t ≡ is_taken b.0 a.existing.0 a.limit.0) where
        pub taken_here : t ≡ true → answered_reduction age (set p k b) ≡ reduction_limit_of a
        unfolding search_by
        taken_here e =
            let found : earliest_age a ≡ candidate_of a k = searching_on among ∙ rw (below_npa_lem a k here_below, test told e) in
            rw (more, s.is) (answer_shown a s.in_it (k + 1) (candidate_of a k) found (λ j l. shown_taken a k here_below j))

        pub one_further : {next : ℕ} → t ≡ false → next ≡ half_up (power * 1015) 1000 → Searching a (k + 1) (age + 1) next (set p k b)
        unfolding years_to
        one_further e grown =
            let left : 3 - (k + 1) ≡ 2 - k = omega (arith, among) in
            let years : years_to a k + 1 ≡ years_to a (k + 1) = omega (arith, candidate_later a k 1, age_before a s.in_it k) in
            record {
              in_it = s.in_it;
              few = omega (arith, among);
              is = omega (arith, candidate_later a k 1, s.is);
              low = omega arith;
              grown = grown ∙ power_more (years_to a k) power s.grown ∙ ap power_of years;
              rest = searching_on among ∙ further a k (2 - k) (below_npa_lem a k here_below) (test told e) ∙ rw (left, add-one);
              noted = more;
            }

-- for the steps of the code's search: that its numbers fit
pub ruleset search_steps = (in_by, first_later, first_few, candidate_years, power_is, power_fits)
