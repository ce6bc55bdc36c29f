-- The rules of a set of monthly tables, for any print rule: one test over all of them, computed, and the laws that carry it to the rate at
-- each age and term.
-- Assumes nothing.
use mathlib.Core.Path.{◌≡◌, refl}
use mathlib.Core.Logic.{◌⊎◌, ⊎_elim}
use mathlib.Core.Bool.{Bool, ◌&&◌}
use mathlib.Core.List.{List, [], ◌∷◌}
use Prim.Native.Nat.{ℕ, suc, ◌+◌, ◌-◌, ◌*◌, ◌/◌, ◌%◌, ◌≤◌, ◌<◌, zero-le}
use native.Mathlib.Nat.{add-zero, zero-add, le_refl, le_trans}
use native.Mathlib.Decide.{le_ind}
use native.Mathlib.Omega.{arith}
use lib.Dec.{T, eqb, eqb→eq}
use lib.ListN.{length, get_or}
use lib.Seq.{get_or-drop}
use Rattle.common.proofs.Tests.{and_left, and_right}
use Rattle.common.proofs.Computed.{Comparison, always, given, AllTrue, every, every_at, all, all_at}
use Rattle.scheme.specs.Scheme.{longest_term}
use Rattle.rates.specs.Rates.{last_age, rate_by, MonthlyPrinted}
use Rattle.rates.proofs.Entries.{Placed, place_in, entry_at, entry_placed, entry_none}
use Rattle.rates.proofs.Positive.{by_positive}
use Rattle.rates.proofs.Tables.{Known}

-- the rules of an entry x of a table; y is the next of its row, z the next of its column. In this order, by which `entry_rules` below
-- counts: at most the greatest; tens of pence; printed where the term ends the margin before p; printed only there; the row never rises;
-- the column never falls where it is printed
abbrev rules_of : (margin most p age term x y z : ℕ) → List Comparison
rules_of margin most p age term x y z =
    always x most
    ∷ always (x % 10) 0
    ∷ given (age + term + margin) p 1 x
    ∷ given 1 x (age + term + margin) p
    ∷ given (term + 1) longest_term y x
    ∷ given 1 z x z
    ∷ []

-- the rules of the place k of a table, from which on it holds s: twenty places to a line, the first line for the first age
abbrev rules_at : (first margin most p k : ℕ) → List ℕ → List Comparison
rules_at first margin most p k s =
    rules_of margin most p (k / longest_term + first) (k % longest_term + 1) (get_or s 0 0) (get_or s 1 0) (get_or s longest_term 0)

-- how many places a table has
abbrev pub places : (first margin : ℕ) → ℕ
places first margin = (last_age margin + 1 - first) * longest_term

abbrev table_passes : (first margin most : ℕ) → List ℕ → (p : ℕ) → Bool
table_passes first margin most table p = eqb (length table) (places first margin) && every (rules_at first margin most p) 0 table

-- options 1 and 2, pension ages 65 to 68
abbrev pub tables_pass : (first margin most : ℕ) → (ℕ → ℕ → List ℕ) → Bool
tables_pass first margin most tables = all (λ o. all (λ p. table_passes first margin most (tables o p) p) 65 4) 1 2

-- tables that pass, and no others; the first age is at most the last, and the margin leaves one
pub record PassingTables (first margin most : ℕ) (tables : ℕ → ℕ → List ℕ) : Type 0 where
  pub pass : T (tables_pass first margin most tables)
  pub known_or_empty : (o p : ℕ) → Known o p ⊎ (tables o p ≡ [])
  pub some : first ≤ last_age margin
  pub apart : margin < 65

-- a rate above 0 has a place in its table
pub rate_placed : (first margin : ℕ) (tables : ℕ → ℕ → List ℕ) (o p age term : ℕ) → 0 < rate_by first margin tables o p age term
    → Placed first margin age term
unfolding rate_by
rate_placed first margin tables o p age term = entry_placed first margin (tables o p) age term

-- the rules of the rate at an age and a term
pub record EntryRules (first margin most : ℕ) (tables : ℕ → ℕ → List ℕ) (o p age term : ℕ) : Type 0 where
  pub most_is : rate_by first margin tables o p age term ≤ most
  pub tens : rate_by first margin tables o p age term % 10 ≡ 0
  pub there : age + term + margin ≤ p → 0 < rate_by first margin tables o p age term
  pub before : 0 < rate_by first margin tables o p age term → age + term + margin ≤ p
  pub row : 0 < rate_by first margin tables o p age (suc term)
      → rate_by first margin tables o p age (suc term) ≤ rate_by first margin tables o p age term
  pub column : 0 < rate_by first margin tables o p (suc age) term
      → rate_by first margin tables o p age term ≤ rate_by first margin tables o p (suc age) term

module _ (first margin most : ℕ) (tables : ℕ → ℕ → List ℕ) (good : PassingTables first margin most tables) where
  passed : (o p : ℕ) → Known o p → T (table_passes first margin most (tables o p) p)
  passed o p known =
      all_at (λ p. table_passes first margin most (tables o p) p) 65 4
      (all_at (λ o. all (λ p. table_passes first margin most (tables o p) p) 65 4) 1 2 good.pass o (omega arith) (omega arith))
      p (omega arith) (omega arith)

  full : (o p : ℕ) → Known o p → length (tables o p) ≡ places first margin
  full o p known =
      eqb→eq (length (tables o p)) (places first margin) (and_left (eqb (length (tables o p)) (places first margin)) _ (passed o p known))

  facts : (o p k : ℕ) → Known o p → k < places first margin
      → AllTrue (rules_of margin most p (k / longest_term + first) (k % longest_term + 1)
      (get_or (tables o p) k 0) (get_or (tables o p) (k + 1) 0) (get_or (tables o p) (k + longest_term) 0))
  facts o p k known h =
      simp (get_or-drop, zero-add, add-zero) at
      (every_at (rules_at first margin most p) 0 (tables o p)
      (and_right (eqb (length (tables o p)) (places first margin)) _ (passed o p known)) k (omega (arith, full o p known)))

  rate_at : (o p age term : ℕ) → Placed first margin age term → rate_by first margin tables o p age term ≡ get_or (tables o p) (place_in first age term) 0
  unfolding rate_by
  rate_at o p age term = entry_at first margin (tables o p) age term

  -- a rate above 0 has a table
  rate_known : (o p age term : ℕ) → 0 < rate_by first margin tables o p age term → Known o p
  unfolding rate_by
  rate_known o p age term h =
      ⊎_elim (λ k. k) (λ e. absurd (omega (arith, entry_none first margin age term, rw e at h))) (good.known_or_empty o p)

  entry_rules : (o p age term : ℕ) → Known o p → Placed first margin age term → EntryRules first margin most tables o p age term
  entry_rules o p age term known placed =
      let k = place_in first age term in
      let x = rate_at o p age term placed in
      let inside : k < places first margin = omega arith in
      let f = facts o p k known inside in
      let line : k / longest_term + first ≡ age = omega arith in
      let column : k % longest_term + 1 ≡ term = omega arith in
      record {
        most_is = omega arith;
        tens = omega arith;
        there = λ h. omega (arith, f.1.1.0 (omega arith));
        before = λ h. omega (arith, f.1.1.1.0 (omega arith));
        row = λ h.
            let next_placed = rate_placed first margin tables o p age (suc term) h in
            let next : place_in first age (suc term) ≡ k + 1 = omega arith in
            let y = rw next at (rate_at o p age (suc term) next_placed) in
            omega (arith, f.1.1.1.1.0 (omega arith));
        column = λ h.
            let next_placed = rate_placed first margin tables o p (suc age) term h in
            let next : place_in first (suc age) term ≡ k + longest_term = omega arith in
            let z = rw next at (rate_at o p (suc age) term next_placed) in
            omega (arith, f.1.1.1.1.1.0 (omega arith));
      }

  rules_there : (o p age term : ℕ) → 0 < rate_by first margin tables o p age term → EntryRules first margin most tables o p age term
  rules_there o p age term h = entry_rules o p age term (rate_known o p age term h) (rate_placed first margin tables o p age term h)

  -- the print rule, both ways
  pub any_printed : (o p age term : ℕ) → 0 < rate_by first margin tables o p age term → MonthlyPrinted first margin o p age term
  any_printed o p age term h =
      let known = rate_known o p age term h in
      let placed = rate_placed first margin tables o p age term h in
      let before = (rules_there o p age term h).before h in
      omega arith

  pub any_shown : (o p age term : ℕ) → MonthlyPrinted first margin o p age term → 0 < rate_by first margin tables o p age term
  any_shown o p age term r = (entry_rules o p age term (omega arith) (omega (arith, good.apart))).there (omega (arith, good.apart))

  -- the greatest rate, and tens of pence
  pub any_most : (o p age term : ℕ) → rate_by first margin tables o p age term ≤ most
  any_most o p age term = by_positive (λ x. x ≤ most) _ zero-le (λ h. (rules_there o p age term h).most_is)

  pub any_tens : (o p age term : ℕ) → rate_by first margin tables o p age term % 10 ≡ 0
  any_tens o p age term = by_positive (λ x. x % 10 ≡ 0) _ refl (λ h. (rules_there o p age term h).tens)

  -- a longer term never has a higher rate
  pub any_falls : (o p age n t : ℕ) → 0 < n → n ≤ t → rate_by first margin tables o p age t ≤ rate_by first margin tables o p age n
  any_falls o p age n t low =
      le_ind (λ (m : ℕ). rate_by first margin tables o p age m ≤ rate_by first margin tables o p age n) (le_refl _)
      (λ m h below. le_trans (step m (omega arith)) below) t
    where
      step : (m : ℕ) → 0 < m → rate_by first margin tables o p age (suc m) ≤ rate_by first margin tables o p age m
      step m pos =
          by_positive (λ x. x ≤ rate_by first margin tables o p age m) _ zero-le λ h.
          (entry_rules o p age m (rate_known o p age (suc m) h) (omega (arith, rate_placed first margin tables o p age (suc m) h))).row h

  -- down a column it never falls with age, as far as the column is printed
  pub any_rises : (o p a b term : ℕ) → a ≤ b → 0 < rate_by first margin tables o p b term
      → rate_by first margin tables o p a term ≤ rate_by first margin tables o p b term
  any_rises o p a b term le last =
      by_positive (λ x. x ≤ rate_by first margin tables o p b term) _ zero-le λ first-there.
      le_ind (λ (n : ℕ). MonthlyPrinted first margin o p n term → rate_by first margin tables o p a term ≤ rate_by first margin tables o p n term)
      (λ r. le_refl _)
      (λ m h above r. let here = between m h first-there r in le_trans (above here) (step m here r)) b le (any_printed o p b term last)
    where
      between : (m : ℕ) → a ≤ m → 0 < rate_by first margin tables o p a term → MonthlyPrinted first margin o p (suc m) term
          → MonthlyPrinted first margin o p m term
      between m h first-there r = omega (arith, any_printed o p a term first-there)

      step : (m : ℕ) → MonthlyPrinted first margin o p m term → MonthlyPrinted first margin o p (suc m) term
          → rate_by first margin tables o p m term ≤ rate_by first margin tables o p (suc m) term
      step m here r = (entry_rules o p m term (omega arith) (omega (arith, good.apart))).column (any_shown o p (suc m) term r)
