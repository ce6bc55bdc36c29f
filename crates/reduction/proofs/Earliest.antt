-- The age that the search gives is the earliest candidate that passes, and 0 is given just where none does.
-- Assumes nothing.
use mathlib.Core.Bool.{Bool, true, false}
use mathlib.Core.Logic.{◌⊎◌, inl, inr, ⊎_elim}
use mathlib.Core.Path.{◌≡◌, refl, sym, subst, ◌∙◌}
use Prim.Native.Nat.{ℕ, zero, suc, ◌+◌, ◌≤◌, ◌<◌, zero-le}
use native.Mathlib.Nat.{eq-or-lt_of_le}
use native.Mathlib.Omega.{arith}
use lib.Dec.{T, eqb}
use lib.IntN.{pos}
use lib.Signed.{◌<ℤ◌}
use borrow.Author.Tests.{eqb-true, eqb-false, eq-eqb}
use Rattle.common.proofs.Tests.{by_test, never}
use Rattle.reduction.specs.declared.Application.{Application}
use Rattle.reduction.specs.Search.{candidate_of, headroom, is_taken, candidate_is_taken, below_npa, search_by}
use Rattle.reduction.specs.Clauses.{PassingCandidate, EarliestPassing, NonePassing}
use Rattle.reduction.proofs.Candidates.{search_from, earliest_age, candidate_least, candidates_rise, is_below, is_not_below}

-- the test as a statement, both ways
taken_room : (b existing limit : ℕ) → is_taken b existing limit ≡ true → (existing ≡ 0) ⊎ (pos b <ℤ headroom b existing limit)
unfolding is_taken
taken_room b existing limit e =
    by_test (eqb existing 0)
    (λ z. inl (eqb-true existing 0 z))
    (λ z. inr (record { lt = subst T (sym (rw z at e)) tt }))

room_taken : (b existing limit : ℕ) → (existing ≡ 0) ⊎ (pos b <ℤ headroom b existing limit) → is_taken b existing limit ≡ true
unfolding is_taken
room_taken b existing limit (inl z) = rw (eq-eqb existing 0 z)
room_taken b existing limit (inr h) = by_test (eqb existing 0) (λ z. rw z) (λ z. rw z (holds _ h.lt))
  where
    holds : (t : Bool) → T t → t ≡ true
    holds true p = refl
    holds false p = absurd p

-- of n candidates from k on: an age that is given is the first that passes, and with 0 none does
record FirstFrom (a : Application) (k n age : ℕ) : Type 0 where
  candidate : ℕ
  from : k ≤ candidate
  among : candidate < k + n
  is : age ≡ candidate_of a candidate
  passes : PassingCandidate a candidate
  earlier : (j : ℕ) → k ≤ j → j < candidate → PassingCandidate a j → ⊥

record Searched (a : Application) (k n age : ℕ) : Type 0 where
  given : (age ≡ 0 → ⊥) → FirstFrom a k n age
  none : age ≡ 0 → (j : ℕ) → k ≤ j → j < k + n → PassingCandidate a j → ⊥

module _ (a : Application) where
  past : (k : ℕ) → below_npa a k ≡ false → (j : ℕ) → k ≤ j → PassingCandidate a j → ⊥
  past k e j h p = omega (arith, is_not_below a k e, candidates_rise a k j h, p.below)

  left : (k : ℕ) → candidate_is_taken a k ≡ false → PassingCandidate a k → ⊥
  unfolding candidate_is_taken
  left k e p = never (sym e ∙ room_taken _ _ _ p.room)

  passing : (k : ℕ) → below_npa a k ≡ true → candidate_is_taken a k ≡ true → PassingCandidate a k
  unfolding candidate_is_taken
  passing k b t = record { below = is_below a k b; room = taken_room _ _ _ t }

  ended : (k n : ℕ) → ((j : ℕ) → k ≤ j → PassingCandidate a j → ⊥) → Searched a k n 0
  ended k n h = record { given = λ z. absurd (z refl); none = λ z j p q. h j p }

  passes_here : (k n : ℕ) → PassingCandidate a k → Searched a k (suc n) (candidate_of a k)
  passes_here k n p =
      record {
        given = λ z.
            record {
              candidate = k;
              from = omega arith;
              among = omega arith;
              is = refl;
              passes = p;
              earlier = λ j l m q. omega arith;
            };
        none = λ z. absurd (omega (arith, candidate_least a k));
      }

  go_on : (k n age : ℕ) → (PassingCandidate a k → ⊥) → Searched a (suc k) n age → Searched a k (suc n) age
  go_on k n age fails s =
      record {
        given = λ z.
            let f = s.given z in
            record {
              candidate = f.candidate;
              from = omega (arith, f.from);
              among = omega (arith, f.among);
              is = f.is;
              passes = f.passes;
              earlier = λ j l m q. here_or_later j l q (λ h. f.earlier j h m q);
            };
        none = λ z j l m q. here_or_later j l q (λ h. s.none z j h (omega arith) q);
      }
    where
      here_or_later : (j : ℕ) → k ≤ j → PassingCandidate a j → (suc k ≤ j → ⊥) → ⊥
      here_or_later j l q later = ⊎_elim (λ e. fails (subst (PassingCandidate a) (sym e) q)) later (eq-or-lt_of_le l)

  searched : (k n : ℕ) → Searched a k n (search_from a k n)
  unfolding search_by
  searched k zero = record { given = λ z. absurd (z refl); none = λ z j p q. omega arith }
  searched k (suc n) =
      by_test (below_npa a k)
      (λ b. by_test (candidate_is_taken a k)
      (λ t. rw (b, t) (passes_here k n (passing k b t)))
      (λ t. rw (b, t) (go_on k n _ (left k t) (searched (suc k) n))))
      (λ b. rw b (ended k (suc n) (past k b)))

  pub given_earliest : (earliest_age a ≡ 0 → ⊥) → EarliestPassing a (earliest_age a)
  given_earliest some =
      let f = (searched 0 3).given some in
      record {
        candidate = f.candidate;
        among = omega (arith, f.among);
        is = f.is;
        passes = f.passes;
        earlier = λ j l q. f.earlier j zero-le l q;
      }

  pub none_given : earliest_age a ≡ 0 → NonePassing a
  none_given z k h p = (searched 0 3).none z k zero-le (omega arith) p

  pub given_none : NonePassing a → earliest_age a ≡ 0
  given_none fails =
      by_test (eqb (earliest_age a) 0)
      (λ e. eqb-true (earliest_age a) 0 e)
      (λ e. let f = given_earliest (eqb-false (earliest_age a) 0 e) in absurd (fails f.candidate f.among f.passes))
