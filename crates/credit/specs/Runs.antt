-- "From rate to contribution and credit", C10 and C12, with M1 and E6: where the paid runs of a list of marks begin and end, and how many there
-- are, k.
-- Assumes nothing.
use Rattle.std.specs.Prelude.{Bool, true, false, List, [], ◌∷◌, map, ◌≡◌, ℕ, suc, ◌≤◌, ◌<◌, eqb, get_or}

-- M1: which marks are paid
abbrev pub paid_flags : List ℕ → List Bool
paid_flags = map (λ mark. eqb mark 1)

-- C10: a paid run: the marks from index `from` up to but not including `to`
pub record Run : Type 0 where
  pub from : ℕ
  pub to : ℕ

infix 60 ◌until◌
abbrev pub ◌until◌ : ℕ → ℕ → Run
a until b = record { from = a; to = b }

-- C10, C12: the runs from index i on, outside a run; and those inside a run that began at month a
unfoldable mutual
  pub runs_from : ℕ → List Bool → List Run
  runs_from i [] = []
  runs_from i (true ∷ ps) = run_from i (suc i) ps
  runs_from i (false ∷ ps) = runs_from (suc i) ps

  pub run_from : ℕ → ℕ → List Bool → List Run
  run_from a i [] = (a until i) ∷ []
  run_from a i (true ∷ ps) = run_from a (suc i) ps
  run_from a i (false ∷ ps) = (a until i) ∷ runs_from (suc i) ps

-- C10: the paid runs of the marks, in order
unfoldable pub runs_in : List ℕ → List Run
runs_in marks = runs_from 0 (paid_flags marks)

-- C10: an unbroken paid run without recursion; proofs/Unbroken.antt shows that `runs_in` has just these
pub record Unbroken (marks : List ℕ) (r : Run) : Type 0 where
  -- it has a mark
  pub some : r.from < r.to
  -- its marks are 1
  pub inside : (i : ℕ) → r.from ≤ i → i < r.to → get_or marks i 0 ≡ 1
  -- those beside it are not
  pub before : (i : ℕ) → suc i ≡ r.from → get_or marks i 0 ≡ 1 → ⊥
  pub after : get_or marks r.to 0 ≡ 1 → ⊥

-- C10: runs in order: each ends before the next begins. Only `runs_in` is so and has just the unbroken runs (proofs/Unbroken.antt).
unfoldable pub InOrder : List Run → Type 0
InOrder [] = Unit {0}
InOrder (r ∷ []) = Unit {0}
InOrder (r ∷ (s ∷ rs)) = (r.to < s.from) × InOrder (s ∷ rs)

-- E6: how many marks are paid where the one before is not; `before` tells of the mark before the list
unfoldable pub starts_after : Bool → List Bool → ℕ
starts_after before [] = 0
starts_after before (false ∷ ps) = starts_after false ps
starts_after true (true ∷ ps) = starts_after true ps
starts_after false (true ∷ ps) = suc (starts_after true ps)

-- E6: k: nothing is paid before the first mark
unfoldable pub run_count : List ℕ → ℕ
run_count marks = starts_after false (paid_flags marks)
