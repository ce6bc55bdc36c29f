-- The unbroken runs of a list of marks: k is their number, and no run's value falls.
-- Assumes nothing.
use mathlib.Core.Bool.{Bool, true, false}
use mathlib.Core.List.{List, [], ◌∷◌, Memᴰ}
use mathlib.Core.Path.{◌≡◌, refl, ap}
use Prim.Native.Nat.{ℕ, suc, ◌*◌, ◌-◌, ◌≤◌, ◌<◌}
use native.Mathlib.Omega.{arith}
use borrow.Author.Tests.{leb-true, leb-false}
use lib.Dec.{leb}
use lib.ListN.{length, get_or-eq_default}
use Rattle.common.specs.Calendar.{months_in_year}
use Rattle.common.proofs.Tests.{by_test}
use Rattle.scheme.specs.Scheme.{longest_term}
use Rattle.rounding.specs.Rounding.{Monotone}
use Rattle.years.specs.Years.{Purchase, year_credits, month_value, FallingRates}
use Rattle.credit.specs.Runs.{Run, paid_flags, runs_from, run_from, runs_in, starts_after, run_count}
use Rattle.credit.proofs.Unbroken.{runs_unbroken}
use Rattle.distance.proofs.Months.{month_rises}

mutual
  unfolding runs_from starts_after

  count_outside : (ps : List Bool) (i : ℕ) → starts_after false ps ≡ length (runs_from i ps)
  count_outside [] i = refl
  count_outside (true ∷ ps) i = count_inside ps i (suc i)
  count_outside (false ∷ ps) i = count_outside ps (suc i)

  count_inside : (ps : List Bool) (a i : ℕ) → suc (starts_after true ps) ≡ length (run_from a i ps)
  count_inside [] a i = refl
  count_inside (true ∷ ps) a i = count_inside ps a (suc i)
  count_inside (false ∷ ps) a i = ap suc (count_outside ps (suc i))

pub runs_count : (marks : List ℕ) → run_count marks ≡ length (runs_in marks)
unfolding run_count runs_in
runs_count marks = count_outside (paid_flags marks) 0

-- a run starts before it ends, and ends within N months
abbrev pub Lies : ℕ → Run → Type 0
Lies N r = (r.from < r.to) × (r.to ≤ N)

-- the last month of a run is paid, so it is among the marks
pub run_lies : (N : ℕ) (r : Run) (marks : List ℕ) → length marks ≤ N → Memᴰ r (runs_in marks) → Lies N r
run_lies N r marks h m =
    let u = runs_unbroken marks r m in
    let some = u.some in
    let last = u.inside (r.to - 1) (omega arith) (omega arith) in
    by_test (leb r.to N) (λ t. (some, leb-true r.to N t))
    (λ t. absurd (omega (arith, last, get_or-eq_default marks 0 {n = r.to - 1} (omega (arith, leb-false r.to N t)))))

-- no run's difference of values is cut off at 0
pub run_rises : (round : ℕ → ℕ → ℕ) → Monotone round → (p : Purchase) → p.term ≤ longest_term → FallingRates p
    → (marks : List ℕ) → length marks ≤ months_in_year * p.term → (r : Run) → Memᴰ r (runs_in marks)
    → month_value round (year_credits round p) r.from ≤ month_value round (year_credits round p) r.to
run_rises round mono p short falling marks h r m =
    let l : Lies (months_in_year * p.term) r = run_lies (months_in_year * p.term) r marks h m in
    month_rises round mono p short falling r.from r.to (omega arith) l.1
