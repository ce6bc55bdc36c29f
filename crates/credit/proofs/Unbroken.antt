-- The runs of a list of marks are just the unbroken paid runs, as they are described without recursion, and with their order that
-- determines them. A month lies in a run just where its mark is paid: so says the credit of a value that grows in that month alone.
-- Assumes nothing.
use mathlib.Core.Bool.{Bool, true, false}
use mathlib.Core.List.Memᴰ
use mathlib.Core.List.{List, [], ◌∷◌, Memᴰ}
use mathlib.Core.Logic.{⊎_elim}
use mathlib.Core.Path.{◌≡◌, refl, ap, ◌∙◌}
use Prim.Native.Nat.{ℕ, zero, suc, ◌+◌, ◌-◌, ◌≤◌, ◌<◌}
use native.Mathlib.Omega.{arith}
use borrow.Author.Tests.{ltb-true, ltb-false, eqb-true, eq-eqb}
use lib.Dec.{ltb, eqb}
use lib.ListN.{get_or}
use Rattle.common.specs.Choice.{pick}
use Rattle.common.proofs.Tests.{by_test}
use Rattle.credit.specs.Runs.{Run, ◌until◌, paid_flags, runs_in, Unbroken, InOrder}
use Rattle.credit.specs.Credit.{sum_over_runs}
use Rattle.credit.specs.Months.{growth, sum_over_paid_from}
use Rattle.credit.proofs.Months.{by_months}
use Rattle.credit.proofs.Order.{runs_ordered, begins, meet, runs_in_order, same_runs}

-- a value that grows in month k alone, by 1
abbrev past : ℕ → ℕ → ℕ
past k month = 1 - (suc k - month)

-- the months after month k add nothing
none_after : (ps : List Bool) (k i : ℕ) → k < i → sum_over_paid_from (growth (past k)) i ps ≡ 0
unfolding sum_over_paid_from
none_after [] k i h = refl
none_after (true ∷ ps) k i h = omega (arith, none_after ps k (suc i) (omega arith))
none_after (false ∷ ps) k i h = none_after ps k (suc i) (omega arith)

-- month k itself adds 1, where it is paid
one_month : (ps : List Bool) (k i n : ℕ) → k ≡ i + n → sum_over_paid_from (growth (past k)) i ps ≡ pick (get_or ps n false) 1 0
unfolding sum_over_paid_from
one_month [] k i n e = refl
one_month (true ∷ ps) k i zero e = omega (arith, none_after ps k (suc i) (omega arith))
one_month (true ∷ ps) k i (suc n) e = omega (arith, one_month ps k (suc i) n (omega arith))
one_month (false ∷ ps) k i zero e = none_after ps k (suc i) (omega arith)
one_month (false ∷ ps) k i (suc n) e = one_month ps k (suc i) n (omega arith)

paid_at : (marks : List ℕ) (k : ℕ) → get_or (paid_flags marks) k false ≡ eqb (get_or marks k 0) 1
paid_at [] k = refl
paid_at (m ∷ marks) zero = refl
paid_at (m ∷ marks) (suc k) = paid_at marks k

-- so the runs of the marks earn it just where the mark is 1
month_earned : (marks : List ℕ) (k : ℕ) → sum_over_runs (past k) (runs_in marks) ≡ pick (eqb (get_or marks k 0) 1) 1 0
month_earned marks k =
    by_months (past k) marks (λ i h. omega arith) ∙ one_month (paid_flags marks) k 0 k (omega arith) ∙ rw (paid_at marks k)

-- a run holds a month
abbrev Holds : ℕ → Run → Type 0
Holds k r = (r.from ≤ k) × (k < r.to)

-- runs earn that value just where one of them holds month k
held : (k : ℕ) (rs : List Run) → 0 < sum_over_runs (past k) rs → (r : Run) × Memᴰ r rs × Holds k r
unfolding sum_over_runs
held k [] h = absurd (omega arith)
held k (r ∷ rs) h =
    let own = past k r.to - past k r.from in
    by_test (ltb 0 own)
    (λ t. let some = ltb-true 0 own t in (r, Memᴰ.head refl, (omega arith, omega arith)))
    (λ t.
    let rest = held k rs (omega (arith, ltb-false 0 own t)) in
    (rest.0, Memᴰ.tail rest.1, rest.2))

earns : (k : ℕ) (rs : List Run) (r : Run) → Memᴰ r rs → Holds k r → 0 < sum_over_runs (past k) rs
unfolding sum_over_runs
earns k [] r m h = absurd (Memᴰ.not-nil m)
earns k (s ∷ rs) r m h =
    ⊎_elim (λ e. omega (arith, ap (λ (x : Run). x.from) e, ap (λ (x : Run). x.to) e)) (λ n. omega (arith, earns k rs r n h))
    (Memᴰ.cases_cons m)

-- a paid month lies in a run, and a month in a run is paid
paid_held : (marks : List ℕ) (k : ℕ) → get_or marks k 0 ≡ 1 → (r : Run) × Memᴰ r (runs_in marks) × Holds k r
paid_held marks k one = held k (runs_in marks) (rw (month_earned marks k, eq-eqb (get_or marks k 0) 1 one) (omega arith))

held_paid : (marks : List ℕ) (k : ℕ) (r : Run) → Memᴰ r (runs_in marks) → Holds k r → get_or marks k 0 ≡ 1
held_paid marks k r m h =
    by_test (eqb (get_or marks k 0) 1) (λ t. eqb-true _ 1 t)
    (λ t. let none : sum_over_runs (past k) (runs_in marks) ≡ 0 = month_earned marks k ∙ rw t in absurd (omega (arith, earns k (runs_in marks) r m h)))

pub runs_unbroken : (marks : List ℕ) (r : Run) → Memᴰ r (runs_in marks) → Unbroken marks r
runs_unbroken marks r m =
    let some = (begins (runs_in marks) (runs_ordered marks) r m).1 in
    -- a run that meets r is r
    let one : (s : Run) → Memᴰ s (runs_in marks) → r.from ≤ s.to → s.from ≤ r.to → r ≡ s =
    λ s n. meet (runs_in marks) 0 (runs_ordered marks) r s m n in
    record {
      some = some;
      inside = λ i a b. held_paid marks i r m (a, b);
      before = λ i e paid.
          let s = paid_held marks i paid in
          omega (arith, s.2, ap (λ (x : Run). x.from) (one s.0 s.1 (omega (arith, s.2)) (omega (arith, s.2))));
      after = λ paid.
          let s = paid_held marks r.to paid in
          omega (arith, s.2, ap (λ (x : Run). x.to) (one s.0 s.1 (omega (arith, s.2)) (omega (arith, s.2))));
    }

-- two unbroken runs are one, where the one holds the first month of the other
same_run : (marks : List ℕ) (r s : Run) → Unbroken marks r → Unbroken marks s → Holds r.from s → r ≡ s
same_run marks r s u v h =
    let some = u.some in
    let first : s.from < r.from → ⊥ = λ p. u.before (r.from - 1) (omega arith) (v.inside (r.from - 1) (omega arith) (omega arith)) in
    let longer : s.to < r.to → ⊥ = λ p. v.after (u.inside s.to (omega arith) p) in
    let shorter : r.to < s.to → ⊥ = λ p. u.after (v.inside r.to (omega arith) p) in
    ap (λ (n : ℕ). n until r.to) (omega (arith, first)) ∙ ap (λ (n : ℕ). s.from until n) (omega (arith, longer, shorter))

pub unbroken_runs : (marks : List ℕ) (r : Run) → Unbroken marks r → Memᴰ r (runs_in marks)
unbroken_runs marks r u =
    let some = u.some in
    let s = paid_held marks r.from (u.inside r.from (omega arith) some) in
    Memᴰ.cast (same_run marks r s.0 u (runs_unbroken marks s.0 s.1) s.2) s.1

-- a list in order that has just the unbroken runs is the list of the runs
pub runs_determined : (marks : List ℕ) (rs : List Run) → InOrder rs → ((r : Run) → Memᴰ r rs → Unbroken marks r)
    → ((r : Run) → Unbroken marks r → Memᴰ r rs) → rs ≡ runs_in marks
runs_determined marks rs o each all =
    same_runs rs (runs_in marks) o (runs_in_order marks) (λ r m. (each r m).some) (λ r m. unbroken_runs marks r (each r m))
    (λ r m. all r (runs_unbroken marks r m))
