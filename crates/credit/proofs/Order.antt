-- The runs of a list of marks are in order. In such a list two runs that meet are one, and its members determine it.
-- Assumes nothing.
use mathlib.Core.Bool.{Bool, true, false}
use mathlib.Core.List.Memᴰ
use mathlib.Core.List.{List, [], ◌∷◌, Memᴰ}
use mathlib.Core.Logic.{⊎_elim}
use mathlib.Core.Path.{◌≡◌, refl, sym, ap, ◌∙◌}
use Prim.Native.Nat.{ℕ, suc, ◌≤◌, ◌<◌}
use native.Mathlib.Omega.{arith}
use Rattle.credit.specs.Runs.{Run, paid_flags, runs_from, run_from, runs_in, InOrder}

-- in order from index i on, and none of the runs empty
unfoldable pub Ordered : ℕ → List Run → Type 0
Ordered i [] = Unit {0}
Ordered i (r ∷ rs) = (i ≤ r.from) × (r.from < r.to) × Ordered (suc r.to) rs

-- outside a run at index i, and inside one that began at a
mutual
  unfolding runs_from Ordered

  outside : (ps : List Bool) (i j : ℕ) → j ≤ i → Ordered j (runs_from i ps)
  outside [] i j h = tt
  outside (true ∷ ps) i j h = inside ps i (suc i) j (omega arith) h
  outside (false ∷ ps) i j h = outside ps (suc i) j (omega arith)

  inside : (ps : List Bool) (a i j : ℕ) → a < i → j ≤ a → Ordered j (run_from a i ps)
  inside [] a i j g h = (h, g, tt)
  inside (true ∷ ps) a i j g h = inside ps a (suc i) j (omega arith) h
  inside (false ∷ ps) a i j g h = (h, g, outside ps (suc i) (suc i) (omega arith))

pub runs_ordered : (marks : List ℕ) → Ordered 0 (runs_in marks)
unfolding runs_in
runs_ordered marks = outside (paid_flags marks) 0 0 (omega arith)

-- so each ends before the next begins
in_order : (rs : List Run) (i : ℕ) → Ordered i rs → InOrder rs
unfolding Ordered InOrder
in_order [] i o = tt
in_order (r ∷ []) i o = tt
in_order (r ∷ (s ∷ rs)) i o = (omega (arith, o.2.0), in_order (s ∷ rs) (suc r.to) o.2)

pub runs_in_order : (marks : List ℕ) → InOrder (runs_in marks)
runs_in_order marks = in_order (runs_in marks) 0 (runs_ordered marks)

-- each begins at i or later, and before it ends
pub begins : (rs : List Run) {i : ℕ} → Ordered i rs → (r : Run) → Memᴰ r rs → (i ≤ r.from) × (r.from < r.to)
unfolding Ordered
begins [] o r m = absurd (Memᴰ.not-nil m)
begins (s ∷ rs) o r m =
    ⊎_elim (λ e. rw e (o.0, o.1)) (λ n. omega (arith, o.0, o.1, begins rs o.2 r n)) (Memᴰ.cases_cons m)

-- two runs of which neither ends before the other begins are one
pub meet : (rs : List Run) (i : ℕ) → Ordered i rs → (r s : Run) → Memᴰ r rs → Memᴰ s rs
    → r.from ≤ s.to → s.from ≤ r.to → r ≡ s
unfolding Ordered
meet [] i o r s m n a b = absurd (Memᴰ.not-nil m)
meet (t ∷ rs) i o r s m n a b =
    ⊎_elim
    (λ e.
    ⊎_elim (λ f. e ∙ sym f) (λ later. absurd (omega (arith, begins rs o.2 s later, ap (λ (x : Run). x.to) e)))
    (Memᴰ.cases_cons n))
    (λ later.
    ⊎_elim (λ f. absurd (omega (arith, begins rs o.2 r later, ap (λ (x : Run). x.to) f)))
    (λ also. meet rs (suc t.to) o.2 r s later also a b) (Memᴰ.cases_cons n))
    (Memᴰ.cases_cons m)

-- every run of the first list is in the second
abbrev Among : List Run → List Run → Type 0
Among rs ss = (r : Run) → Memᴰ r rs → Memᴰ r ss

-- what follows the first is among what follows the same first
rest_among : (r s : Run) (rs ss : List Run) → r ≡ s → Ordered (suc r.to) rs → r.from < r.to → Among (r ∷ rs) (s ∷ ss) → Among rs ss
rest_among r s rs ss e o some all t m =
    ⊎_elim (λ f. absurd (omega (arith, begins rs o t m, ap (λ (x : Run). x.from) (f ∙ sym e)))) (λ n. n)
    (Memᴰ.cases_cons (all t (Memᴰ.tail m)))

-- ordered lists with the same members are equal
same_members : (rs ss : List Run) (i j : ℕ) → Ordered i rs → Ordered j ss → Among rs ss → Among ss rs → rs ≡ ss
unfolding Ordered
same_members [] [] i j o p there back = refl
same_members [] (s ∷ ss) i j o p there back = absurd (Memᴰ.not-nil (back s (Memᴰ.head refl)))
same_members (r ∷ rs) [] i j o p there back = absurd (Memᴰ.not-nil (there r (Memᴰ.head refl)))
same_members (r ∷ rs) (s ∷ ss) i j o p there back =
    let first : r ≡ s =
    ⊎_elim (λ e. e)
    (λ m. ⊎_elim (λ e. sym e) (λ n. absurd (omega (arith, begins rs o.2 s n, begins ss p.2 r m, o.1, p.1)))
    (Memᴰ.cases_cons (back s (Memᴰ.head refl))))
    (Memᴰ.cases_cons (there r (Memᴰ.head refl))) in
    let rest = same_members rs ss (suc r.to) (suc s.to) o.2 p.2 (rest_among r s rs ss first o.2 o.1 there)
    (rest_among s r ss rs (sym first) p.2 p.1 back) in
    rw (first, rest)

-- in order is ordered, where each run has a mark
ordered : (rs : List Run) → InOrder rs → ((r : Run) → Memᴰ r rs → r.from < r.to) → Ordered 0 rs
unfolding Ordered InOrder
ordered [] o some = tt
ordered (r ∷ []) o some = (omega arith, some r (Memᴰ.head refl), tt)
ordered (r ∷ (s ∷ rs)) o some =
    let rest = ordered (s ∷ rs) o.1 (λ t m. some t (Memᴰ.tail m)) in
    (omega arith, some r (Memᴰ.head refl), (omega (arith, o.0), rest.1, rest.2))

-- two lists in order, of runs that have a mark each, are equal where they have the same members
pub same_runs : (rs ss : List Run) → InOrder rs → InOrder ss → ((r : Run) → Memᴰ r rs → r.from < r.to)
    → Among rs ss → Among ss rs → rs ≡ ss
same_runs rs ss o p some there back =
    same_members rs ss 0 0 (ordered rs o some) (ordered ss p (λ r m. some r (back r m))) there back
