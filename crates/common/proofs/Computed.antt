-- Comparisons that are tested by computing, along a list and over a range of numbers, and the laws that carry them to one place.
-- Assumes nothing.
use mathlib.Core.Path.{◌≡◌}
use mathlib.Core.Logic.{⊎_elim}
use mathlib.Core.Bool.{Bool, true, false, ◌&&◌}
use mathlib.Core.List.{List, [], ◌∷◌}
use Prim.Native.Nat.{ℕ, zero, suc, ◌+◌, ◌≤◌, ◌<◌}
use native.Mathlib.Nat.{add-zero, eq-or-lt_of_le}
use native.Mathlib.Omega.{arith}
use lib.Dec.{T, leb, leb→le, le→leb}
use lib.ListN.{length, drop}
use Rattle.common.proofs.Tests.{and_left, and_right}

-- always c d: c ≤ d. given a b c d: where a ≤ b, c ≤ d
pub data Comparison : Type 0 where
  always : (c d : ℕ) → Comparison
  given : (a b c d : ℕ) → Comparison

-- the comparisons as facts
abbrev pub AllTrue : List Comparison → Type 0
AllTrue [] = Unit {0}
AllTrue (always c d ∷ cs) = (c ≤ d) × AllTrue cs
AllTrue (given a b c d ∷ cs) = (a ≤ b → c ≤ d) × AllTrue cs

-- the comparisons as a test, and the law that a test that passes is a fact
abbrev implies : Bool → Bool → Bool
implies true b = b
implies false b = true

abbrev pub compare : List Comparison → Bool
compare [] = true
compare (always c d ∷ cs) = leb c d && compare cs
compare (given a b c d ∷ cs) = implies (leb a b) (leb c d) && compare cs

implied : (a b : Bool) → T (implies a b) → T a → T b
implied true b t p = t
implied false b t p = absurd p

pub compared : (cs : List Comparison) → T (compare cs) → AllTrue cs
compared [] t = tt
compared (always c d ∷ cs) t = (leb→le c d (and_left (leb c d) (compare cs) t), compared cs (and_right (leb c d) (compare cs) t))
compared (given a b c d ∷ cs) t =
    let i = implies (leb a b) (leb c d) in
    (λ h. leb→le c d (implied (leb a b) (leb c d) (and_left i (compare cs) t) (le→leb a b h)), compared cs (and_right i (compare cs) t))

-- f gives the comparisons of each place of a list, counted from i; it is handed the list from that place on, so that
-- neighbours are at fixed offsets and the walk takes one pass
abbrev pub every : (ℕ → List ℕ → List Comparison) → ℕ → List ℕ → Bool
every f i [] = true
every f i (x ∷ xs) = compare (f i (x ∷ xs)) && every f (suc i) xs

pub every_at : (f : ℕ → List ℕ → List Comparison) (i : ℕ) (l : List ℕ) → T (every f i l) → (k : ℕ) → k < length l → AllTrue (f (i + k) (drop k l))
every_at f i [] t k h = absurd (omega arith)
every_at f i (x ∷ xs) t zero h = rw add-zero (compared (f i (x ∷ xs)) (and_left (compare (f i (x ∷ xs))) (every f (suc i) xs) t))
every_at f i (x ∷ xs) t (suc k) h =
    let e : i + suc k ≡ suc i + k = omega arith in
    rw e (every_at f (suc i) xs (and_right (compare (f i (x ∷ xs))) (every f (suc i) xs) t) k (omega arith))

-- f holds at n numbers, from i on
abbrev pub all : (ℕ → Bool) → ℕ → ℕ → Bool
all f i zero = true
all f i (suc n) = f i && all f (suc i) n

pub all_at : (f : ℕ → Bool) (i n : ℕ) → T (all f i n) → (k : ℕ) → i ≤ k → k < i + n → T (f k)
all_at f i zero t k low high = absurd (omega arith)
all_at f i (suc n) t k low high =
    ⊎_elim (λ e. rw (← e) (and_left (f i) (all f (suc i) n) t))
    (λ h. all_at f (suc i) n (and_right (f i) (all f (suc i) n) t) k h (omega arith))
    (eq-or-lt_of_le low)
