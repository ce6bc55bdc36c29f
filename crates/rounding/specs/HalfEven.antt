-- "Halves to the even penny", H1: an exact half goes to the even number.
-- Assumes nothing.
use Rattle.std.specs.Prelude.{◌≡◌, ℕ, ◌+◌, ◌*◌, ◌-◌, ◌/◌, ◌%◌, ◌≤◌, ltb, eqb}
use Rattle.common.specs.Choice.{pick}

-- H1: how far n ÷ d is from the whole number x, counted in d-ths
unfoldable pub off_by : ℕ → ℕ → ℕ → ℕ
off_by n d x = (n - d * x) + (d * x - n)

-- H1: r is the whole number nearest to n ÷ d: none is nearer, and where another is as near, r is the even one
pub record NearestEven (n d r : ℕ) : Type 0 where
  pub none_nearer : (x : ℕ) → off_by n d r ≤ off_by n d x
  pub even : (x : ℕ) → (x ≡ r → ⊥) → off_by n d x ≡ off_by n d r → r % 2 ≡ 0

-- H1: of two neighbours the one nearer to n ÷ d; where neither is, the even one
unfoldable pub nearer : ℕ → ℕ → ℕ → ℕ → ℕ
nearer n d a b =
    pick (ltb (off_by n d a) (off_by n d b)) a
    (pick (ltb (off_by n d b) (off_by n d a)) b
    (pick (eqb (a % 2) 0) a b))

-- H1: n ÷ d to the nearest whole number, a half going to the even one: the nearer of the two that it lies between; over 0 it is 0
unfoldable pub half_even : ℕ → ℕ → ℕ
half_even n d = nearer n d (n / d) (n / d + 1)
