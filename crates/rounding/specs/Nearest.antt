-- "From rate to contribution and credit", C2, C4 and C14, and H2: rounding to the nearest, and two figures blended by twelfths.
-- Assumes nothing.
use Rattle.std.specs.Prelude.{ℕ, ◌+◌, ◌*◌, ◌-◌, ◌/◌, eqb}
use Rattle.common.specs.Choice.{pick}
use Rattle.common.specs.Calendar.{months_in_year}
use Rattle.rounding.specs.HalfEven.{half_even}

-- H2: n ÷ d to the nearest whole number, a half going up: the whole part of n ÷ d + 1/2
unfoldable pub half_up : ℕ → ℕ → ℕ
half_up n d = (2 * n + d) / (2 * d)

-- C4, H2: the rule that contributions, whole-year credits, month values and the combining of two tables go by
unfoldable pub nearest : ℕ → ℕ → ℕ
nearest = half_even

-- C2: m twelfths of the way from lo to hi, in twelfths: (12 − m) × lo + m × hi
abbrev pub twelfths : (m lo hi : ℕ) → ℕ
twelfths m lo hi = (months_in_year - m) * lo + m * hi

-- C2: the same whole, by a rounding
abbrev pub blend_by : (ℕ → ℕ → ℕ) → (m lo hi : ℕ) → ℕ
blend_by round m lo hi = round (twelfths m lo hi) months_in_year

-- C2: by the rule in force
unfoldable pub blend : (m lo hi : ℕ) → ℕ
blend = blend_by nearest

-- C2, C14: the figures of two neighbouring tables, by a rounding: at a whole pension age the lower one's, with m odd months both blended
abbrev pub combine_by : (ℕ → ℕ → ℕ) → (m lo hi : ℕ) → ℕ
combine_by round m lo hi = pick (eqb m 0) lo (blend_by round m lo hi)

-- C2, C14: by the rule in force
unfoldable pub combine : (m lo hi : ℕ) → ℕ
combine = combine_by nearest
