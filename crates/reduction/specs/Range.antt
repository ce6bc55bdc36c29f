-- "The reduction buy-out limit", L2: what an application may hold, and what is refused with 18.
-- Assumes nothing.
use Rattle.std.specs.Prelude.{Bool, ◌||◌, ℕ, ◌≤◌, ltb, slice_index}
use Rattle.std.specs.List.{list_any}
use Rattle.scheme.specs.Scheme.{pounds_in_pence}
use Rattle.reduction.specs.declared.Application.{Application}

-- L2: £1,000,000 a year in pence
abbrev pub most_reduction_pence : ℕ
most_reduction_pence = pounds_in_pence 1000000

-- L2: x is none of the numbers from least to most
unfoldable pub outside_range : (least most x : ℕ) → Bool
outside_range least most x = ltb x least || ltb most x

-- L2, refusal 18: the pension age is not 66 to 70, the age not 24 to 64, the pay not £1 to £200,000; a factor is above 1,000 thousandths,
-- whether it is used or not; A or L is above £1,000,000
unfoldable pub out_of_range : Application → Bool
out_of_range a =
    outside_range 66 70 a.npa
    || (outside_range 24 64 a.age
    || (outside_range 1 200000 a.pay
    || (list_any (ltb 1000) a.erfs
    || (ltb most_reduction_pence a.existing.0
    || ltb most_reduction_pence a.limit.0))))

-- L2: an application that 18 does not refuse
pub record InRange (a : Application) : Type 0 where
  pub npa_low : 66 ≤ a.npa
  pub npa_high : a.npa ≤ 70
  pub age_low : 24 ≤ a.age
  pub age_high : a.age ≤ 64
  pub pay_low : 1 ≤ a.pay
  pub pay_high : a.pay ≤ 200000
  pub factors_high : (k : ℕ) → slice_index a.erfs k ≤ 1000
  pub existing_high : a.existing.0 ≤ most_reduction_pence
  pub limit_high : a.limit.0 ≤ most_reduction_pence
