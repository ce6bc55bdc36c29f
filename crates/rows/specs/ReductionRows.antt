-- "The reduction buy-out limit", L13: its figures, the edges of the search, and figures at which a misreading would show. A row holds
-- what the definitions give and what is stated.
-- Assumes nothing.
use Rattle.std.specs.Prelude.{List, [], ◌∷◌, ◌++◌, map, ℕ, ◌*◌, ◌-◌}
use Rattle.money.specs.Money.{pension}
use Rattle.reduction.specs.Power.{power_of}
use Rattle.reduction.specs.Potential.{potential_of}
use Rattle.reduction.specs.Answer.{ReductionNumbers, reduction_limit_of}
use Rattle.rows.specs.Rows.{Row, ◌is◌, only}

-- L13: a member: pension age, age and pay, and a factor for each candidate
pub record Member : Type 0 where
  pub npa : ℕ
  pub age : ℕ
  pub pay : ℕ
  pub erf1 : ℕ
  pub erf2 : ℕ
  pub erf3 : ℕ

abbrev pub member_of : (npa age pay erf1 erf2 erf3 : ℕ) → Member
member_of npa age pay erf1 erf2 erf3 = record { npa = npa; age = age; pay = pay; erf1 = erf1; erf2 = erf2; erf3 = erf3 }

-- L13: what a member is answered, with so much existing pension and under a limit
abbrev pub numbers_for : Member → (existing limit : ℕ) → ReductionNumbers
numbers_for m existing limit =
    reduction_limit_of (record {
      npa = m.npa;
      age = m.age;
      pay = m.pay;
      erfs = m.erf1 ∷ m.erf2 ∷ m.erf3 ∷ [];
      existing = pension existing;
      limit = pension limit;
    })

-- L13: the same as a list: refusal, age, three B
abbrev pub limited : Member → (existing limit : ℕ) → List ℕ
limited m existing limit =
    let n = numbers_for m existing limit in
    n.refusal ∷ n.age ∷ n.first ∷ n.second ∷ n.third ∷ []

-- L13: document 003's members of the examples B and C. B has one factor there; its second candidate has here that of C for a year before the
-- pension age, and its third, which is the pension age, 1,000
abbrev pub example_b : Member
example_b = member_of 67 50 30000 896 946 1000

abbrev pub example_c : Member
example_c = member_of 68 35 70000 850 896 946

-- L13: the two examples: existing pension of £4,000 and £2,000, and a limit of £6,924
unfoldable pub example_rows : List Row
example_rows =
    (limited example_b 400000 692400 is (0 ∷ 65 ∷ 108353 ∷ 0 ∷ 0 ∷ []))
    ∷ (limited example_c 200000 692400 is (0 ∷ 67 ∷ 911797 ∷ 663051 ∷ 360713 ∷ []))
    ∷ []

-- L13: the member of example B with a pension age of 66, and a factor of 1,000 for the second candidate, which is that age
abbrev pub until66 : Member
until66 = member_of 66 50 30000 896 1000 1000

-- L13: the member of example C with factors of 1: nothing is to be bought out, and every B is 0
abbrev pub unreduced : Member
unreduced = member_of 68 35 70000 1000 1000 1000

-- L13: no existing pension, with a limit of 0 and one above B; B = C, where the next candidate is tried, and a limit that is a penny more;
-- a limit below existing pension; the second candidate at the pension age, at B = C and with a penny more; all three fail; C is below zero
unfoldable pub search_rows : List Row
search_rows =
    (limited example_b 0 0 is (0 ∷ 65 ∷ 108353 ∷ 0 ∷ 0 ∷ []))
    ∷ (limited example_b 0 692400 is (0 ∷ 65 ∷ 108353 ∷ 0 ∷ 0 ∷ []))
    ∷ (limited example_b 400000 508353 is (0 ∷ 66 ∷ 108353 ∷ 60911 ∷ 0 ∷ []))
    ∷ (limited example_b 400000 508354 is (0 ∷ 65 ∷ 108353 ∷ 0 ∷ 0 ∷ []))
    ∷ (limited example_b 400000 399999 is (0 ∷ 0 ∷ 108353 ∷ 60911 ∷ 0 ∷ []))
    ∷ (limited until66 400000 508353 is (0 ∷ 0 ∷ 108353 ∷ 0 ∷ 0 ∷ []))
    ∷ (limited until66 400000 508354 is (0 ∷ 65 ∷ 108353 ∷ 0 ∷ 0 ∷ []))
    ∷ (limited example_c 200000 560713 is (0 ∷ 0 ∷ 911797 ∷ 663051 ∷ 360713 ∷ []))
    ∷ (limited unreduced 1 0 is (0 ∷ 0 ∷ 0 ∷ 0 ∷ 0 ∷ []))
    ∷ []

-- L13: a year before the first candidate, with factors of 0
abbrev pub last_year : ℕ → Member
last_year pay = member_of 66 64 pay 0 0 0

-- L13: the most years at the most pay, with factors of 0
abbrev pub longest_service : Member
longest_service = member_of 70 24 200000 0 0 0

-- L13: the power of 0, 1, 4, 23 and 45 years: that of 4 rounds up, that of 23 has an exact half
unfoldable pub power_rows : List Row
power_rows =
    ((power_of 0 ∷ power_of 1 ∷ power_of 4 ∷ power_of 23 ∷ power_of 45 ∷ [])
    is (1000000000 ∷ 1015000000 ∷ 1061363551 ∷ 1408377156 ∷ 1954213015 ∷ []))
    ∷ (only (power_of 22 * 1015) is only 1408377155500)
    ∷ []

-- L13: B at an exact half, 304.5 pence, which the even penny would take down; the greatest B of all, a penny less with the power rounded
-- down; and its product without the hundred, which 64 bits just hold
unfoldable pub potential_rows : List Row
potential_rows =
    (limited (last_year 162) 0 0 is (0 ∷ 65 ∷ 305 ∷ 0 ∷ 0 ∷ []))
    ∷ (limited longest_service 1 0 is (0 ∷ 0 ∷ 30209568 ∷ 31375797 ∷ 32570217 ∷ []))
    ∷ (only (potential_of 45 200000 0) is only 32570217)
    ∷ (only (45 * 200000 * power_of 45 * (1000 - 0)) is only 17587917135000000000)
    ∷ []

-- L13: the refusal that a member gets
abbrev pub refused_for : Member → (existing limit : ℕ) → ℕ
refused_for m existing limit = (numbers_for m existing limit).refusal

-- L13: the numbers on either side of each bound, and those within: pension age, age, pay, each factor, existing pension, limit
unfoldable pub out_of_range_rows : List Row
out_of_range_rows =
    (map (λ (npa : ℕ). refused_for (member_of npa 50 30000 896 946 1000) 400000 692400) (65 ∷ 66 ∷ 70 ∷ 71 ∷ []) is (18 ∷ 0 ∷ 0 ∷ 18 ∷ []))
    ∷ (map (λ (age : ℕ). refused_for (member_of 67 age 30000 896 946 1000) 400000 692400) (23 ∷ 24 ∷ 64 ∷ 65 ∷ []) is (18 ∷ 0 ∷ 0 ∷ 18 ∷ []))
    ∷ (map (λ (pay : ℕ). refused_for (member_of 67 50 pay 896 946 1000) 400000 692400) (0 ∷ 1 ∷ 200000 ∷ 200001 ∷ []) is (18 ∷ 0 ∷ 0 ∷ 18 ∷ []))
    ∷ (map (λ (erf : ℕ). refused_for (member_of 67 50 30000 erf 946 1000) 400000 692400) (1000 ∷ 1001 ∷ []) is (0 ∷ 18 ∷ []))
    ∷ (map (λ (erf : ℕ). refused_for (member_of 67 50 30000 896 erf 1000) 400000 692400) (1000 ∷ 1001 ∷ []) is (0 ∷ 18 ∷ []))
    ∷ (map (λ (erf : ℕ). refused_for (member_of 67 50 30000 896 946 erf) 0 0) (1000 ∷ 1001 ∷ []) is (0 ∷ 18 ∷ []))
    ∷ (map (λ (existing : ℕ). refused_for example_b existing 692400) (100000000 ∷ 100000001 ∷ []) is (0 ∷ 18 ∷ []))
    ∷ (map (λ (limit : ℕ). refused_for example_b 0 limit) (100000000 ∷ 100000001 ∷ []) is (0 ∷ 18 ∷ []))
    ∷ (limited (member_of 65 50 30000 896 946 1000) 400000 692400 is (18 ∷ 0 ∷ 0 ∷ 0 ∷ 0 ∷ []))
    ∷ []

-- L13: all of them
unfoldable pub reduction_rows : List Row
reduction_rows = example_rows ++ (search_rows ++ (power_rows ++ (potential_rows ++ out_of_range_rows)))
