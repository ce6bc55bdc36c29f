-- "Marks and status", M14 and M16: a lump sum by its marks.
-- Assumes nothing.
use Rattle.std.specs.Prelude.{List, ◌∷◌, ◌++◌, ◌⊎◌, ◌≡◌, ℕ}
use Rattle.scheme.specs.Scheme.{pounds_in_pence}
use Rattle.terms.specs.declared.Terms.{Terms}
use Rattle.settlement.specs.Settle.{SettleNumbers}

-- M14, M16: the numbers n settle a lump sum for its marks as these rules say
pub record LumpSumSettled (t : Terms) (marks : List ℕ) (n : SettleNumbers) : Type 0 where
  -- with no 2 among the marks all of the amount is credited, and nothing goes back
  pub stays : ((xs ys : List ℕ) → marks ≡ xs ++ (2 ∷ ys) → ⊥)
      → (n.status ≡ 6) × ((n.credit ≡ pounds_in_pence t.amount) × (n.refund ≡ 0))
  -- with one nothing is credited, and the lump sum goes back, once
  pub left : (xs ys : List ℕ) → marks ≡ xs ++ (2 ∷ ys) → (n.status ≡ 5) × ((n.credit ≡ 0) × (n.refund ≡ n.contribution))
  -- so the credit is the amount or nothing,
  pub all_or_nothing : (n.credit ≡ pounds_in_pence t.amount) ⊎ (n.credit ≡ 0)
  -- and nothing just where the lump sum went back
  pub refunded : n.credit ≡ 0 → (n.status ≡ 5) × (n.refund ≡ n.contribution)
  pub credited : n.refund ≡ n.contribution → n.credit ≡ 0

-- M14, M16: of any terms and marks, where a lump sum is not refused
abbrev pub LumpSumAnswered : Terms → (marks : List ℕ) → SettleNumbers → Type 0
LumpSumAnswered t marks n = n.refusal ≡ 0 → t.term ≡ 0 → LumpSumSettled t marks n
