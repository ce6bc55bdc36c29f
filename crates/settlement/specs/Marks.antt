-- "Settle", O9 and O10: what refuses marks, said of lawful marks and of the first bad one.
-- Assumes nothing.
use Rattle.std.specs.Prelude.{List, ◌≡◌, ℕ, ◌≤◌, ◌<◌, length}
use Rattle.scheme.specs.Scheme.{open_months}
use Rattle.terms.specs.declared.Terms.{Terms}
use Rattle.terms.specs.Rules.{refusal_of}
use Rattle.marks.specs.Kind.{kind_of, mark_limit}
use Rattle.marks.specs.Lawful.{LawfulFor, FirstBad}
use Rattle.settlement.specs.Settle.{SettleNumbers}

-- O9, O10: the numbers n answer the marks as these rules say
pub record MarksAnswered (t : Terms) (marks : List ℕ) (n : SettleNumbers) : Type 0 where
  -- what is not refused has lawful marks, no more than a contract of its term takes
  pub lawful : n.refusal ≡ 0 → LawfulFor open_months t.term marks
  -- where no rule refuses the terms, such marks are not refused,
  pub unrefused : refusal_of t 0 ≡ 0 → LawfulFor open_months t.term marks → n.refusal ≡ 0
  -- more marks are refused with 10,
  pub too_many : refusal_of t 0 ≡ 0 → mark_limit t.term < length marks → (n.refusal ≡ 10) × (n.place ≡ 0)
  -- else the first bad mark, with its number and at its index,
  pub first_bad : refusal_of t 0 ≡ 0 → length marks ≤ mark_limit t.term → (k i : ℕ) → FirstBad (kind_of t.term) open_months marks k i
      → (n.refusal ≡ k) × (n.place ≡ i)
  -- and nothing else is refused
  pub refused : refusal_of t 0 ≡ 0 → length marks ≤ mark_limit t.term → (n.refusal ≡ 0 → ⊥)
      → FirstBad (kind_of t.term) open_months marks n.refusal n.place
