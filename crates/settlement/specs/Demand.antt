-- "The exact credit", E7, demand 3: how far the credit of a settlement lies from the exact credit.
-- Assumes nothing.
use Rattle.std.specs.Prelude.{List, ◌≡◌, ℕ, ◌≤◌}
use Rattle.scheme.specs.Scheme.{longest_term, open_months}
use Rattle.terms.specs.declared.Terms.{Terms}
use Rattle.marks.specs.Status.{status_of}
use Rattle.credit.specs.Runs.{run_count}
use Rattle.distance.specs.Distance.{Within, half_pence}
use Rattle.settlement.specs.Credit.{exact_credit_of}
use Rattle.settlement.specs.Settle.{SettleNumbers}

-- E7: For terms and marks that are not refused, with a term of 1 to 20 years, k at least 1 and no refund: the credit for the whole list
-- lies within 2k − 1 pence of the exact credit, up or down, and half a penny more with odd months. `Within` compares in half pence.
abbrev pub Demand3 : Terms → (marks : List ℕ) → SettleNumbers → Type 0
Demand3 t marks n =
    n.refusal ≡ 0
    → (1 ≤ t.term) × (t.term ≤ longest_term)
    → 1 ≤ run_count marks
    → (status_of open_months t.term marks ≡ 5 → ⊥)
    → Within n.credit (exact_credit_of t marks) (half_pence t.pnpa_months (run_count marks))
