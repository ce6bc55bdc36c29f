-- "Settle", O9 and O10: what refuses terms and marks, and where.
-- Assumes nothing.
use Rattle.std.specs.Prelude.{List, ℕ, eqb}
use Rattle.common.specs.Choice.{pick}
use Rattle.scheme.specs.Scheme.{open_months}
use Rattle.terms.specs.declared.Terms.{Terms}
use Rattle.terms.specs.Rules.{refusal_of}
use Rattle.refusals.specs.Places.{RefusedAt, refusing}
use Rattle.marks.specs.Refusal.{marks_refusal}

-- O9, O10: the terms are refused as by a quote with nothing existing, which has no place; where they pass, the marks decide
unfoldable pub settle_refusal : Terms → (marks : List ℕ) → RefusedAt
settle_refusal t marks = pick (eqb (refusal_of t 0) 0) (marks_refusal open_months t.term marks) (refusing (refusal_of t 0) 0)
