-- "Post a month", O12 and O13.
-- Assumes nothing.
use Rattle.std.specs.Prelude.{[], ◌∷◌, ◌++◌, ℕ, ◌+◌, eqb, set}
use Rattle.common.specs.Choice.{pick}
use Rattle.refusals.specs.Places.{RefusedAt, refusing}
use Rattle.settlement.specs.Settle.{SettleNumbers, settle_of}
use Rattle.records.specs.declared.Contract.{Contract}
use Rattle.records.specs.Record.{used_marks, bad_record}

-- O13: Settle of the record with a new mark after those in use
abbrev pub settled_with : Contract → (mark : ℕ) → SettleNumbers
settled_with c m = settle_of c.terms (used_marks c ++ (m ∷ []))

-- O13: what posting answers: 13 for a bad record; then what Settle refuses with the new mark, and where. Of a record that is not bad that
-- is the new mark, at the record's count, or 10 with no place (proofs/Place.antt).
unfoldable pub post_of : Contract → (mark : ℕ) → RefusedAt
post_of c m =
    pick (bad_record c) (refusing 13 0) (refusing (settled_with c m).refusal (settled_with c m).place)

-- O12: a record in which one mark and the count are written, and nothing else
abbrev pub with_mark : Contract → (index mark count : ℕ) → Contract
with_mark c i m n = record { terms = c.terms; marks = set c.marks i m; count = n }

-- O12, O13: the record afterwards: success adds the mark after those in use; a refusal changes nothing
unfoldable pub posted_record : Contract → (mark : ℕ) → Contract
posted_record c m = pick (eqb (post_of c m).refusal 0) (with_mark c c.count m (c.count + 1)) c
