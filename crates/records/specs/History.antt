-- "Post a month", O11 and O15: marks posted one after the other. A posted history is a settled list
-- (proofs/History.antt).
-- Assumes nothing.
use Rattle.std.specs.Prelude.{List, [], ◌∷◌, ◌≡◌, ℕ, length, replicate}
use Rattle.scheme.specs.Scheme.{most_marks}
use Rattle.terms.specs.declared.Terms.{Terms}
use Rattle.settlement.specs.Settle.{settle_of}
use Rattle.records.specs.declared.Contract.{Contract}
use Rattle.records.specs.Record.{used_marks, settled_record}
use Rattle.records.specs.Post.{post_of, posted_record}

-- O11: a record with terms and no mark yet
abbrev pub fresh_record : Terms → Contract
fresh_record t = record { terms = t; marks = replicate most_marks 0; count = 0 }

-- O15: the record after marks are posted one after the other
unfoldable pub posted_all : Contract → List ℕ → Contract
posted_all c [] = c
posted_all c (m ∷ ms) = posted_all (posted_record c m) ms

-- O15: none of these postings is refused
unfoldable pub NoneRefused : Contract → List ℕ → Type 0
NoneRefused c [] = Unit {0}
NoneRefused c (m ∷ ms) = ((post_of c m).refusal ≡ 0) × NoneRefused (posted_record c m) ms

-- O15: the record c holds the terms t and the marks ms, and Settle of it is Settle of them
pub record RecordHolds (c : Contract) (t : Terms) (ms : List ℕ) : Type 0 where
  pub terms : c.terms ≡ t
  pub count : c.count ≡ length ms
  pub marks : used_marks c ≡ ms
  pub settled : settled_record c ≡ settle_of t ms
