-- Not rules: what the program posting prints of several postings into one record.
-- Assumes nothing.
use Rattle.std.specs.Prelude.{List, [], ◌∷◌, ℕ}
use Rattle.records.specs.declared.Contract.{Contract}
use Rattle.refusals.specs.Places.{RefusedAt}
use Rattle.records.specs.Post.{post_of, posted_record}

-- the answer to the last of these postings, one after the other; the one before, where there is none
unfoldable pub last_answer : RefusedAt → Contract → List ℕ → RefusedAt
last_answer before c [] = before
last_answer before c (m ∷ ms) = last_answer (post_of c m) (posted_record c m) ms
