-- One posting of several.
-- Assumes nothing.
use mathlib.Core.Path.{◌≡◌, refl}
use Prim.Native.Nat.{ℕ, zero, suc, ◌-◌, ◌<◌}
use native.Mathlib.Omega.{arith}
use lib.ListN.{replicate}
use Rattle.records.specs.declared.Contract.{Contract}
use Rattle.refusals.specs.Places.{RefusedAt}
use Rattle.records.specs.Post.{post_of, posted_record}
use Rattle.records.specs.History.{posted_all}
use Rattle.posting.specs.Postings.{last_answer}

-- the record that several postings leave is that which the others leave after the first
pub record_after_one : (c : Contract) (left mark : ℕ) → 0 < left → posted_all c (replicate left mark) ≡ posted_all (posted_record c mark) (replicate (left - 1) mark)
unfolding posted_all
record_after_one c zero mark p = absurd (omega arith)
record_after_one c (suc left) mark p =
    let less : suc left - 1 ≡ left = omega arith in
    rw less refl

-- and so is the answer
pub answer_after_one : (before : RefusedAt) (c : Contract) (left mark : ℕ) → 0 < left → last_answer before c (replicate left mark) ≡ last_answer (post_of c mark) (posted_record c mark) (replicate (left - 1) mark)
unfolding last_answer
answer_after_one before c zero mark p = absurd (omega arith)
answer_after_one before c (suc left) mark p =
    let less : suc left - 1 ≡ left = omega arith in
    rw less refl
