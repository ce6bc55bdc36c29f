-- A run in the room that is left.
-- Assumes nothing.
use Rattle.std.proofs.Common.{List, ℕ, ◌≡◌, ◌≤◌, ◌+◌, ◌-◌, ◌++◌, ◌∙◌, length, min, take, replicate, ap, sym, arith}
use Rattle.std.proofs.lemmas.List.{take_min, take-replicate, length-replicate}
use Rattle.std.proofs.Math.Seq.{take-append-add}

-- the first of a run
first_of_run : (left months mark : ℕ) → take left (replicate months mark) ≡ replicate (min months left) mark
first_of_run left months mark =
    let shorter : min left (length (replicate months mark)) ≡ min months left = omega (arith, length-replicate months mark) in
    sym (take_min left (replicate months mark))
    ∙ ap (λ n. take n (replicate months mark)) shorter
    ∙ take-replicate (min months left) months mark (omega arith)

-- the marks before and a run that is cut to the room left are the marks and the whole run, as far as they fit
pub run_that_fits : (before : List ℕ) (room months mark : ℕ) → length before ≤ room → before ++ replicate (min months (room - length before)) mark ≡ take room (before ++ replicate months mark)
run_that_fits before room months mark h =
    let left : ℕ = room - length before in
    let all : room ≡ length before + left = omega arith in
    sym (
    ap (λ n. take n (before ++ replicate months mark)) all
    ∙ take-append-add before (replicate months mark) left
    ∙ ap (λ run. before ++ run) (first_of_run left months mark)
    )
