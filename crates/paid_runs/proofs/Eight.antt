-- Eight marks read as one number: where it is that of eight 1s, a paid run goes on past them.
-- Assumes nothing.
use Rattle.std.proofs.Common.{◌≡◌, zero, suc, [], sym, ap, ◌∙◌, List, ◌∷◌, ◌++◌, ℕ, ◌+◌, ◌≤◌, ◌<◌, length, take, drop, get_or, length-take, take-append-drop, arith}
use Rattle.std.specs.Int.{w64, from_le_bytes, to_le_bytes}
use Rattle.std.proofs.lemmas.Nat.{le_bytes_8}
use Rattle.paid_runs.specs.PaidRun.{paid_run}

-- eight 1s in front of a list
abbrev ones_then : List ℕ → List ℕ
ones_then l = 1 ∷ (1 ∷ (1 ∷ (1 ∷ (1 ∷ (1 ∷ (1 ∷ (1 ∷ l)))))))

ones_passed : (l : List ℕ) → paid_run (ones_then l) ≡ 8 + paid_run l
unfolding paid_run
ones_passed l = omega arith

taken_below : (n : ℕ) (ms : List ℕ) (i : ℕ) → ((k : ℕ) → get_or ms k 0 < 256) → get_or (take n ms) i 0 < 256
taken_below zero ms i h = omega arith
taken_below (suc n) [] i h = omega arith
taken_below (suc n) (m ∷ ms) zero h = h 0
taken_below (suc n) (m ∷ ms) (suc i) h = taken_below n ms i (λ k. h (suc k))

pub past_eight : (ms eight : List ℕ) (n : ℕ) → eight ≡ take 8 ms → 8 ≤ length ms → ((i : ℕ) → get_or ms i 0 < 256)
    → n ≡ from_le_bytes w64 eight → n ≡ 0x0101_0101_0101_0101 → paid_run ms ≡ 8 + paid_run (drop 8 ms)
past_eight ms eight n front room bytes read e =
    let long : length eight ≡ 8 = ap length front ∙ length-take 8 ms ∙ omega arith in
    let ones : to_le_bytes w64 n ≡ eight = le_bytes_8 eight n long (λ i. rw front (taken_below 8 ms i bytes)) read in
    let whole : take 8 ms ++ drop 8 ms ≡ ms = take-append-drop 8 ms in
    let all : ones_then (drop 8 ms) ≡ ms = ap (λ (l : List ℕ). l ++ drop 8 ms) ((rw e at ones) ∙ front) ∙ whole in
    ap paid_run (sym all) ∙ ones_passed (drop 8 ms)
