-- Bytes stored one after another.
-- Assumes nothing.
use mathlib.Core.List.{List, [], ◌∷◌, ◌++◌, append_assoc, append-nil}
use mathlib.Core.Path.{◌≡◌, refl, sym, ap, ◌∙◌}
use Prim.Native.Nat.{ℕ, ◌+◌, ◌*◌, ◌-◌, ◌≤◌, ◌<◌}
use native.Mathlib.Nat.{div-div-eq-div-mul}
use native.Mathlib.Numerals.{add-one}
use native.Mathlib.Omega.{arith}
use borrow.Author.Tests.{lt-ltb, le-ltb}
use lib.ListN.{length, take, drop, get_or, length-append}
use lib.Seq.{length-take-le, take-length, take-suc, drop-drop, take_at, drop_at}
use borrow.Rule.Slice.PartMut.{put_mid}
use Rattle.std.specs.Int.{w64, to_le_bytes}
use Rattle.number_bytes.specs.Bytes.{low_bytes, eight_bytes, in_bytes}
use Rattle.number_bytes.specs.Stored.{stored_in}

pub length_eight : (n : ℕ) → length (eight_bytes n) ≡ 8
unfolding eight_bytes low_bytes
length_eight n = refl

pub eight_are : (n : ℕ) → to_le_bytes w64 n ≡ eight_bytes n
unfolding eight_bytes low_bytes
eight_are n = simp div-div-eq-div-mul

in_bytes-append : (ms ns : List ℕ) → in_bytes (ms ++ ns) ≡ in_bytes ms ++ in_bytes ns
unfolding in_bytes
in_bytes-append [] ns = refl
in_bytes-append (m ∷ ms) ns = ap (λ (x : List ℕ). eight_bytes m ++ x) (in_bytes-append ms ns) ∙ sym (append_assoc (eight_bytes m) (in_bytes ms) (in_bytes ns))

bytes_length : (ns : List ℕ) → length (in_bytes ns) ≡ 8 * length ns
unfolding in_bytes
bytes_length [] = refl
bytes_length (n ∷ ns) = omega (arith, length-append (eight_bytes n) (in_bytes ns), length_eight n, bytes_length ns)

-- the buffer once the first i numbers are stored: they, and behind them what was there
abbrev pub first_stored : List ℕ → List ℕ → ℕ → List ℕ
first_stored ns buffer i = in_bytes (take i ns) ++ drop (8 * i) buffer

one_more : (ns : List ℕ) (i : ℕ) → i < length ns → in_bytes (take (i + 1) ns) ≡ in_bytes (take i ns) ++ eight_bytes (get_or ns i 0)
unfolding in_bytes
one_more ns i h =
    rw (add-one, take-suc ns i 0 h)
    (in_bytes-append (take i ns) (get_or ns i 0 ∷ []) ∙ ap (λ (x : List ℕ). in_bytes (take i ns) ++ x) (append-nil (eight_bytes (get_or ns i 0))))

put_behind : (front back ys : List ℕ) (n k : ℕ) → length front ≡ n → put_mid n k (front ++ back) ys ≡ front ++ (ys ++ drop k back)
put_behind front back ys n k e = rw (take_at front back n e, drop_at front back n e)

-- after one number more
pub number_stored : (ns buffer l ys : List ℕ) (i : ℕ) → i < length ns → l ≡ first_stored ns buffer i → ys ≡ eight_bytes (get_or ns i 0)
    → put_mid (8 * i) (8 * i + 8 - 8 * i) l ys ≡ first_stored ns buffer (i + 1)
number_stored ns buffer l ys i h before bytes =
    let x : ℕ = get_or ns i 0 in
    let long : length (in_bytes (take i ns)) ≡ 8 * i = bytes_length (take i ns) ∙ omega (arith, length-take-le i ns (omega arith)) in
    let eight : 8 * i + 8 - 8 * i ≡ 8 = omega arith in
    let next : 8 * i + 8 ≡ 8 * (i + 1) = omega arith in
    rw (eight, before, bytes) (put_behind (in_bytes (take i ns)) (drop (8 * i) buffer) (eight_bytes x) (8 * i) 8 long)
    ∙ sym (append_assoc (in_bytes (take i ns)) (eight_bytes x) (drop 8 (drop (8 * i) buffer)))
    ∙ ap (λ (l : List ℕ). l ++ drop 8 (drop (8 * i) buffer)) (sym (one_more ns i h))
    ∙ ap (λ (l : List ℕ). in_bytes (take (i + 1) ns) ++ l) (drop-drop 8 (8 * i) buffer ∙ ap (λ (n : ℕ). drop n buffer) next)

pub none_stored : (ns buffer : List ℕ) → buffer ≡ first_stored ns buffer 0
unfolding in_bytes
none_stored ns buffer = refl

pub all_stored : (ns buffer l : List ℕ) (i : ℕ) → length ns ≤ i → i ≤ length ns → 8 * length ns ≤ length buffer → l ≡ first_stored ns buffer i
    → l ≡ stored_in ns buffer
unfolding stored_in
all_stored ns buffer l i low high room e =
    let all : i ≡ length ns = omega arith in
    rw (e, le-ltb (length buffer) (8 * length ns) room, all, take-length) refl

pub stored_front : (ns l : List ℕ) → 8 * length ns ≤ length l → stored_in ns l ≡ in_bytes ns ++ drop (8 * length ns) l
unfolding stored_in
stored_front ns l room = rw (le-ltb (length l) (8 * length ns) room)

pub no_room : (ns l : List ℕ) → length l < 8 * length ns → l ≡ stored_in ns l
unfolding stored_in
no_room ns l h = rw (lt-ltb (length l) (8 * length ns) h)
