-- What is kept of an open line.
-- Assumes nothing.
use mathlib.Core.List.{List, [], ◌∷◌, ◌++◌}
use mathlib.Core.Path.{◌≡◌, sym, ap, ◌∙◌}
use Prim.Native.Nat.{ℕ, zero, suc, ◌+◌, ◌-◌, ◌≤◌, min}
use native.Mathlib.Omega.{arith}
use lib.ListN.{length, take}
use lib.Seq.{paste, take-paste, take-take, take-append-add, length-take-le}
use Rattle.casefile.specs.Stream.{kept_bytes}

-- no more than there are
take_least : (n : ℕ) (l : List ℕ) → take (min n (length l)) l ≡ take n l
take_least zero l =
    let m : min 0 (length l) ≡ 0 = omega arith in
    rw m
take_least (suc n) [] =
    let m : min (suc n) 0 ≡ 0 = omega arith in
    rw m
take_least (suc n) (x ∷ l) =
    let m : min (suc n) (suc (length l)) ≡ suc (min n (length l)) = omega arith in
    rw m (ap (λ (r : List ℕ). x ∷ r) (take_least n l))

pub kept_part : (bytes : List ℕ) (len : ℕ) (part : List ℕ) {bytes' : List ℕ} {n : ℕ} → length bytes ≡ kept_bytes → len ≤ kept_bytes
    → n ≡ min (kept_bytes - len) (length part) → bytes' ≡ paste bytes len (take n part) n
    → take (len + n) bytes' ≡ take kept_bytes (take len bytes ++ part)
kept_part bytes len part {bytes'} {n} long small count e =
    let head : length (take len bytes) ≡ len = length-take-le len bytes (omega arith) in
    let whole : length (take len bytes) + (kept_bytes - len) ≡ kept_bytes = omega arith in
    ap (take (len + n)) e
    ∙ take-paste bytes len (take n part) n (omega arith) (omega (arith, length-take-le n part (omega arith)))
    ∙ ap (λ (r : List ℕ). take len bytes ++ r) (take-take n n part (omega arith) ∙ ap (λ (k : ℕ). take k part) count ∙ take_least (kept_bytes - len) part)
    ∙ sym (take-append-add (take len bytes) part (kept_bytes - len))
    ∙ ap (λ (k : ℕ). take k (take len bytes ++ part)) whole
