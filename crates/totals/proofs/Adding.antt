-- The sum of the records before an index, and what it says of the whole list.
-- Assumes nothing.
use mathlib.Core.Bool.{true, false}
use mathlib.Core.List.{List, [], ◌∷◌}
use mathlib.Core.Path.{◌≡◌, refl, ap, ◌∙◌}
use Prim.Native.Nat.{ℕ, zero, suc, ◌+◌, ◌*◌, ◌^◌, ◌<◌, ◌≤◌}
use native.Mathlib.Numerals.{add-one}
use native.Mathlib.Omega.{arith}
use borrow.Author.Tests.{lt-ltb, le-ltb}
use lib.ListN.{length, take, get_or}
use lib.Seq.{take_all, length-take-le}
use Rattle.scheme.specs.Scheme.{cap_pence}
use Rattle.common.proofs.Tests.{or_false}
use Rattle.settlement.proofs.Bounds.{settle_bounds}
use Rattle.records.specs.declared.Contract.{Contract}
use Rattle.records.specs.Record.{used_marks, settled_record, bad_record}
use Rattle.money.specs.Money.{pension}
use Rattle.money.specs.declared.PensionPence.{PensionPence}
use Rattle.totals.specs.Total.{most_records, credit_sum, any_bad, first_bad_record, refused_total, totalling, member_total_of}

sum_most : (cs : List Contract) → credit_sum cs ≤ length cs * cap_pence
unfolding credit_sum
sum_most [] = omega arith
sum_most (c ∷ cs) = omega (arith, settle_bounds c.terms (used_marks c), sum_most cs)

-- the record at an index, with d past the end of the list
module _ (d : Contract) where
  sum_more : (cs : List Contract) (i : ℕ) → i < length cs
      → credit_sum (take (suc i) cs) ≡ credit_sum (take i cs) + (settled_record (get_or cs i d)).credit
  unfolding credit_sum
  sum_more [] i h = absurd (omega arith)
  sum_more (c ∷ cs) zero h = omega arith
  sum_more (c ∷ cs) (suc i) h = omega (arith, sum_more cs i (omega arith))

  good_more : (cs : List Contract) (i : ℕ) → i < length cs → any_bad (take i cs) ≡ false → bad_record (get_or cs i d) ≡ false
      → any_bad (take (suc i) cs) ≡ false
  unfolding any_bad
  good_more [] i h g b = refl
  good_more (c ∷ cs) zero h g b = rw b
  good_more (c ∷ cs) (suc i) h g b =
      let both = or_false (bad_record c) (any_bad (take i cs)) g in
      rw both.0 (good_more cs i (omega arith) both.1 b)

  -- a bad record after good ones is the first bad one
  first_bad : (cs : List Contract) (i : ℕ) → i < length cs → any_bad (take i cs) ≡ false → bad_record (get_or cs i d) ≡ true
      → (any_bad cs ≡ true) × (first_bad_record cs ≡ i)
  unfolding any_bad first_bad_record
  first_bad [] i h g b = absurd (omega arith)
  first_bad (c ∷ cs) zero h g b = (rw b, rw b)
  first_bad (c ∷ cs) (suc i) h g b =
      let both = or_false (bad_record c) (any_bad (take i cs)) g in
      let rest = first_bad cs i (omega arith) both.1 b in
      (rw both.0 rest.0, rw both.0 (ap suc rest.1))

-- the records before an index are good, and the sum is that of their credits
pub record Added (cs : List Contract) (i : ℕ) (sum : PensionPence) : Type 0 where
  pub few : length cs ≤ most_records
  pub good : any_bad (take i cs) ≡ false
  pub added : sum ≡ pension (credit_sum (take i cs))

-- the answers

pub over_total : (cs : List Contract) → most_records < length cs → refused_total 14 0 ≡ member_total_of cs
unfolding member_total_of
over_total cs h = rw (lt-ltb most_records (length cs) h)

pub none_added : (cs : List Contract) (sum : PensionPence) → length cs ≤ most_records → sum ≡ pension 0 → Added cs 0 sum
unfolding any_bad credit_sum
none_added cs sum few e = record { few = few; good = refl; added = e }

module _ (cs : List Contract) (i : ℕ) (sum : PensionPence) (a : Added cs i sum) where
  -- no credit is above the cap, so the next one can be added
  pub sum_fits : (d : Contract) → i < length cs → (credit : PensionPence) → credit ≡ pension (settled_record (get_or cs i d)).credit
      → sum.0 + credit.0 < 2 ^ 64
  sum_fits d h credit e =
      let pence = λ (p : PensionPence). p.0 in
      let one = (settle_bounds (get_or cs i d).terms (used_marks (get_or cs i d))).credit_most in
      omega (arith, ap pence a.added, ap pence e, one, sum_most (take i cs), length-take-le i cs (omega arith), a.few)

  pub bad_total : (d : Contract) → i < length cs → bad_record (get_or cs i d) ≡ true → refused_total 13 i ≡ member_total_of cs
  unfolding member_total_of
  bad_total d h b =
      let first = first_bad d cs i h a.good b in
      rw (le-ltb most_records (length cs) a.few, first.0, first.1)

  pub one_added : (d : Contract) → i < length cs → bad_record (get_or cs i d) ≡ false → (more : PensionPence)
      → more ≡ pension (sum.0 + (settled_record (get_or cs i d)).credit) → Added cs (i + 1) more
  one_added d h b more e =
      record {
        few = a.few;
        good = rw add-one (good_more d cs i h a.good b);
        added = e ∙ rw (a.added, add-one, sum_more d cs i h);
      }

  pub all_added : length cs ≤ i → totalling sum.0 ≡ member_total_of cs
  unfolding member_total_of
  all_added h =
      let all = take_all i cs h in
      rw (le-ltb most_records (length cs) a.few, rw all at a.good, a.added, all)
