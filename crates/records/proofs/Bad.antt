-- A record is bad by any of three faults, and not bad where it has none.
-- Assumes nothing.
use mathlib.Core.Bool.{true, false, not}
use mathlib.Core.Path.{◌≡◌, ap}
use Rattle.std.proofs.Common.{Ok, Err}
use Prim.Native.Nat.{◌<◌, ◌≤◌}
use native.Mathlib.Omega.{arith}
use borrow.Author.Tests.{lt-ltb, le-ltb, eq-eqb, ne_eqb, ltb-false, eqb-true, not-false}
use lib.Dec.{ltb, eqb}
use Rattle.common.proofs.Tests.{or_true, or_false, by_test}
use Rattle.scheme.specs.Scheme.{most_marks}
use Rattle.refusals.specs.declared.Refusal.{Refusal}
use Rattle.refusals.specs.Numbers.{refusal_number}
use Rattle.refusals.proofs.Numbers.{refusal_positive}
use Rattle.money.specs.Money.{pension}
use Rattle.money.specs.declared.PensionPence.{PensionPence}
use Rattle.records.specs.declared.Contract.{Contract}
use Rattle.records.specs.Record.{unused_marks, settled_record, all_zero, bad_record}
use Rattle.records.specs.Check.{CheckNumbers, bad_check, credited, check_of, check_in}

module _ (c : Contract) where
  pub refused_bad : ((settled_record c).refusal ≡ 0 → ⊥) → bad_record c ≡ true
  unfolding bad_record
  refused_bad h = rw (ne_eqb (settled_record c).refusal 0 h)

  pub count_bad : most_marks < c.count → bad_record c ≡ true
  unfolding bad_record
  count_bad h = rw (lt-ltb most_marks c.count h) (or_true (not (eqb (settled_record c).refusal 0)))

  pub unused_bad : all_zero (unused_marks c) ≡ false → bad_record c ≡ true
  unfolding bad_record
  unused_bad h = simp (h, or_true)

  -- what holds of a record that is not bad
  pub record Good : Type 0 where
    pub settled : (settled_record c).refusal ≡ 0
    pub few : c.count ≤ most_marks
    pub zeros : all_zero (unused_marks c) ≡ true

  pub good_record : Good → bad_record c ≡ false
  unfolding bad_record
  good_record g = rw (eq-eqb (settled_record c).refusal 0 g.settled, le-ltb most_marks c.count g.few, g.zeros)

  pub not_bad : bad_record c ≡ false → Good
  unfolding bad_record
  not_bad e =
      let first = or_false (not (eqb (settled_record c).refusal 0)) _ e in
      let rest = or_false (ltb most_marks c.count) _ first.1 in
      record {
        settled = eqb-true _ _ (not-false _ first.0);
        few = ltb-false _ _ rest.0;
        zeros = not-false _ rest.1;
      }

  -- what the check answers

  pub bad_check_lem : bad_record c ≡ true → bad_check ≡ check_of c
  unfolding check_of
  bad_check_lem e = rw e

  pub credited_check : Good → credited (settled_record c).credit ≡ check_of c
  unfolding check_of
  credited_check g = rw (good_record g)

  -- what an answer of the check says of the record

  pub check_refused : (r : Refusal) → check_in (Err r) ≡ check_of c → (bad_record c ≡ true) × (refusal_number r ≡ 13)
  unfolding check_of
  check_refused r e =
      by_test (bad_record c) (λ b. (b, ap (λ (n : CheckNumbers). n.refusal) (rw b at e)))
      (λ b. absurd (omega (arith, refusal_positive r, ap (λ (n : CheckNumbers). n.refusal) (rw b at e))))

  pub check_passed : {credit : PensionPence} → check_in (Ok credit) ≡ check_of c → (bad_record c ≡ false) × (credit ≡ pension (settled_record c).credit)
  unfolding check_of
  check_passed e =
      by_test (bad_record c) (λ b. absurd (omega (arith, ap (λ (n : CheckNumbers). n.refusal) (rw b at e))))
      (λ b. (b, ap (λ (n : CheckNumbers). n.credit) (rw b at e)))
