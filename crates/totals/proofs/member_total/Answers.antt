-- `totals::member_total` meets its contract: what holds at each index is said by Adding.antt.
-- Assumes nothing.
use Rattle.std.proofs.Common.{rules, ◌≡◌, refl, Result, Ok, Err, MatchResult, is_ok, true}
use Rattle.std.proofs.lemmas.Result.{err_from_is_err_and}
use Rattle.records.proofs.Bad.{check_refused, check_passed}
use Rattle.totals.proofs.Adding.{over_total, none_added, sum_fits, bad_total, one_added, all_added}
use Rattle.totals.proofs.member_total.Goals as goal

-- what `map_err` makes of an answer says what the answer was
err_was : {A E F : Type 0} {N : E → Type 0} (r : Result A E) (f : F)
    → MatchResult r (λ x. ◌≡◌ {A = Result A F} (Err f) (Ok x)) N → (e : E) × (r ≡ Err e) × N e
err_was (Ok x) f m = absurd (let none : ⊥ = cc in none)
err_was (Err e) f m = (e, refl, m)

ok_was : {A E : Type 0} (F : Type 0) (N : E → Type 0) (r : Result A E) (x : A) → true ≡ is_ok r
    → MatchResult r (λ y. ◌≡◌ {A = Result A F} (Ok x) (Ok y)) N → r ≡ Ok x
ok_was F N (Ok y) x h m = cc
ok_was F N (Err e) x h m = absurd (let none : ⊥ = cc in none)

pub returns-then-records-gt-MOST_RECORDS : goal.returns-then-records-gt-MOST_RECORDS
returns-then-records-gt-MOST_RECORDS c = rw c.into.ensures (over_total _ c.if-records-gt-MOST_RECORDS.true)

pub loop-index-init : goal.loop-index-init
loop-index-init c = none_added _ _ c.if-records-gt-MOST_RECORDS.false c.none-sum.ensures

pub returns-in_err-credit : goal.returns-in_err-credit
returns-in_err-credit c =
    let p = err_from_is_err_and c.from_residual.result c.from_residual.ensures.1 in
    let was = err_was c.check_record.result c.in_err-credit.field-0.0 c.in_err-credit.ensures.cases in
    let bad = check_refused _ was.0 (rw was.1 at c.check_record.ensures) in
    let placed : c.in_err-credit.field-0.0 ≡ record { refusal = was.0; place = c.loop-index.index-counter } = search rules in
    rw (p.1, p.2, placed, bad.1) (bad_total _ _ _ c.loop-index.invariant _ c.loop-index-test.true bad.0)

pub plus-sum-requires : goal.plus-sum-requires
plus-sum-requires c =
    let was = ok_was _ _ c.check_record.result c.in_ok-credit.credit c.in_ok-credit.ensures.variant c.in_ok-credit.ensures.cases in
    let passed = check_passed _ (rw was at c.check_record.ensures) in
    sum_fits _ _ _ c.loop-index.invariant _ c.loop-index-test.true _ passed.1

pub loop-index-preserved : goal.loop-index-preserved
loop-index-preserved c =
    let was = ok_was _ _ c.check_record.result c.in_ok-credit.credit c.in_ok-credit.ensures.variant c.in_ok-credit.ensures.cases in
    let passed = check_passed _ (rw was at c.check_record.ensures) in
    one_added _ _ _ c.loop-index.invariant _ c.loop-index-test.true passed.0 _ (rw passed.1 at c.plus-sum.ensures)

pub returns : goal.returns
returns c = all_added _ _ _ c.loop-index.invariant c.loop-index-test.false
