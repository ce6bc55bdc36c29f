-- `schedule::schedule` meets its contract: Settle's refusal, then a short list, then the entries.
-- Assumes nothing.
use mathlib.Core.List.{List, []}
use mathlib.Core.Path.{◌≡◌, sym, ap, ◌∙◌}
use Prim.Native.Nat.{ℕ, ◌≤◌, ◌<◌}
use native.Mathlib.Omega.{arith}
use lib.ListN.{length}
use borrow.Author.Tests.{eq-eqb, ne_eqb, lt-ltb, le-ltb}
use Rattle.std.proofs.lemmas.Result.{err_from_is_err_and}
use Rattle.refusals.specs.declared.Refused.{Refused}
use Rattle.refusals.specs.Numbers.{refusal_number}
use Rattle.refusals.specs.Places.{RefusedAt, refusing}
use Rattle.refusals.proofs.Numbers.{refusal_positive}
use Rattle.terms.specs.declared.Terms.{Terms}
use Rattle.examination.specs.Refusal.{settle_refusal}
use Rattle.settlement.specs.Settle.{settle_of}
use Rattle.settlement.proofs.Laws.{settle_refused, settle_refusal_lem}
use Rattle.schedule.specs.Schedule.{ScheduleNumbers, filled_of, schedule_of}
use Rattle.schedule.proofs.schedule.Goals as goal

at_list : List ℕ → ScheduleNumbers
at_list l = record { refusal = 0; place = 0; list = l }

module _ (t : Terms) (marks list : List ℕ) where
  refused : (e : Refused) → refusing (refusal_number e.refusal) e.place ≡ settle_refusal t marks
      → ◌≡◌ {A = ScheduleNumbers} (record { refusal = refusal_number e.refusal; place = e.place; list = list }) (schedule_of t marks list)
  unfolding schedule_of
  refused e is =
      let some : (settle_refusal t marks).refusal ≡ 0 → ⊥ = λ z. omega (arith, refusal_positive e.refusal, ap (λ (r : RefusedAt). r.refusal) is, z) in
      ap (λ (r : RefusedAt). record { refusal = r.refusal; place = r.place; list = list }) is
      ∙ rw (settle_refused t marks some, ne_eqb (settle_refusal t marks).refusal 0 some)

  module _ (none : refusing 0 0 ≡ settle_refusal t marks) where
    pub unrefused : (settle_refusal t marks).refusal ≡ 0
    unrefused = sym (ap (λ (r : RefusedAt). r.refusal) none)

    short : length list < length marks → ◌≡◌ {A = ScheduleNumbers} (record { refusal = 14; place = 0; list = list }) (schedule_of t marks list)
    unfolding schedule_of
    short h = rw (eq-eqb (settle_of t marks).refusal 0 (settle_refusal_lem t marks ∙ unrefused), lt-ltb (length list) (length marks) h)

    filled : length marks ≤ length list → at_list (filled_of t marks list) ≡ schedule_of t marks list
    unfolding schedule_of at_list
    filled h = rw (eq-eqb (settle_of t marks).refusal 0 (settle_refusal_lem t marks ∙ unrefused), le-ltb (length list) (length marks) h)

pub returns-in_err-examined : goal.returns-in_err-examined
returns-in_err-examined c =
    let p = err_from_is_err_and c.from_residual.result c.from_residual.ensures.1 in
    rw (p.1, p.2) (refused c.args.t c.args.marks.now _ c.in_err-examined.field-0.0 c.in_err-examined.ensures.refusal)

pub returns-then-out-marks : goal.returns-then-out-marks
returns-then-out-marks c = rw c.into.ensures (short c.args.t c.args.marks.now _ c.in_ok-examined.ensures.refusal c.if-out-marks.true)

pub fill_lump_sum-requires-clause-none_refused : goal.fill_lump_sum-requires-clause-none_refused
fill_lump_sum-requires-clause-none_refused c = unrefused c.args.t c.args.marks.now [] c.in_ok-examined.ensures.refusal

pub returns-then-t-eq0 : goal.returns-then-t-eq0
unfolding at_list
returns-then-t-eq0 c =
    ap at_list c.fill_lump_sum.ensures ∙ filled c.args.t c.args.marks.now _ c.in_ok-examined.ensures.refusal c.if-out-marks.false

pub of-requires : goal.of-requires
of-requires c = rw c.in_ok-examined.ensures.found.terms (omega (arith, c.if-t-eq0.false))

pub returns-else-t-eq0 : goal.returns-else-t-eq0
unfolding at_list
returns-else-t-eq0 c =
    let t = c.args.t in
    let e = c.in_ok-examined.ensures in
    let same = c.of.ensures ∙ e.found.terms in
    ap at_list (c.fill.ensures ∙ ap (λ (t : Terms). filled_of t c.args.marks.now c.args.out.now) same)
    ∙ filled t c.args.marks.now _ e.refusal c.if-out-marks.false
