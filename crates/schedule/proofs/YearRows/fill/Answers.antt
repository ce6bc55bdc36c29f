-- `schedule::YearRows::fill` meets its contract. After i marks the walk is that of the first i marks, and i entries are written.
-- Assumes nothing.
use mathlib.Core.List.{List}
use mathlib.Core.Path.{◌≡◌, sym, ap, subst, ◌∙◌}
use Prim.Native.Nat.{ℕ, suc, ◌+◌, ◌≤◌, ◌<◌}
use native.Mathlib.Omega.{arith}
use lib.ListN.{length, take, get_or}
use Rattle.common.proofs.Written.{written_none, written_more}
use Rattle.terms.specs.declared.Terms.{Terms}
use Rattle.scheme.specs.Scheme.{pounds_in_pence}
use Rattle.money.specs.Money.{pension}
use Rattle.money.specs.declared.PensionPence.{PensionPence}
use Rattle.examination.specs.Refusal.{settle_refusal}
use Rattle.settlement.proofs.Bounds.{settle_credit_most}
use Rattle.schedule.specs.Schedule.{entry_of}
use Rattle.schedule.specs.Walk.{WalkSoFar, step_walk, walk_of, held_of, Holdable}
use Rattle.schedule.specs.declared.YearRows.{YearRows}
use Rattle.schedule.proofs.Laws.{walk_starts, walk_more, walk_months, holds, entry_held, all_written}
use Rattle.schedule.proofs.YearRows.fill.Goals as goal

module _ (s : YearRows) (marks : List ℕ) (none : (settle_refusal s.election.terms marks).refusal ≡ 0) where
  next : {w r : WalkSoFar} (i : ℕ) → i < length marks → w ≡ walk_of s (take i marks) → r ≡ step_walk s w (get_or marks i 0)
      → r ≡ walk_of s (take (i + 1) marks)
  next i h walked told = told ∙ ap (λ (w : WalkSoFar). step_walk s w (get_or marks i 0)) walked ∙ walk_more s marks none i h

  -- what is held is the entry
  entry : {r : WalkSoFar} {k : PensionPence} (i : ℕ) → r ≡ walk_of s (take (i + 1) marks) → k ≡ pension (held_of s r)
      → k.0 ≡ entry_of s.election.terms marks i
  entry i walked held = ap (λ (k : PensionPence). k.0) held ∙ ap (held_of s) walked ∙ entry_held s marks none i

-- no entry passes the amount
entry_small : (t : Terms) (marks : List ℕ) (i : ℕ) → entry_of t marks i ≤ pounds_in_pence t.amount
unfolding entry_of
entry_small t marks i = settle_credit_most t (take (suc i) marks)

pub loop-i-init : goal.loop-i-init
loop-i-init c =
    let a = c.args in
    record {
      walked = c.begun-w.ensures ∙ walk_starts a.self.now a.marks.now c.requires.none_refused;
      written = written_none (entry_of a.self.now.election.terms a.marks.now) a.out.now;
    }

pub walk_on-w-requires : goal.walk_on-w-requires
walk_on-w-requires c =
    let l = c.loop-i in
    let month = ap (λ (w : WalkSoFar). w.lower.month) l.invariant.walked in
    omega (arith, month, walk_months c.args.self.now c.args.marks.now c.requires.none_refused l.i)

pub held-requires : goal.held-requires
held-requires c =
    let a = c.args in
    let l = c.loop-i in
    let is = next a.self.now a.marks.now c.requires.none_refused l.i c.loop-i-test.true l.invariant.walked c.walk_on-w.ensures in
    subst (Holdable a.self.now) (sym is) (holds a.self.now a.marks.now c.requires.none_refused (l.i + 1))

pub overflow_cast-out : goal.overflow_cast-out
overflow_cast-out c =
    let a = c.args in
    let l = c.loop-i in
    let none = c.requires.none_refused in
    let is = next a.self.now a.marks.now none l.i c.loop-i-test.true l.invariant.walked c.walk_on-w.ensures in
    omega (arith, entry a.self.now a.marks.now none l.i is c.held.ensures, entry_small a.self.now.election.terms a.marks.now l.i, a.self.now.election.accepted.under_cap)

pub loop-i-preserved : goal.loop-i-preserved
loop-i-preserved c =
    let a = c.args in
    let l = c.loop-i in
    let none = c.requires.none_refused in
    let is = next a.self.now a.marks.now none l.i c.loop-i-test.true l.invariant.walked c.walk_on-w.ensures in
    let inside : l.i < length a.out.now = omega (arith, c.requires.marks_in_bounds, c.loop-i-test.true) in
    record {
      walked = is;
      written = written_more _ _ _ _ _ inside l.invariant.written (entry a.self.now a.marks.now none l.i is c.held.ensures);
    }

pub returns : goal.returns
returns c =
    let l = c.loop-i in
    all_written _ c.args.marks.now _ _ c.requires.marks_in_bounds (omega (arith, c.loop-i-test.false, l.auto.i-end)) l.invariant.written
