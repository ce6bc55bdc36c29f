-- `reduction::reduction_limit` meets its contract.
-- Assumes nothing.
use mathlib.Core.Bool.{Bool}
use mathlib.Core.Path.{◌≡◌, refl, sym, ap, subst, ◌∙◌}
use Prim.Native.Nat.{◌+◌}
use native.Mathlib.Omega.{arith}
use lib.Dec.{ltb}
use borrow.Author.Tests.{lt-ltb}
use Rattle.std.proofs.lemmas.Result.{err_from_is_err_and}
use Rattle.refusals.proofs.Numbers.{refusal_positive}
use Rattle.reduction.specs.declared.Application.{Application}
use Rattle.reduction.specs.Answer.{ReductionNumbers, reduction_limit_of}
use Rattle.reduction.specs.Clauses.{ReductionRefusals, ReductionAnswered}
use Rattle.reduction.proofs.Range.{in_by}
use Rattle.reduction.proofs.Searching.{search_begun, some_age, past_npa, no_candidate_left, taken_here, one_further}
use Rattle.reduction.proofs.Clauses.{refused_by, reduction_refusals, reduction_answered}
use Rattle.reduction.proofs.reduction_limit.Goals as goal

-- what is promised of an answer
module _ (a : Application) where
  abbrev answer : ReductionNumbers
  answer = reduction_limit_of a

  abbrev Promised : ReductionNumbers → Bool → Bool → Type 0
  Promised n refusal scope =
      (n ≡ answer)
      × (ReductionRefusals a n × (ReductionAnswered a n × ((refusal ≡ ltb 0 answer.refusal) × (scope ≡ ltb 0 answer.age))))

  -- of one with the right numbers, whose case is the one that they say
  promised : {n : ReductionNumbers} {refusal scope : Bool} → n ≡ answer → refusal ≡ ltb 0 n.refusal → scope ≡ ltb 0 n.age
      → Promised n refusal scope
  promised is says-refusal says-scope = (
    is,
    (
      subst (ReductionRefusals a) (sym is) (reduction_refusals a),
      (
        subst (ReductionAnswered a) (sym is) (reduction_answered a),
        (
          says-refusal ∙ ap (λ (n : ReductionNumbers). ltb 0 n.refusal) is,
          says-scope ∙ ap (λ (n : ReductionNumbers). ltb 0 n.age) is,
        ),
      ),
    ),
  )

pub returns-in_err-check : goal.returns-in_err-check
returns-in_err-check c =
    let e = err_from_is_err_and c.from_residual.result c.from_residual.ensures.1 in
    let some = refusal_positive c.in_err-check.field-0.0 in
    let p = promised c.args.a (refused_by _ c.in_err-check.ensures some) (sym (lt-ltb 0 _ some)) refl in
    rw (e.1, e.2) (record { is = p.0; refusals = p.1.0; answered = p.1.1.0; refused = p.1.1.1.0; scope = p.1.1.1.1 })

pub loop-k-init : goal.loop-k-init
loop-k-init c =
    let here : c.first_candidate-first.result + 0 ≡ c.first_candidate-first.result = omega arith in
    rw here
    (search_begun _ (in_by _ c.in_ok-check.ensures refl) c.first_candidate-first.ensures c.power_to-power.ensures
    (rw c.none-potentials.ensures))

pub returns-then-is_taken : goal.returns-then-is_taken
returns-then-is_taken c =
    let s = c.loop-k.invariant in
    let p = promised c.args.a (taken_here _ s c.if-a-candidate.false c.potential-b.ensures c.is_taken.ensures c.if-is_taken.true) refl (some_age _ s) in
    record { is = p.0; refusals = p.1.0; answered = p.1.1.0; refused = p.1.1.1.0; scope = p.1.1.1.1 }

pub loop-k-preserved : goal.loop-k-preserved
loop-k-preserved c =
    let next : c.first_candidate-first.result + (c.loop-k.k + 1) ≡ c.first_candidate-first.result + c.loop-k.k + 1 = omega arith in
    rw next
    (one_further _ c.loop-k.invariant c.if-a-candidate.false c.potential-b.ensures c.is_taken.ensures c.if-is_taken.false c.grown-power.ensures)

pub returns-then-a-candidate : goal.returns-then-a-candidate
returns-then-a-candidate c =
    let p = promised c.args.a (past_npa _ c.loop-k.invariant c.if-a-candidate.true) refl refl in
    record { is = p.0; refusals = p.1.0; answered = p.1.1.0; refused = p.1.1.1.0; scope = p.1.1.1.1 }

pub returns-after-loop-k : goal.returns-after-loop-k
returns-after-loop-k c =
    let p = promised c.args.a (no_candidate_left _ c.loop-k.invariant (omega (arith, c.loop-k-test.false))) refl refl in
    record { is = p.0; refusals = p.1.0; answered = p.1.1.0; refused = p.1.1.1.0; scope = p.1.1.1.1 }
