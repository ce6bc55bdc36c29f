-- `Elapsed::push_run` meets its contract.
use Rattle.std.proofs.Common.{List, ℕ, ◌≡◌, ◌≤◌, ◌+◌, ◌-◌, ◌++◌, ◌∙◌, length, min, take, replicate, ap, sym, refl, arith}
use Rattle.std.proofs.lemmas.List.{length-take, length-drop, length-replicate}
use Rattle.std.proofs.lemmas.Slice.{take-put_mid}
use borrow.Rule.Slice.PartMut.{mid_of}
use Rattle.figures.specs.Elapsed.{with_run}
use Rattle.figures.proofs.MarkRuns.{run_that_fits}
use Rattle.figures.proofs.elapsed.Elapsed.push_run.Goals as goal

pub returns : goal.returns
unfolding with_run
returns c =
    let i = c.args.self.now in
    let mark : ℕ = c.args.run.0 in
    let months : ℕ = c.args.run.1 in
    let added : ℕ = c.min.result in
    let before : List ℕ = take i.count i.marks in
    let within : i.count ≤ 256 = omega (arith, i.fits) in
    let full : length i.marks ≡ 256 = omega arith in
    let cut : added ≡ min months (256 - i.count) = c.min.ensures in
    let room : length (mid_of i.count (i.count + added - i.count) i.marks) ≡ added = rw (length-take, length-drop) (omega arith) in
    let filled : c.fill.new.self ≡ replicate added mark = c.fill.ensures.after (λ y e. e) ∙ ap (λ n. replicate n mark) room in
    let long : length before ≡ i.count = length-take i.count i.marks ∙ omega arith in
    take-put_mid i.count _ i.marks c.fill.new.self (i.count + added) (rw (filled, length-replicate) refl) (omega arith)
    ∙ ap (λ run. before ++ run) (filled ∙ ap (λ n. replicate n mark) (cut ∙ ap (λ n. min months (256 - n)) (sym long)))
    ∙ run_that_fits before 256 months mark (omega arith)
