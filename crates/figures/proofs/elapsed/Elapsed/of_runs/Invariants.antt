-- `Elapsed::of_runs`: the marks so far are those of the runs before.
use Rattle.std.proofs.Common.{◌≡◌, take}
use Rattle.figures.specs.Elapsed.{elapsed_marks, row_marks}
use Rattle.figures.proofs.elapsed.Elapsed.of_runs.Given as goal

abbrev pub invariant-loop-run : goal.invariant-loop-run
invariant-loop-run l = elapsed_marks l.elapsed ≡ row_marks (take l.run-index l.runs)
