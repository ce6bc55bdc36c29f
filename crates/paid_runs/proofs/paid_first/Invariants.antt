-- `paid_runs::paid_first` meets its contract. The invariant: as many paid months are passed as the run of all marks is longer than what is left of it.
-- Assumes nothing.
use Rattle.std.proofs.Common.{◌≡◌, ◌+◌, ◌<◌, ◌≤◌, ℕ, length, get_or}
use Rattle.paid_runs.specs.PaidRun.{paid_run}
use Rattle.paid_runs.proofs.paid_first.Given as goal

abbrev pub invariant-loop-eight : goal.invariant-loop-eight
invariant-loop-eight l = record {
  within : length l.rest ≤ length l.marks;
  same_end : length l.rest + paid_run l.marks ≡ length l.marks + paid_run l.rest;
  bytes : (i : ℕ) → get_or l.rest i 0 < 256;
}

abbrev pub decreases-loop-eight : goal.decreases-loop-eight
decreases-loop-eight l = length l.rest
