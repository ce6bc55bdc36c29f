-- Not rules: a run of paid months at the start of a list of marks, as the code finds its end.
-- Assumes nothing.
use Rattle.std.specs.Prelude.{List, [], ◌∷◌, ℕ, suc, eqb}
use Rattle.common.specs.Choice.{pick}

-- how many 1s stand first
unfoldable pub paid_run : List ℕ → ℕ
paid_run [] = 0
paid_run (m ∷ ms) = pick (eqb m 1) (suc (paid_run ms)) 0
