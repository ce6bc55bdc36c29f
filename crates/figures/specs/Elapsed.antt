-- Not rules: the marks that a row of the program figures stands for, put together from the runs that it names.
-- Assumes nothing.
use Rattle.std.specs.Prelude.{List, [], ◌++◌, ℕ, take, fold, replicate}
use Rattle.figures.specs.declared.elapsed.Elapsed.{Elapsed}

-- the marks of elapsed months
abbrev pub elapsed_marks : Elapsed → List ℕ
elapsed_marks e = take e.count e.marks

-- the marks and one run more, a mark and its number of months, as far as 256 go
unfoldable pub with_run : List ℕ → (ℕ × ℕ) → List ℕ
with_run before run = take 256 (before ++ replicate run.1 run.0)

-- the marks of a row: those of its runs, one after another
abbrev pub row_marks : List (ℕ × ℕ) → List ℕ
row_marks runs = fold with_run [] runs
