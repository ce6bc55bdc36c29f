-- Not rules: the marks walked through once, with what both tables' runs have earned so far. proofs/Laws shows that what is then held is
-- the entry of the schedule.
-- Assumes nothing.
use Rattle.std.specs.Prelude.{Option, Some, None, List, ◌≡◌, ℕ, ◌<◌, ◌^◌, eqb}
use Rattle.common.specs.Choice.{pick}
use Rattle.rounding.specs.Nearest.{nearest, combine}
use Rattle.scheme.specs.Scheme.{open_months}
use Rattle.marks.specs.declared.kinds.Kind.TheVariants.{Monthly}
use Rattle.marks.specs.Reading.{ReadSoFar, as_read, start_of, count_up, count_mark, marks_reading, status_from}
use Rattle.credit.specs.declared.CreditSoFar.{CreditSoFar}
use Rattle.credit.specs.SoFar.{nothing_yet, credit_at, after_mark, after_marks}
use Rattle.schedule.specs.declared.YearRows.{YearRows}
use Rattle.schedule.specs.declared.Walk.{Walk}

-- the reading of the marks so far, and each table's state
pub record WalkSoFar : Type 0 where
  pub reading : ReadSoFar
  pub lower : CreditSoFar
  pub upper : CreditSoFar

-- the code's walk
abbrev pub as_walked : Walk → WalkSoFar
as_walked w = record { reading = as_read w.reading; lower = w.lower; upper = w.upper }

-- before the first mark of a monthly contract
abbrev pub walk_begun : WalkSoFar
walk_begun = record { reading = start_of Monthly open_months; lower = nothing_yet; upper = nothing_yet }

-- a table's state after one mark more, and after all of some marks; nothing is earned where there is no table
abbrev pub after_mark_in : Option (List ℕ) → CreditSoFar → ℕ → CreditSoFar
after_mark_in None e mark = e
after_mark_in (Some years) e mark = after_mark nearest years e mark

abbrev pub after_marks_in : Option (List ℕ) → List ℕ → CreditSoFar
after_marks_in None marks = nothing_yet
after_marks_in (Some years) marks = after_marks nearest years nothing_yet marks

-- after one mark more, which is lawful
abbrev pub step_walk : YearRows → WalkSoFar → ℕ → WalkSoFar
step_walk s w mark =
    record {
      reading = count_mark count_up w.reading mark;
      lower = after_mark nearest s.lower w.lower mark;
      upper = after_mark_in s.upper w.upper mark;
    }

-- after all of some marks
abbrev pub walk_of : YearRows → List ℕ → WalkSoFar
walk_of s marks =
    record {
      reading = marks_reading open_months s.election.terms.term marks;
      lower = after_marks nearest s.lower nothing_yet marks;
      upper = after_marks_in s.upper marks;
    }

-- the lower table's credit, combined with the upper's where there is one
abbrev pub combined_in : Option (List ℕ) → (months lower : ℕ) → CreditSoFar → ℕ
combined_in None months lower e = lower
combined_in (Some years) months lower e = combine months lower (credit_at nearest years e)

-- what the runs of the marks walked through earned
abbrev pub credit_held : YearRows → WalkSoFar → ℕ
credit_held s w = combined_in s.upper s.election.terms.pnpa_months (credit_at nearest s.lower w.lower) w.upper

-- what is held after them: nothing when refunded
unfoldable pub held_of : YearRows → WalkSoFar → ℕ
held_of s w = pick (eqb (status_from s.election.terms.term w.reading) 5) 0 (credit_held s w)

-- what `held` asks: credits that fit, after few enough marks
pub record Holdable (s : YearRows) (w : WalkSoFar) : Type 0 where
  pub few : w.lower.month < 2 ^ 31
  pub lower_fits : credit_at nearest s.lower w.lower < 2 ^ 32
  pub upper_fits : (years : List ℕ) → s.upper ≡ Some years → credit_at nearest years w.upper < 2 ^ 32
