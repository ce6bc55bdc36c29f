-- A line of the listing filled field by field.
-- Assumes nothing.
use mathlib.Core.List.{List, [], ◌∷◌, ◌++◌}
use mathlib.Core.Path.{◌≡◌, refl, sym, ap, ◌∙◌}
use Prim.Native.Nat.{ℕ, ◌+◌, ◌≤◌}
use native.Mathlib.Omega.{arith}
use lib.ListN.{length, take, set, length-append, length-set}
use lib.Seq.{take_all, take-suc-set}
use Rattle.text.specs.Column.{column_of}
use Rattle.text.specs.Steps.{put_at}
use Rattle.text.proofs.Writing.{length_column, put_long, put_more}
use Rattle.settlement.specs.Settle.{SettleNumbers}
use Rattle.case_line.specs.Line.{listed_bytes, listed_as}

-- the first `at` bytes of a row are the text
pub record RowFilled (row : List ℕ) (at : ℕ) (text : List ℕ) : Type 0 where
  pub long : length row ≡ listed_bytes
  pub is : take at row ≡ text

pub nothing_filled : (row : List ℕ) → length row ≡ listed_bytes → RowFilled row 0 []
nothing_filled row e = record { long = e; is = refl }

pub column_filled : (width v : ℕ) {row next text : List ℕ} {at : ℕ} → RowFilled row at text → next ≡ put_at row at (column_of width v)
    → at + width ≤ listed_bytes → RowFilled next (at + width) (text ++ column_of width v)
column_filled width v {row} {next} {text} {at} f e h =
    record {
      long = ap length e ∙ put_long row at (column_of width v) ∙ f.long;
      is = ap (take (at + width)) e ∙ put_more row at width v (omega (arith, f.long)) ∙ ap (λ (t : List ℕ). t ++ column_of width v) f.is;
    }

pub line_ended : {row text : List ℕ} → RowFilled row 45 text → set row 45 10 ≡ text ++ (10 ∷ [])
line_ended {row} f =
    sym (take_all listed_bytes (set row 45 10) (omega (arith, length-set row 45 10, f.long)))
    ∙ take-suc-set row 45 10 (omega (arith, f.long))
    ∙ ap (λ (t : List ℕ). t ++ (10 ∷ [])) f.is

pub length_listed : (election : ℕ) (n : SettleNumbers) → length (listed_as election n) ≡ listed_bytes
unfolding listed_as
length_listed election n = simp (length-append, length_column)
