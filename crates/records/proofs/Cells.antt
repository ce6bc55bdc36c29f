-- A record that memory can hold, and the length of its marks.
-- Assumes nothing.
use mathlib.Core.List.{List, [], ◌∷◌}
use mathlib.Core.Path.{◌≡◌}
use Prim.Native.Nat.{ℕ}
use lib.ListN.{length}
use mir.Val.{Val}
use denote.Array.{Array}
use denote.Builtin.{u8}
use denote.Laws.{Is}
use denote.Struct.Laws as LL
use Rattle.scheme.specs.Scheme.{most_marks}
use Rattle.records.specs.declared.Contract.{Contract}
use Rattle.records.specs.contracts.Contract as K
use Rattle.records.proofs.Contract.TheLaws as K'

-- the machine value of a record
abbrev pub record_val : Contract → Val
record_val = LL.val K.the_type K'.the_laws

-- c is a record that memory can hold
abbrev pub RecordHeld : Contract → Type 0
RecordHeld c = Is K.the_row c (record_val c ∷ [])

array_length : (ms : List ℕ) (vs : List Val) → Is (Array u8 most_marks) ms vs → length ms ≡ most_marks
array_length ms vs p = p.1.0.1

-- a record has room for the most marks
pub marks_length : (c : Contract) → RecordHeld c → length c.marks ≡ most_marks
marks_length c h = array_length c.marks _ (LL.owed K.the_type K'.the_laws c (record_val c ∷ []) h).1.0
