-- "What each operation gives", O1 and O2: the numbers of the refusals, 1 to 18; 0 is none.
-- Assumes nothing.
use Rattle.std.specs.Prelude.{Bool, true, false, Result, Ok, Err, ℕ}
use Rattle.refusals.specs.declared.Refusal.{Refusal}
use Rattle.refusals.specs.declared.Refusal.TheVariants.{WrongOption, WrongPensionAge, WrongTerm, WrongPayer, NoRate, NoUpperRate, WrongAmount, AboveCap, NoNumberLeft, TooManyMarks, UnknownMark, UnlawfulMark, BadRecord, WrongLength, WrongShape, NothingToPayOff, WrongIncrease, OutOfRange}

-- O1: of each rule that refuses
abbrev pub refusal_number : Refusal → ℕ
refusal_number WrongOption = 1
refusal_number WrongPensionAge = 2
refusal_number WrongTerm = 3
refusal_number WrongPayer = 4
refusal_number NoRate = 5
refusal_number NoUpperRate = 6
refusal_number WrongAmount = 7
refusal_number AboveCap = 8
refusal_number NoNumberLeft = 9
refusal_number TooManyMarks = 10
refusal_number UnknownMark = 11
refusal_number UnlawfulMark = 12
refusal_number BadRecord = 13
refusal_number WrongLength = 14
refusal_number WrongShape = 15
refusal_number NothingToPayOff = 16
refusal_number WrongIncrease = 17
refusal_number OutOfRange = 18

-- O2: whether an answer is a refusal
abbrev pub is_refused : {A E : Type 0} → Result A E → Bool
is_refused (Ok x) = false
is_refused (Err e) = true
