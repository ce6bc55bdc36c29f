-- Not rules: what the parts of the code answer one another.
-- Assumes nothing.
use Rattle.std.specs.Prelude.{Result, Ok, Err, ℕ}
use Rattle.refusals.specs.declared.Refusal.{Refusal}
use Rattle.refusals.specs.declared.Refused.{Refused}
use Rattle.refusals.specs.Numbers.{refusal_number}

-- the number of an answer that may be a refusal: 0 where it is none
abbrev pub refusal_in : {A : Type 0} → Result A Refusal → ℕ
refusal_in (Ok x) = 0
refusal_in (Err r) = refusal_number r

-- a refusal by a rule that names no place
abbrev pub at_no_place : Refusal → Refused
at_no_place r = record { refusal = r; place = 0 }
