-- "What each operation gives", O1: a refusal with its place, and the two numbers of an answer that may be one.
-- Assumes nothing.
use Rattle.std.specs.Prelude.{Result, Ok, Err, ℕ}
use Rattle.refusals.specs.declared.Refused.{Refused}
use Rattle.refusals.specs.Numbers.{refusal_number}

-- O1: the number of a refusal, 0 for none, and its place
pub record RefusedAt : Type 0 where
  pub refusal : ℕ
  pub place : ℕ

abbrev pub refusing : (refusal place : ℕ) → RefusedAt
refusing refusal place = record { refusal = refusal; place = place }

-- O1, O2: the number and the place of an answer that may be a refusal
abbrev pub refused_in : {A : Type 0} → Result A Refused → RefusedAt
refused_in (Ok x) = refusing 0 0
refused_in (Err e) = refusing (refusal_number e.refusal) e.place
