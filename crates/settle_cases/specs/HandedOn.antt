-- Not rules: the open line between two reads of the program.
-- Assumes nothing.
use Rattle.std.specs.Prelude.{List, ◌≡◌, ℕ, ◌≤◌, length, take, Result, Ok, Err}
use Rattle.casefile.specs.declared.open_line.OpenLine.{OpenLine}
use Rattle.casefile.specs.Stream.{kept_bytes, open_after, bytes_of}
use Rattle.settle_cases.specs.declared.Failure.{Failure}
use Rattle.settle_cases.specs.declared.Failure.TheVariants.{ReadFailed, WriteFailed}

-- of the line that is open after what was read the first bytes are kept, and where nothing was read it stays as it was
pub record KeptAfter (before : OpenLine) (read : List ℕ) (after : OpenLine) : Type 0 where
  pub same : length read ≡ 0 → after ≡ before
  pub kept : bytes_of after ≡ take kept_bytes (open_after (bytes_of before) read)

-- what was read is settled and printed, or printing failed
abbrev pub AfterPrinting : OpenLine → List ℕ → Result OpenLine Failure → Type 0
AfterPrinting before read (Ok after) = KeptAfter before read after
AfterPrinting before read (Err failure) = failure ≡ WriteFailed

-- the open line that is handed on by a read into the buffer, where `before` was open: after as many bytes as were read
abbrev pub HandedOn : OpenLine → List ℕ → OpenLine → Result ℕ Failure → Type 0
HandedOn before chunk after (Ok n) = (n ≤ length chunk) × KeptAfter before (take n chunk) after
-- nothing was read, and the open line stays as it was
HandedOn before chunk after (Err ReadFailed) = after ≡ before
-- the program stops, and does not look at the open line again
HandedOn before chunk after (Err WriteFailed) = Unit {0}
