-- "The calls of a host", O25: the two numbers that a host compares at its start with those that it was built for.
-- Assumes nothing.
use Rattle.std.specs.Prelude.{ℕ}

-- O25: the calls' names and shapes: one more when a call that was there changes its parameters, or a name goes
abbrev pub interface_number : ℕ
interface_number = 1

-- O25: the last request whose rules are in the part
abbrev pub rules_number : ℕ
rules_number = 5
