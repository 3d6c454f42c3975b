-- How many sectors a new device gets.
use Rattle.std.specs.Prelude.{ℕ, nat_lt, if◌then◌else◌, Option, Some, None, Result, Ok, Err}
use Rattle.ipcd.specs.declared.ending.Fault.{Fault}
use Rattle.ipcd.specs.declared.ending.Fault.TheVariants.{TooSmall}

-- as many as are asked for, if these are not fewer than it needs; if none are, as many as it needs
abbrev pub sectors_given : ℕ → Option ℕ → Result ℕ Fault
sectors_given need None = Ok need
sectors_given need (Some asked) = if nat_lt asked need then Err (TooSmall need) else Ok asked
