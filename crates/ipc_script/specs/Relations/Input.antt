-- What is known of a script that is not read to its end.
use Rattle.std.specs.Prelude.{⊤, ◌<◌, ℕ, List, length, Option}
use Rattle.std.specs.Io.KnownBytes.{Consumes}
use Rattle.ipc_script.specs.declared.fault.ScriptFault.{ScriptFault}
use Rattle.ipc_script.specs.declared.fault.ScriptFault.TheVariants.{NoMemory, Input, Output, Device}
use Rattle.ipc_script.specs.declared.fault.ScriptFault.TheVariants.{NotFormatted, Version, Damaged}
use Rattle.ipc_script.specs.declared.fault.ScriptFault.TheVariants.{TooLong, BadLine, InUse, Unknown}
use Rattle.ipc_script.specs.Line.{longest_script}

-- more bytes were read than a script may have
abbrev pub ReadsTooMuch : Option (List ℕ) → Option (List ℕ) → Type 0
ReadsTooMuch before after =
    (seen : List ℕ) × Consumes before after seen × (longest_script < length seen)

-- the faults that come before any line
abbrev pub IsReadFault : ScriptFault → Type 0
IsReadFault NoMemory = ⊤
IsReadFault Input = ⊤
IsReadFault TooLong = ⊤
IsReadFault Output = ⊥
IsReadFault Device = ⊥
IsReadFault NotFormatted = ⊥
IsReadFault (Version found) = ⊥
IsReadFault (Damaged sector) = ⊥
IsReadFault (BadLine number) = ⊥
IsReadFault (InUse number) = ⊥
IsReadFault (Unknown number) = ⊥
