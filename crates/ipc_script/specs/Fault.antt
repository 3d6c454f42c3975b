-- The text of each fault.
use Rattle.std.specs.Prelude.{List, ℕ, ◌++◌, codes}
use Rattle.std.specs.Fmt.{decimal}
use Rattle.ipc_script.specs.declared.fault.ScriptFault.{ScriptFault}
use Rattle.ipc_script.specs.declared.fault.ScriptFault.TheVariants.{NoMemory, Input, Output, Device}
use Rattle.ipc_script.specs.declared.fault.ScriptFault.TheVariants.{NotFormatted, Version, Damaged}
use Rattle.ipc_script.specs.declared.fault.ScriptFault.TheVariants.{TooLong, BadLine, InUse, Unknown}

abbrev pub fault_text : ScriptFault → List ℕ
fault_text NoMemory = codes "no memory"
fault_text Input = codes "input fault"
fault_text Output = codes "output fault"
fault_text Device = codes "device fault"
fault_text NotFormatted = codes "not formatted"
fault_text (Version found) = codes "version " ++ decimal found
fault_text (Damaged sector) = codes "damaged sector " ++ decimal sector
fault_text TooLong = codes "script too long"
fault_text (BadLine number) = codes "line " ++ decimal number ++ codes ": bad line"
fault_text (InUse number) = codes "line " ++ decimal number ++ codes ": connection in use"
fault_text (Unknown number) = codes "line " ++ decimal number ++ codes ": no such connection"
