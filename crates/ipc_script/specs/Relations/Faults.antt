-- What holds of a line's fault, by whether the world failed, or the disk, or the script is wrong.
use Rattle.std.specs.Prelude.{⊤, ℕ}
use Rattle.ipc_hub.specs.declared.fault.ServeError.{ServeError}
use Rattle.ipc_hub.specs.declared.fault.ServeError.TheVariants as serve
use Rattle.ipc_script.specs.declared.fault.ScriptFault.{ScriptFault}
use Rattle.ipc_script.specs.declared.fault.ScriptFault.TheVariants.{NoMemory, Input, Output, Device}
use Rattle.ipc_script.specs.declared.fault.ScriptFault.TheVariants.{NotFormatted, Version, Damaged}
use Rattle.ipc_script.specs.declared.fault.ScriptFault.TheVariants.{TooLong, BadLine, InUse, Unknown}

-- One thing if memory or a write failed, another if the disk did or no device was found on it, and a
-- third if the script is wrong. The script was read before its first line, so no line has an input
-- fault.
abbrev pub ByFault : ScriptFault → Type 0 → Type 0 → Type 0 → Type 0
ByFault NoMemory W V P = W
ByFault Input W V P = ⊥
ByFault Output W V P = W
ByFault Device W V P = V
ByFault NotFormatted W V P = V
ByFault (Version found) W V P = V
ByFault (Damaged sector) W V P = V
ByFault TooLong W V P = P
ByFault (BadLine number) W V P = P
ByFault (InUse number) W V P = P
ByFault (Unknown number) W V P = P

-- the script is wrong, and this holds; or something failed
abbrev pub IfRefused : ScriptFault → Type 0 → Type 0
IfRefused e P = ByFault e ⊤ ⊤ P

-- memory or a write failed, and this holds
abbrev pub WorldFailed : ScriptFault → Type 0 → Type 0
WorldFailed e W = ByFault e W ⊥ ⊥

-- the fault of a line of which a call of the hub was refused
abbrev pub of_serve_error : ServeError → ℕ → ScriptFault
of_serve_error serve.Unknown number = Unknown number
of_serve_error serve.Device number = Device
of_serve_error serve.Stopped number = Device
