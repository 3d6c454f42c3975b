-- How a run ends: the exit status, and what standard error says of a fault.
use Rattle.std.specs.Prelude.{ℕ, ⊤, List, ◌++◌, codes, Result, Ok, Err}
use Rattle.std.specs.Fmt.{decimal}
use Rattle.ipc_store.specs.declared.fault.FormatError.{FormatError}
use Rattle.ipc_store.specs.declared.fault.FormatError.TheVariants as format
use Rattle.ipc_store.specs.declared.fault.OpenError.{OpenError}
use Rattle.ipc_store.specs.declared.fault.OpenError.TheVariants as opening
use Rattle.ipc_store.specs.declared.fault.UpgradeError.{UpgradeError}
use Rattle.ipc_store.specs.declared.fault.UpgradeError.TheVariants as upgrade
use Rattle.ipc_script.specs.declared.fault.ScriptFault.TheVariants.{NoMemory, Input, Output, Device}
use Rattle.ipc_script.specs.declared.fault.ScriptFault.TheVariants.{NotFormatted, Version, Damaged}
use Rattle.ipc_script.specs.declared.fault.ScriptFault.TheVariants.{TooLong, BadLine, InUse, Unknown}
use Rattle.ipc_script.specs.declared.listing.DumpError.{DumpError}
use Rattle.ipc_script.specs.declared.listing.DumpError.TheVariants as dump
use Rattle.ipc_script.specs.Fault.{fault_text}
use Rattle.ipc_server.specs.declared.fault.ServerError.{ServerError}
use Rattle.ipc_server.specs.declared.fault.ServerError.TheVariants as server
use Rattle.ipc_server.specs.declared.fault.ServeFault.{ServeFault}
use Rattle.ipc_server.specs.declared.fault.ServeFault.TheVariants as serving
use Rattle.ipcd.specs.declared.ending.Fault.{Fault}
use Rattle.ipcd.specs.declared.ending.Fault.TheVariants.{Run, TooSmall, BadLimits, Socket, Unfit}

-- ---- the status and the text

-- 1 if the world failed or a device is not fit for the command, 2 if the script is wrong
abbrev pub fault_status : Fault → ℕ
fault_status (TooSmall need) = 1
fault_status (BadLimits field) = 1
fault_status Socket = 1
fault_status Unfit = 1
fault_status (Run NoMemory) = 1
fault_status (Run Input) = 1
fault_status (Run Output) = 1
fault_status (Run Device) = 1
fault_status (Run NotFormatted) = 1
fault_status (Run (Version found)) = 1
fault_status (Run (Damaged sector)) = 1
fault_status (Run TooLong) = 2
fault_status (Run (BadLine number)) = 2
fault_status (Run (InUse number)) = 2
fault_status (Run (Unknown number)) = 2

-- 0 for a run without a fault
abbrev pub exit_status : Result ⊤ Fault → ℕ
exit_status (Ok _) = 0
exit_status (Err fault) = fault_status fault

-- the text of a fault
abbrev pub text_of : Fault → List ℕ
text_of (Run fault) = fault_text fault
text_of Socket = codes "socket fault"
text_of Unfit = codes "not to be served"
text_of (BadLimits field) = codes "bad limits " ++ decimal field
text_of (TooSmall need) = codes "too small, " ++ decimal need ++ codes " sectors needed"

-- the program's name, and the text
abbrev pub complaint_text : Fault → List ℕ
complaint_text fault = codes "ipcd: " ++ text_of fault

-- ---- the faults of the calls below

abbrev pub device_fault : Fault
device_fault = Run Device

-- of a device that was not opened
abbrev pub of_open_error : OpenError → Fault
of_open_error opening.NoMemory = Run NoMemory
of_open_error opening.NotFormatted = Run NotFormatted
of_open_error (opening.Version found) = Run (Version found)
of_open_error (opening.Damaged sector) = Run (Damaged sector)
of_open_error opening.Device = device_fault

-- of one that was not made; limits that are passed are not refused
abbrev pub of_format_error : FormatError → Fault
of_format_error (format.TooSmall need) = TooSmall need
of_format_error (format.BadLimits limit) = device_fault
of_format_error format.Device = device_fault

-- of one that was not upgraded
abbrev pub of_upgrade_error : UpgradeError → Fault
of_upgrade_error (upgrade.BadLimits limit) = BadLimits limit.field
of_upgrade_error upgrade.NotFormatted = Run NotFormatted
of_upgrade_error (upgrade.Version found) = Run (Version found)
of_upgrade_error (upgrade.Damaged sector) = Run (Damaged sector)
of_upgrade_error (upgrade.TooSmall need) = TooSmall need
of_upgrade_error upgrade.Device = device_fault
of_upgrade_error upgrade.NoMemory = Run NoMemory

-- of a listing that broke off
abbrev pub of_dump_error : DumpError → Fault
of_dump_error dump.NoMemory = Run NoMemory
of_dump_error dump.Output = Run Output

-- of a server that was not made
abbrev pub of_server_error : ServerError → Fault
of_server_error server.NoMemory = Run NoMemory
of_server_error server.Socket = Socket

-- of a turn that was broken off
abbrev pub of_serve_fault : ServeFault → Fault
of_serve_fault serving.Stopped = device_fault
of_serve_fault serving.Device = device_fault
of_serve_fault serving.Socket = Socket
