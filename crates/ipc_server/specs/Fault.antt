-- The fault of a turn whose commit meets a fault.
use Rattle.ipc_store.specs.declared.fault.CommitError.{CommitError}
use Rattle.ipc_store.specs.declared.fault.CommitError.TheVariants as commit
use Rattle.ipc_server.specs.declared.fault.ServeFault.{ServeFault}
use Rattle.ipc_server.specs.declared.fault.ServeFault.TheVariants.{Device, Stopped}

abbrev pub of_commit_error : CommitError → ServeFault
of_commit_error commit.Device = Device
of_commit_error commit.Stopped = Stopped
