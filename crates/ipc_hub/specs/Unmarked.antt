-- What a server is but for how many events it has accepted, which the marks of frames count: a tick that does nothing
-- is counted, too.
use Rattle.std.specs.Prelude.{[], map}
use Rattle.ipc_base.specs.Table.{seen_as}
use Rattle.ipc_hub.specs.Clients.{Client, Clients, Frame}

abbrev pub bare_frame : Frame → Frame
bare_frame f = record { mark = 0; bytes = f.bytes }

abbrev pub bare_client : Client → Client
bare_client c = record c { frames = map bare_frame c.frames }

abbrev pub unmarked : Clients → Clients
unmarked h = record { state = h.state; events = []; clients = seen_as bare_client h.clients }
