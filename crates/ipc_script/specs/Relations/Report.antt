-- What the program does with one connection when it writes what the hub lets out.
use Rattle.std.specs.Prelude.{◌≡◌, ℕ, List, [], Option, None, Some}
use Rattle.std.specs.List.{flat_map}
use Rattle.std.specs.Io.KnownBytes.{Appends}
use Rattle.ipc_limits.specs.declared.limits.Limits.{Limits}
use Rattle.ipc_hub.specs.View.{HubView}
use Rattle.ipc_hub.specs.Clients.{Client, Clients, accepted, client_at, with_client}
use Rattle.ipc_hub.specs.Relations.Matches.{HubMatches}
use Rattle.ipc_script.specs.declared.report.Opened.{Opened}
use Rattle.ipc_script.specs.Script.{Run, emptied, frame_line, conn_text, reported}
use Rattle.ipc_script.specs.Relations.Matches.{opened_of}

-- the hub of which the frames of one connection are taken
abbrev pub without_frames : Clients → ℕ → Clients
without_frames h conn = of_client (client_at h conn)
  where
    of_client : Option Client → Clients
    of_client None = h
    of_client (Some c) = with_client h conn (emptied c)

-- the lines of its frames
abbrev pub frames_text : Clients → ℕ → List ℕ
frames_text h conn = of_client (client_at h conn)
  where
    of_client : Option Client → List ℕ
    of_client None = []
    of_client (Some c) = flat_map (λ f. frame_line conn f.bytes) c.frames

-- what is said of a connection is written, its frames are taken, and it is kept whether its end was
-- told
pub record SimulatesReportAt (limits : Limits) (r : Run) (hub : HubView) (conn : ℕ) (opened : Opened)
    (before after : Option (List ℕ)) : Type 0 where
  pub matches : HubMatches limits (accepted r.hub) hub (without_frames r.hub conn)
  pub kept : opened ≡ opened_of (reported r).told conn
  pub text : Appends before after (conn_text r conn)
