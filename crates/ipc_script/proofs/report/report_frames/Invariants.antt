use Rattle.std.proofs.Common.{◌≡◌, [], length, IfSome}
use Rattle.ipc_script.specs.Script.{WritesMore}
use Rattle.ipc_limits.specs.declared.limits.Limits.{Limits}
use Rattle.ipc_hub.specs.Clients.{accepted, Clients, client_at}
use Rattle.ipc_hub.specs.View.{output_of}
use Rattle.ipc_hub.specs.Relations.Matches.{HubMatches}
use Rattle.ipc_script.specs.Relations.Matches.{HasWholeFrames}
use Rattle.ipc_script.proofs.FrameLines.{Partly}
use Rattle.ipc_script.proofs.report.report_frames.Given as goal

abbrev pub invariant-frames : goal.invariant-frames
invariant-frames g l = record {
  store : l.hub.store ≡ l.fn.hub.store;
  grows : WritesMore (g.W.Write.contents l.fn.writer) (g.W.Write.contents l.writer) [];
  partly : (limits : Limits) (h : Clients) → HubMatches limits (accepted h) l.fn.hub.hub h → IfSome (client_at h l.conn) HasWholeFrames
      → Partly limits h l.conn l.hub.hub (g.W.Write.contents l.fn.writer) (g.W.Write.contents l.writer);
}

-- what the client has not taken
abbrev pub decreases-frames : goal.decreases-frames
decreases-frames g l = length (output_of l.hub.hub l.conn)
