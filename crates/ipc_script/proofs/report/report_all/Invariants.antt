use Rattle.std.proofs.Common.{◌≡◌, []}
use Rattle.ipc_limits.specs.declared.limits.Limits.{Limits}
use Rattle.ipc_script.specs.Script.{Run, WritesMore}
use Rattle.ipc_script.specs.Relations.Matches.{CanReport}
use Rattle.ipc_script.proofs.ReportText.{PartlyReported}
use Rattle.ipc_script.proofs.report.report_all.Given as goal

abbrev pub invariant-loop-place : goal.invariant-loop-place
invariant-loop-place g l = record {
  store : l.hub.store ≡ l.fn.hub.store;
  grows : WritesMore (g.W.Write.contents l.fn.writer) (g.W.Write.contents l.writer) [];
  reports : (limits : Limits) (r : Run) → CanReport limits l.fn.hub.hub l.fn.opened r
      → PartlyReported limits r l.hub.hub l.opened l.place (g.W.Write.contents l.fn.writer) (g.W.Write.contents l.writer);
}
