use Rattle.ipc_script.proofs.WrittenText.{wrote_more}
use Rattle.ipc_script.proofs.report.write_all.Goals as goal

pub pieces-preserved : goal.pieces-preserved
pieces-preserved g c =
    wrote_more _ _ _ c.pieces.invariant.0 c.pieces.rest.now _ c.in-Ok.taken c.pieces.invariant.1 c.pieces.invariant.2 c.in-Ok.ensures.bytes
