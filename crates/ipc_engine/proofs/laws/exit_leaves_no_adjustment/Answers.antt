use Rattle.std.proofs.Common.{◌∙◌}
use Rattle.ipc_base.proofs.CallerLemmas.{rising-gone, same_keys}
use Rattle.ipc_state.proofs.CallerLemmas.{same-connected}
use Rattle.ipc_state.specs.State.{exit}
use Rattle.ipc_engine.specs.Event.{Exit}
use Rattle.ipc_engine.specs.Step.{due, step}
use Rattle.ipc_engine.proofs.Settled.{settle-kept}
use Rattle.ipc_engine.proofs.Soundness.{step-sound}
use Rattle.ipc_engine.proofs.laws.exit_leaves_no_adjustment.Goals as goal

pub returns : goal.returns
returns c limits s pid moment sound is =
    let t = (step limits s (Exit pid moment)).state in
    let parts = (step-sound limits s (Exit pid moment) sound is tt).parts in
    same_keys t.undo t.processes.entries pid parts.undo.pids
    ∙ (same-connected (exit (due moment s).state pid) t pid (settle-kept limits (exit (due moment s).state pid)).0
    ∙ rising-gone 1 s.processes.entries s.processes.next pid sound.parts.processes.numbered.numbers)
