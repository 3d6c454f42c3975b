use Rattle.std.proofs.Common.{ap, ◌∙◌}
use Rattle.std.specs.Prelude.{is_some}
use Rattle.ipc_base.proofs.CallerLemmas.{rising-gone, value_at-without}
use Rattle.ipc_state.specs.State.{exit}
use Rattle.ipc_state.proofs.CallerLemmas.{same-connected}
use Rattle.ipc_engine.specs.Step.{due, settle}
use Rattle.ipc_engine.proofs.Settled.{settle-kept}
use Rattle.ipc_engine.proofs.laws.exit_removes_one_process.Goals as goal

pub returns-clause-gone : goal.returns-clause-gone
returns-clause-gone c limits s pid moment sound =
    same-connected (exit (due moment s).state pid) (settle limits (exit (due moment s).state pid)).state pid
    (settle-kept limits (exit (due moment s).state pid)).0
    ∙ rising-gone 1 s.processes.entries s.processes.next pid sound.parts.processes.numbered.numbers

pub returns-clause-others : goal.returns-clause-others
returns-clause-others c limits s pid other moment apart =
    same-connected (exit (due moment s).state pid) (settle limits (exit (due moment s).state pid)).state other
    (settle-kept limits (exit (due moment s).state pid)).0
    ∙ ap is_some (value_at-without s.processes.entries pid other apart)
