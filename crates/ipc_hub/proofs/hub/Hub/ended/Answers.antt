use Rattle.std.proofs.Common.{ap, ◌∙◌}
use Rattle.ipc_hub.specs.View.{ended_of}
use Rattle.ipc_hub.proofs.Changes.{shown-matches}
use Rattle.ipc_hub.proofs.hub.Hub.ended.Goals as goal

pub returns-clause-server : goal.returns-clause-server
returns-clause-server g c limits confirmed h m =
    c.ended.ensures ∙ ap (λ v. ended_of v.hub c.args.conn) c.self.view_is ∙ (shown-matches limits confirmed c.args.self.now.hub h c.args.conn m).1
