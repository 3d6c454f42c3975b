use Rattle.std.proofs.Common.{ap, ◌∙◌}
use Rattle.ipc_hub.specs.View.{output_of}
use Rattle.ipc_hub.proofs.Changes.{shown-matches}
use Rattle.ipc_hub.proofs.hub.Hub.output.Goals as goal

pub returns-clause-shown : goal.returns-clause-shown
returns-clause-shown g c limits confirmed h m =
    c.output.ensures ∙ ap (λ v. output_of v.hub c.args.conn) c.self.view_is ∙ (shown-matches limits confirmed c.args.self.now.hub h c.args.conn m).0
