use Rattle.std.proofs.Common.{ap, ◌∙◌, arith}
use Rattle.std.proofs.lemmas.List.{with_items_is}
use Rattle.ipc_base.specs.Table.{seen_as}
use Rattle.ipc_hub.specs.Relations.Delivery.{released, failed}
use Rattle.ipc_hub.specs.Relations.Rows.{rows}
use Rattle.ipc_hub.proofs.Rows.{rising-seen}
use Rattle.ipc_hub.proofs.connections.Connections.after_commit.Goals as goal

pub invariant_of-self : goal.invariant_of-self
invariant_of-self c =
    rising-seen released (rows c.self.inside.items.items) _
    (ap rows (with_items_is c.self.inside.items c.release_all.new.connections (omega arith)) ∙ c.release_all.ensures
    ∙ ap (λ cs. seen_as released (rows cs)) c.deref_mut.ensures.value) c.self.invariant

pub invariant_of-self-in-Err : goal.invariant_of-self-in-Err
invariant_of-self-in-Err c =
    rising-seen failed (rows c.self.inside.items.items) _
    (ap rows (with_items_is c.self.inside.items c.fail_all.new.connections (omega arith)) ∙ c.fail_all.ensures
    ∙ ap (λ cs. seen_as failed (rows cs)) c.deref_mut-in-Err.ensures.value) c.self.invariant
