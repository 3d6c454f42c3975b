use Rattle.std.proofs.Common.{ℕ, List, map, sym, ap, subst, ◌∙◌}
use Rattle.std.specs.Bool.{Decides}
use Rattle.ipc_base.specs.Table.{keys_of, IsRising}
use Rattle.ipc_state.specs.declared.descriptors.DescriptorRow.{DescriptorRow}
use Rattle.ipc_state.specs.Descriptors.{Table}
use Rattle.ipc_state.proofs.Opening.{row-numbers}
use Rattle.ipc_state.proofs.descriptors.Descriptors.rise.Goals as goal

pub returns : goal.returns
returns c =
    subst (λ (ns : List ℕ). Decides c.rise.result (IsRising 0 ns c.args.high))
    (ap (map (λ (r : DescriptorRow). r.fd)) c.deref.ensures.value ∙ sym (row-numbers c.self.inside.rows.items) ∙ ap (λ (t : Table). keys_of t) c.self.view_is)
    c.rise.ensures
