use Rattle.std.proofs.Common.{ℕ, List, map, sym, ap, subst, ◌∙◌}
use Rattle.std.specs.Bool.{Decides}
use Rattle.ipc_base.specs.Table.{IsRising}
use Rattle.ipc_state.specs.declared.numbered.Item.{Item}
use Rattle.ipc_state.proofs.Numbering.{item-numbers}
use Rattle.ipc_state.proofs.numbered.Numbered.rise.Goals as goal

pub returns : goal.returns
returns g c =
    let es = c.args.self.now.items.items in
    subst (λ (ns : List ℕ). Decides c.rise.result (IsRising 1 ns c.args.self.now.next))
    (ap (map (λ (e : Item _). e.number)) c.all.ensures ∙ sym (item-numbers es)) c.rise.ensures
