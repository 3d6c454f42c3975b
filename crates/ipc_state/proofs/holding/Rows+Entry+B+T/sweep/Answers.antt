use Rattle.std.proofs.Common.{◌≡◌, ◌^◌, ℕ, List, map, rules, sym, ap, subst, ◌∙◌}
use Rattle.std.specs.Prelude.{Bool, filter}
use Rattle.std.specs.Global.{Vec}
use Rattle.std.proofs.lemmas.Fn.{filter_same}
use Rattle.ipc_base.specs.Table.{keys_of, IsRising}
use Rattle.ipc_state.specs.declared.objects.Entry.{Entry}
use Rattle.ipc_state.specs.Kinds.{keeps_by}
use Rattle.ipc_state.specs.declared.numbered.Item.{Item}
use Rattle.ipc_state.specs.Opening.{stays_by}
use Rattle.ipc_state.specs.Rows.{item_row}
use Rattle.ipc_state.proofs.Binding.{rising-filter}
use Rattle.ipc_state.proofs.SoundMqs.{filter-seen}
use Rattle.ipc_state.proofs.holding.Rows+Entry+B+T.sweep.Given.{Over}
use Rattle.ipc_state.proofs.holding.Rows+Entry+B+T.sweep.Goals.{After-retain}
use Rattle.ipc_state.proofs.holding.Rows+Entry+B+T.sweep.Goals as goal

abbrev test : (g : Over) (c : After-retain g) → ℕ × Entry g.row.B.Denot g.row.T.Denot → Bool
test g c = stays_by (λ e. keeps_by g.B.Bound.same g.B.Bound.none e.bound (g.T.Leaves.leaves e.object)) c.args.kind (map item_row c.args.processes.now)

left : (g : Over) (c : After-retain g) → map item_row c.retain.new.self.items ≡ filter (test g c) (map item_row c.self.inside.items.items)
left g c =
    ap (map item_row) (filter_same _ (λ (e : Item (Entry _ _)). test g c (item_row e)) _ (λ x b f' k. search rules) _ _
    c.retain.ensures.filtered) ∙ filter-seen (test g c) item_row c.self.inside.items.items

pub invariant_of-self : goal.invariant_of-self
invariant_of-self g c rises =
    subst (λ (ks : List ℕ). IsRising 0 ks (2 ^ 32)) (sym (ap keys_of (left g c)))
    (rising-filter (test g c) 0 (map item_row c.self.inside.items.items) (2 ^ 32) (c.self.invariant rises))

pub returns : goal.returns
returns g c = record {
  rows = left g c ∙ ap (λ (v : Vec (Item _)). filter (test g c) (map item_row v.items)) c.self.view_is;
}
