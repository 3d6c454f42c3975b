use Rattle.std.proofs.Common.{◌≡◌, None, sym, subst, ap, ◌∙◌}
use Rattle.std.specs.Option.{option_copied}
use Rattle.std.specs.Prelude.{option_map}
use Rattle.ipc_state.specs.declared.numbered.Item.{Item}
use Rattle.ipc_state.specs.Bound.{AreFound, ObjectsOf, number_of}
use Rattle.ipc_state.specs.Tables.{HeldObjects, numbered_of}
use Rattle.ipc_state.proofs.Binding.{unbound-names}
use Rattle.ipc_state.proofs.Directories.{agree-without}
use Rattle.ipc_state.proofs.EntryKeys.{Bounds, by_bound}
use Rattle.ipc_state.proofs.Ready.{none-vacant, ready-none}
use Rattle.ipc_state.proofs.objects.ObjectTable.unbind.Goals as goal

pub invariant_of-self : goal.invariant_of-self
invariant_of-self g c =
    let b : Bounds _ = record { same = g.B.Bound.same; decides = g.met.B.Bound.decides; none = g.B.Bound.none } in
    let old = c.self.inside in
    let left = c.self.view_is ∙ c.release-before.ensures in
    let objects : numbered_of old.objects ≡ c.args.self.now.objects = ap (λ (h : HeldObjects _ _). h.objects) left in
    let nothing : old.ready ≡ None = ap (λ (h : HeldObjects _ _). h.ready) left in
    let is = sym c.get.ensures ∙ ap (λ r. option_map (λ (i : Item _). i.value) (option_copied r)) c.unwrap-item.ensures in
    let found = subst (λ (o : ObjectsOf _ _). AreFound b.same b.none o) (sym objects) c.requires.found in (
      agree-without (by_bound b) (g.B.Bound.number_in old.directory) (g.B.Bound.number_in c.unbind.new.directory) (numbered_of old.objects)
          (numbered_of c.clear_bound.new.objects) c.args.number c.unwrap-item.result.now.value found.numbers found.bounds is c.unbind.ensures.names
          (λ k. ap (λ (o : ObjectsOf _ _). number_of b.same b.none o k) c.clear_bound.ensures
          ∙ unbound-names b g.T.Leaves.parted (numbered_of old.objects) c.args.number c.unwrap-item.result.now.value k is) c.self.invariant.0,
      rw nothing (ready-none b (λ k. c.unbind.ensures.vacant k (none-vacant b (rw nothing at c.self.invariant.1) k))),
    )
