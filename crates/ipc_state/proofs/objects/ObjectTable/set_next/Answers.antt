use Rattle.std.proofs.Common.{refl, sym, subst, ◌∙◌}
use Rattle.ipc_state.specs.Bound.{ObjectsOf, number_of}
use Rattle.ipc_state.specs.Directory.{Agrees}
use Rattle.ipc_state.proofs.EntryKeys.{Bounds}
use Rattle.ipc_state.proofs.Ready.{ready-same}
use Rattle.ipc_state.proofs.objects.ObjectTable.set_next.Goals as goal

pub invariant_of-self : goal.invariant_of-self
invariant_of-self g c =
    let b : Bounds _ = record { same = g.B.Bound.same; decides = g.met.B.Bound.decides; none = g.B.Bound.none } in (
      subst (λ (o : ObjectsOf _ _). Agrees (g.B.Bound.number_in c.self.inside.directory) (number_of b.same b.none o)) (sym c.set_next.ensures.items)
          c.self.invariant.0,
      ready-same b (λ k. refl) (λ is. c.set_next.ensures.place ∙ is) c.self.invariant.1,
    )
