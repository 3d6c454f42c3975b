use Rattle.std.proofs.Common.{refl, subst, sym, ap, ◌∙◌}
use Rattle.ipc_state.specs.Bound.{ObjectsOf, holding, number_of}
use Rattle.ipc_state.specs.Directory.{Agrees}
use Rattle.ipc_state.specs.Tables.{numbered_of, has_place}
use Rattle.ipc_state.proofs.Directories.{agree-put}
use Rattle.ipc_state.proofs.EntryKeys.{Bounds, by_bound}
use Rattle.ipc_state.proofs.Ready.{ready-same}
use Rattle.ipc_state.proofs.objects.ObjectTable.get_mut.Goals as goal

pub invariant_of-self : goal.invariant_of-self
invariant_of-self g c =
    let b : Bounds _ = record { same = g.B.Bound.same; decides = g.met.B.Bound.decides; none = g.B.Bound.none } in (
      subst (λ (o : ObjectsOf _ _). Agrees (g.B.Bound.number_in c.self.inside.directory) (number_of b.same b.none o))
          (sym (ap numbered_of c.get_mut.follows.holds-at-none)) c.self.invariant.0,
      ready-same b (λ k. refl) (λ is. ap has_place c.get_mut.follows.holds-at-none ∙ is) c.self.invariant.1,
    )

pub invariant_of-self-lent : goal.invariant_of-self-lent
invariant_of-self-lent g c w =
    let b : Bounds _ = record { same = g.B.Bound.same; decides = g.met.B.Bound.decides; none = g.B.Bound.none } in
    let number = g.B.Bound.number_in c.self.inside.directory in
    let e = c.in_ok-entry.entry.now in
    let f = holding e w in (
      agree-put (by_bound b) number number (numbered_of c.self.inside.objects) _ c.args.number e f (sym c.in_ok-entry.ensures.value) refl
          (c.get_mut.follows.holds f).numbered (λ k. refl) c.self.invariant.0,
      ready-same b (λ k. refl) (λ is. (c.get_mut.follows.holds f).place ∙ is) c.self.invariant.1,
    )
