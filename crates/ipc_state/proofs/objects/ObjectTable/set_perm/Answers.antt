use Rattle.std.proofs.Common.{refl, sym, ap, ◌∙◌}
use Rattle.std.specs.Option.{option_copied_mut}
use Rattle.ipc_state.specs.Bound.{permitting}
use Rattle.ipc_state.specs.Tables.{numbered_of}
use Rattle.ipc_state.proofs.Directories.{agree-put}
use Rattle.ipc_state.proofs.EntryKeys.{Bounds, by_bound}
use Rattle.ipc_state.proofs.Ready.{ready-same}
use Rattle.ipc_state.proofs.objects.ObjectTable.set_perm.Goals as goal

pub invariant_of-self : goal.invariant_of-self
invariant_of-self g c =
    let b : Bounds _ = record { same = g.B.Bound.same; decides = g.met.B.Bound.decides; none = g.B.Bound.none } in
    let number = g.B.Bound.number_in c.self.inside.directory in
    let e = c.unwrap.result.now in
    let f = permitting e c.args.perm in (
      agree-put (by_bound b) number number (numbered_of c.self.inside.objects) _ c.args.number e f
          (sym c.get_mut.ensures.value ∙ ap option_copied_mut c.unwrap.ensures) refl (c.get_mut.follows.holds f).numbered (λ k. refl) c.self.invariant.0,
      ready-same b (λ k. refl) (λ is. (c.get_mut.follows.holds f).place ∙ is) c.self.invariant.1,
    )
