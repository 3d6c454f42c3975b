use Rattle.std.proofs.Common.{◌≡◌, None, ap, ◌∙◌}
use Rattle.ipc_state.specs.Bound.{ObjectsOf}
use Rattle.ipc_state.specs.Numbered.{with_last}
use Rattle.ipc_state.specs.Tables.{HeldObjects, numbered_of}
use Rattle.ipc_state.proofs.Directories.{agree-last}
use Rattle.ipc_state.proofs.EntryKeys.{Bounds, by_bound}
use Rattle.ipc_state.proofs.Ready.{none-vacant, ready-none}
use Rattle.ipc_state.proofs.objects.ObjectTable.restore.Goals as goal

pub invariant_of-self-2 : goal.invariant_of-self-2
invariant_of-self-2 g c =
    let b : Bounds _ = record { same = g.B.Bound.same; decides = g.met.B.Bound.decides; none = g.B.Bound.none } in
    let old = c.self.inside in
    let e = c.args.entry in
    let n = c.args.number in
    let nothing : old.ready ≡ None = ap (λ (h : HeldObjects _ _). h.ready) (c.self.view_is ∙ c.release-before.ensures) in (
      agree-last (by_bound b) (g.B.Bound.number_in old.directory) (g.B.Bound.number_in c.restore.new.directory) (numbered_of old.objects)
          (numbered_of c.push.new.self) _ n e c.in_ok-restore.ensures.names c.in_ok-restore.ensures.zero
          (c.push.ensures ∙ ap (λ (o : ObjectsOf _ _). with_last o n e) c.reserve.ensures.items) c.self.invariant.0,
      rw nothing (ready-none b (λ k. c.in_ok-restore.ensures.vacant k (none-vacant b (rw nothing at c.self.invariant.1) k))),
    )
