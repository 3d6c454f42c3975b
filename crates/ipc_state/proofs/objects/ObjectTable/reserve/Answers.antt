use Rattle.std.proofs.Common.{◌≡◌, None, ap, ◌∙◌}
use Rattle.ipc_state.specs.Bound.{ObjectsOf, number_of}
use Rattle.ipc_state.specs.Tables.{HeldObjects, numbered_of}
use Rattle.ipc_state.proofs.Directories.{agree-same}
use Rattle.ipc_state.proofs.EntryKeys.{Bounds, by_bound}
use Rattle.ipc_state.proofs.Ready.{none-vacant, ready-none, ready-same, ready-some}
use Rattle.ipc_state.proofs.objects.ObjectTable.reserve.Goals as goal

pub invariant_of-self-in_err-reserve-2 : goal.invariant_of-self-in_err-reserve-2
invariant_of-self-in_err-reserve-2 g c =
    let b : Bounds _ = record { same = g.B.Bound.same; decides = g.met.B.Bound.decides; none = g.B.Bound.none } in
    let old = c.self.inside in
    let nothing : old.ready ≡ None = ap (λ (h : HeldObjects _ _). h.ready) (c.self.view_is ∙ c.release-before.ensures) in
    let free = none-vacant b (rw nothing at c.self.invariant.1) in
    let same = c.in_err-reserve-2.ensures.err in (
      agree-same (by_bound b) (g.B.Bound.number_in old.directory) (g.B.Bound.number_in c.reserve-2.new.directory) (numbered_of old.objects)
          (numbered_of c.reserve.new.self) c.reserve-2.ensures.names
          (λ k. ap (λ (o : ObjectsOf _ _). number_of b.same b.none o k) c.reserve.ensures.items) c.self.invariant.0,
      rw nothing (rw same (ready-none b free)),
    )

pub invariant_of-self-2 : goal.invariant_of-self-2
invariant_of-self-2 g c =
    let b : Bounds _ = record { same = g.B.Bound.same; decides = g.met.B.Bound.decides; none = g.B.Bound.none } in
    let old = c.self.inside in
    let nothing : old.ready ≡ None = ap (λ (h : HeldObjects _ _). h.ready) (c.self.view_is ∙ c.release-before.ensures) in
    let free = none-vacant b (rw nothing at c.self.invariant.1) in (
      agree-same (by_bound b) (g.B.Bound.number_in old.directory) (g.B.Bound.number_in c.reserve-2.new.directory) (numbered_of old.objects)
          (numbered_of c.reserve.new.self) c.reserve-2.ensures.names
          (λ k. ap (λ (o : ObjectsOf _ _). number_of b.same b.none o k) c.reserve.ensures.items) c.self.invariant.0,
      ready-same b c.reserve-2.ensures.names (λ _. c.in_ok-reserve.ensures.ok)
          (ready-some b c.args.bound c.reserve-2.ensures.others free c.reserve-2.ensures.free c.in_ok-reserve-2.ensures.ok),
    )
