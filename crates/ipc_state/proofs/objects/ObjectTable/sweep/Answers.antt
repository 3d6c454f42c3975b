use Rattle.std.proofs.Common.{◌≡◌, ℕ, List, None, map, ap, ◌∙◌}
use Rattle.std.specs.Prelude.{Bool}
use Rattle.ipc_state.specs.declared.objects.Entry.{Entry}
use Rattle.ipc_state.specs.Bound.{ObjectsOf, kept_if, number_of}
use Rattle.ipc_state.specs.Kinds.{keeps_by}
use Rattle.ipc_state.specs.Opening.{stays_by}
use Rattle.ipc_state.specs.Tables.{HeldObjects, item_row, numbered_of}
use Rattle.ipc_state.proofs.EntryKeys.{Bounds}
use Rattle.ipc_state.proofs.Ready.{none-vacant, ready-none}
use Rattle.ipc_state.proofs.SoundMqs.{agrees-again, bound-keeps, first, named-left}
use Rattle.ipc_state.proofs.objects.ObjectTable.sweep.Goals as goal

pub invariant_of-self : goal.invariant_of-self
invariant_of-self g c =
    let b : Bounds _ = record { same = g.B.Bound.same; decides = g.met.B.Bound.decides; none = g.B.Bound.none } in
    let old = c.self.inside in
    let with_entries : List (ℕ × Entry _ _) → ObjectsOf _ _ = λ es. record { next = old.objects.next; entries = es } in
    let test : Entry _ _ → Bool = λ e. keeps_by b.same b.none e.bound (g.T.Leaves.leaves e.object) in
    let stay : ℕ × Entry _ _ → Bool = stays_by test c.args.kind (map item_row c.args.processes.now) in
    let nothing : old.ready ≡ None = ap (λ (h : HeldObjects _ _). h.ready) (c.self.view_is ∙ c.release-before.ensures) in (
      agrees-again (g.B.Bound.number_in old.directory) _ (number_of b.same b.none (numbered_of old.objects))
          (λ k. ap (λ (es : List (ℕ × Entry _ _)). number_of b.same b.none (with_entries es) k) c.sweep.ensures.rows
          ∙ named-left b stay (λ e some. first _ _ (bound-keeps b e.1.bound (g.T.Leaves.leaves e.1.object) some)) (numbered_of old.objects) k)
          c.self.invariant.0,
      rw nothing (ready-none b (none-vacant b (rw nothing at c.self.invariant.1))),
    )

pub returns : goal.returns
returns g c =
    let test : Entry _ _ → Bool = λ e. keeps_by g.B.Bound.same g.B.Bound.none e.bound (g.T.Leaves.leaves e.object) in
    let with_entries : List (ℕ × Entry _ _) → ObjectsOf _ _ = λ es. record { next = c.self.inside.objects.next; entries = es } in
    let left = c.self.view_is ∙ c.release-before.ensures in
    let objects = ap with_entries c.sweep.ensures.rows
    ∙ ap (λ (h : HeldObjects _ _). kept_if (stays_by test c.args.kind (map item_row c.args.processes.now)) h.objects) left in
    let nothing = ap (λ (h : HeldObjects _ _). h.ready) left in
    λ i. record { objects = objects i; ready = nothing i }
