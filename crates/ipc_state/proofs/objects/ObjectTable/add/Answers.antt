use Rattle.std.proofs.Common.{◌≡◌, None, Some, IfSome, Option, ◌<◌, ap, ◌∙◌, subst, sym, arith}
use Rattle.std.specs.Prelude.{option_map}
use Rattle.ipc_state.specs.declared.objects.Entry.{Entry}
use Rattle.ipc_state.specs.Bound.{number_of}
use Rattle.ipc_state.specs.Directory.{ArePositive, adds, or_else}
use Rattle.ipc_state.specs.Tables.{HeldObjects, numbered_of}
use Rattle.ipc_state.proofs.Directories.{agree-last, positive-names}
use Rattle.ipc_state.proofs.EntryKeys.{Bounds, by_bound}
use Rattle.ipc_state.proofs.Ready.{ready-none, taken}
use Rattle.ipc_state.proofs.objects.ObjectTable.add.Goals.{After-unwrap-bound}
use Rattle.ipc_state.proofs.objects.ObjectTable.add.Goals as goal

-- what was ready
was : (g : _) (c : After-unwrap-bound g) → c.self.inside.ready ≡ Some c.unwrap-bound.result
was g c = sym c.take.ensures.value ∙ c.unwrap-bound.ensures

pub bind-requires-clause-vacant : goal.bind-requires-clause-vacant
bind-requires-clause-vacant g c some =
    let a = (goal.at.bind-requires-clause-vacant g c).After-unwrap-bound in
    let b : Bounds _ = record { same = g.B.Bound.same; decides = g.met.B.Bound.decides; none = g.B.Bound.none } in
    let old = c.self.inside in
    let k = c.unwrap-bound.result.0 in
    let unused = subst (λ (h : HeldObjects _ _). IfSome h.ready (λ r. number_of b.same b.none h.objects r.0 ≡ None)) (sym c.self.view_is) c.requires.unused in
    let free : number_of b.same b.none (numbered_of old.objects) k ≡ None =
    subst (λ (r : Option _). IfSome r (λ r. number_of b.same b.none (numbered_of old.objects) r.0 ≡ None)) (was g a) unused in
    let positive = subst (λ (h : HeldObjects _ _). ArePositive h.objects.entries) (sym c.self.view_is) c.requires.positive in
    let none : g.B.Bound.number_in old.directory k ≡ None =
    c.self.invariant.0 (positive-names (by_bound b) (numbered_of old.objects).entries positive) k ∙ free in
    let mine : option_map (λ r. r.0) old.ready ≡ Some k = ap (λ (r : Option _). option_map (λ r. r.0) r) (was g a) in
    c.self.invariant.1.own k mine some none

pub invariant_of-self : goal.invariant_of-self
invariant_of-self g c =
    let a = (goal.at.invariant_of-self g c).After-unwrap-bound in
    let b : Bounds _ = record { same = g.B.Bound.same; decides = g.met.B.Bound.decides; none = g.B.Bound.none } in
    let old = c.self.inside in
    let k = c.unwrap-bound.result.0 in
    let e : Entry _ _ = record { bound = k; perm = c.args.perm; object = c.make.new.self } in
    let above = subst (λ (h : HeldObjects _ _). 0 < h.objects.next) (sym c.self.view_is) c.requires.number.0 in
    let mine : option_map (λ r. r.0) old.ready ≡ Some k = ap (λ (r : Option _). option_map (λ r. r.0) r) (was g a) in (
      agree-last (by_bound b) (g.B.Bound.number_in old.directory) (g.B.Bound.number_in c.bind.new.directory) (numbered_of old.objects)
          (numbered_of c.add.new.self) _ (numbered_of old.objects).next e
          (λ _ j. c.bind.ensures.names j ∙ (λ i. or_else (g.B.Bound.number_in old.directory j) (adds b.same b.none k (c.next.ensures i) j)))
          (λ zero. absurd (omega (arith, zero, above))) c.add.ensures.items c.self.invariant.0,
      rw c.take.ensures.after (ready-none b (taken b k c.bind.ensures.others c.bind.ensures.free c.bind.ensures.own (rw mine at c.self.invariant.1))),
    )
