use Rattle.std.proofs.Common.{map, sym, ap, subst, ◌∙◌}
use Rattle.std.specs.Prelude.{⊤, Bool}
use Rattle.std.specs.Bool.{Decides}
use Rattle.ipc_state.specs.Bound.{AreBound, number_of}
use Rattle.ipc_state.specs.Directory.{Agrees}
use Rattle.ipc_state.specs.Numbered.{AreNumbered}
use Rattle.ipc_state.specs.Tables.{HeldObjects, item_row}
use Rattle.ipc_state.proofs.Binding.{bound-decides}
use Rattle.ipc_state.proofs.Directories.{named-positive, positive-names}
use Rattle.ipc_state.proofs.EntryKeys.{Bounds, by_bound}
use Rattle.ipc_state.proofs.objects.ObjectTable.are_bound.Goals as goal

pub returns-then-are_numbered : goal.returns-then-are_numbered
returns-then-are_numbered g c =
    let b : Bounds _ = record { same = g.B.Bound.same; decides = g.met.B.Bound.decides; none = g.B.Bound.none } in
    let o = c.args.self.now.objects in
    let is = ap (map item_row) c.items.ensures ∙ ap (λ (h : HeldObjects _ _). h.objects.entries) c.self.view_is in
    let numbers = subst (λ (h : HeldObjects _ _). Decides c.are_numbered.result (AreNumbered c.args.most h.objects)) c.self.view_is c.are_numbered.ensures in
    let numbered = numbers.0 c.if-are_numbered.true in
    let number = g.B.Bound.number_in c.self.inside.directory in
    let agree = subst (λ (h : HeldObjects _ _). Agrees number (number_of b.same b.none h.objects)) c.self.view_is c.self.invariant.0 in
    let agrees = agree (positive-names (by_bound b) o.entries (named-positive o.entries o.next numbered.numbers)) in
    subst (λ (t : Bool). Decides t (AreBound b.same b.none c.args.most (λ x. ⊤) o)) (sym c.are_named_with_modes.ensures)
    (bound-decides b c.args.most o c.items.result.now is number agrees numbered)

pub returns-else-are_numbered : goal.returns-else-are_numbered
returns-else-are_numbered g c =
    let numbers = subst (λ (h : HeldObjects _ _). Decides c.are_numbered.result (AreNumbered c.args.most h.objects)) c.self.view_is c.are_numbered.ensures in
    (λ yes. let no = c.if-are_numbered.false in cc, λ h. numbers.1 h.numbered)
