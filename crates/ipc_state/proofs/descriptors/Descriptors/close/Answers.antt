use Rattle.std.proofs.Common.{◌≡◌, ◌^◌, Some, None, map, sym, ap, subst, ◌∙◌, arith}
use Rattle.std.specs.Prelude.{nat_eq}
use Rattle.ipc_base.specs.Table.{keys_of, value_at, without, IsRising}
use Rattle.ipc_base.proofs.CallerLemmas.{value_at_place, value_nowhere, remove_at_place, rising-without, without_nowhere}
use Rattle.ipc_state.specs.Descriptors.{Table, descriptor_row}
use Rattle.ipc_state.proofs.Opening.{place_in}
use Rattle.ipc_state.proofs.descriptors.Descriptors.close.Goals.{After-result-1}
use Rattle.ipc_state.proofs.descriptors.Descriptors.close.Goals as goal

pub returns-in_err-place-clause-descriptor : goal.returns-in_err-place-clause-descriptor
returns-in_err-place-clause-descriptor c =
    let rows = c.self.inside.rows.items in
    let nowhere : place_in c.args.fd rows ≡ None =
    ap (place_in c.args.fd) (sym c.deref.ensures.value) ∙ sym c.place_of.ensures ∙ c.in_err-place.was in
    c.from_residual.ensures ∙ sym (value_nowhere descriptor_row nat_eq c.args.fd rows nowhere)
    ∙ ap (λ (t : Table). value_at nat_eq t c.args.fd) c.self.view_is

pub returns-in_err-place-clause-others : goal.returns-in_err-place-clause-others
returns-in_err-place-clause-others c =
    let rows = c.self.inside.rows.items in
    let nowhere : place_in c.args.fd rows ≡ None =
    ap (place_in c.args.fd) (sym c.deref.ensures.value) ∙ sym c.place_of.ensures ∙ c.in_err-place.was in
    sym c.self.view_is ∙ sym (without_nowhere descriptor_row nat_eq c.args.fd rows nowhere)
    ∙ ap (λ (t : Table). without nat_eq t c.args.fd) c.self.view_is

found : (c : After-result-1) → place_in c.args.fd c.self.inside.rows.items ≡ Some c.in_ok-place.place
found c = ap (place_in c.args.fd) (sym c.deref.ensures.value) ∙ sym c.place_of.ensures ∙ c.in_ok-place.was

left : (c : After-result-1) → map descriptor_row c.remove.new.self.items ≡ without nat_eq (map descriptor_row c.self.inside.rows.items) c.args.fd
left c =
    ap (map descriptor_row) c.remove.ensures.items
    ∙ remove_at_place descriptor_row nat_eq c.args.fd c.self.inside.rows.items c.in_ok-place.place c.remove.result (found c)

pub returns-clause-descriptor : goal.returns-clause-descriptor
returns-clause-descriptor c =
    sym (value_at_place descriptor_row nat_eq c.args.fd c.self.inside.rows.items c.in_ok-place.place c.remove.result (found c) c.remove.ensures.value)
    ∙ ap (λ (t : Table). value_at nat_eq t c.args.fd) c.self.view_is

pub returns-clause-others : goal.returns-clause-others
returns-clause-others c = left c ∙ ap (λ (t : Table). without nat_eq t c.args.fd) c.self.view_is

pub invariant_of-self : goal.invariant_of-self
invariant_of-self c = (
  omega (arith, c.self.invariant.0, c.remove.ensures.capacity),
  λ rises. subst (λ (t : Table). IsRising 0 (keys_of t) (2 ^ 32)) (sym (left c))
      (rising-without 0 (map descriptor_row c.self.inside.rows.items) (2 ^ 32) c.args.fd (c.self.invariant.1 rises)),
)
