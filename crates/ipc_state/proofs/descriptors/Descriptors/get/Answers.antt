use Rattle.std.proofs.Common.{◌≡◌, Some, None, sym, ap, ◌∙◌}
use Rattle.std.specs.Prelude.{nat_eq}
use Rattle.ipc_base.specs.Table.{value_at}
use Rattle.ipc_base.proofs.CallerLemmas.{value_at_place, value_nowhere}
use Rattle.ipc_state.specs.Descriptors.{Table, descriptor_row}
use Rattle.ipc_state.proofs.Opening.{place_in}
use Rattle.ipc_state.proofs.descriptors.Descriptors.get.Goals as goal

pub returns-in_err-place : goal.returns-in_err-place
returns-in_err-place c =
    let rows = c.self.inside.rows.items in
    let nowhere : place_in c.args.fd rows ≡ None =
    ap (place_in c.args.fd) (sym c.deref.ensures.value) ∙ sym c.place_of.ensures ∙ c.in_err-place.was in
    c.from_residual.ensures ∙ sym (value_nowhere descriptor_row nat_eq c.args.fd rows nowhere)
    ∙ ap (λ (t : Table). value_at nat_eq t c.args.fd) c.self.view_is

pub returns : goal.returns
returns c =
    let rows = c.self.inside.rows.items in
    let found : place_in c.args.fd rows ≡ Some c.in_ok-place.place =
    ap (place_in c.args.fd) (sym c.deref.ensures.value) ∙ sym c.place_of.ensures ∙ c.in_ok-place.was in
    sym (value_at_place descriptor_row nat_eq c.args.fd rows c.in_ok-place.place c.index.result.now found c.index.ensures)
    ∙ ap (λ (t : Table). value_at nat_eq t c.args.fd) c.self.view_is
