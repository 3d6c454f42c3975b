use Rattle.std.proofs.Common.{◌≡◌, ◌^◌, ℕ, List, Some, None, map, set, refl, sym, ap, subst, ◌∙◌}
use Rattle.std.specs.Prelude.{nat_eq}
use Rattle.ipc_base.specs.Table.{keys_of, value_at, with_value, IsRising}
use Rattle.ipc_base.proofs.CallerLemmas.{value_at_place, value_nowhere, set_at_place, keys_of-with_value}
use Rattle.ipc_state.specs.declared.descriptors.DescriptorRow.{DescriptorRow}
use Rattle.ipc_state.specs.Descriptors.{Table, with_flags, descriptor_row}
use Rattle.ipc_state.proofs.Opening.{place_in, flagged}
use Rattle.ipc_state.proofs.descriptors.Descriptors.set_flags.Goals.{After-self-1}
use Rattle.ipc_state.proofs.descriptors.Descriptors.set_flags.Goals as goal

found : (c : After-self-1) → place_in c.args.fd c.self.inside.rows.items ≡ Some c.in-Some.place
found c = ap (place_in c.args.fd) (sym c.deref.ensures.value) ∙ sym c.place_of.ensures ∙ c.in-Some.is

abbrev flags_set : After-self-1 → DescriptorRow
flags_set c = let row = c.index_mut.result.now in record row { descriptor = record row.descriptor { flags = c.args.flags } }

put : (c : After-self-1) → map descriptor_row (set c.self.inside.rows.items c.in-Some.place (flags_set c))
    ≡ with_value nat_eq (map descriptor_row c.self.inside.rows.items) c.args.fd (flags_set c).descriptor
put c =
    set_at_place descriptor_row nat_eq c.args.fd c.self.inside.rows.items c.in-Some.place c.index_mut.result.now (flags_set c) (found c)
    c.index_mut.ensures.value refl

pub returns-in-Some : goal.returns-in-Some
returns-in-Some c =
    let rows = c.self.inside.rows.items in
    let there = value_at_place descriptor_row nat_eq c.args.fd rows c.in-Some.place c.index_mut.result.now (found c) c.index_mut.ensures.value in
    put c ∙ sym (flagged (map descriptor_row rows) c.args.fd c.args.flags c.index_mut.result.now.descriptor there)
    ∙ ap (λ (t : Table). with_flags t c.args.fd c.args.flags) c.self.view_is

pub returns-in_default : goal.returns-in_default
returns-in_default c =
    let rows = c.self.inside.rows.items in
    let nowhere : place_in c.args.fd rows ≡ None = ap (place_in c.args.fd) (sym c.deref.ensures.value) ∙ sym c.place_of.ensures ∙ c.in_default.is in
    let none : value_at nat_eq c.args.self.now c.args.fd ≡ None =
    ap (λ (t : Table). value_at nat_eq t c.args.fd) (sym c.self.view_is) ∙ value_nowhere descriptor_row nat_eq c.args.fd rows nowhere in
    rw none refl

pub invariant_of-self : goal.invariant_of-self
invariant_of-self c = (
  c.self.invariant.0,
  λ rises. subst (λ (ks : List ℕ). IsRising 0 ks (2 ^ 32)) (sym (ap keys_of (put c))) (rw keys_of-with_value (c.self.invariant.1 rises)),
)
