use Rattle.std.proofs.Common.{◌≡◌, ◌<◌, ◌^◌, length, map, arith, sym, ap, subst, ◌∙◌}
use Rattle.std.specs.Prelude.{if◌then◌else◌, is_ok}
use Rattle.std.specs.List.{insert}
use Rattle.ipc_base.specs.Table.{keys_of, with_entry, IsRising}
use Rattle.ipc_base.proofs.CallerLemmas.{rising-entry}
use Rattle.ipc_state.specs.declared.descriptors.DescriptorRow.{DescriptorRow}
use Rattle.ipc_state.specs.Descriptors.{Table, lowest_unused, most_descriptors, opened, descriptor_row}
use Rattle.ipc_state.proofs.Opening.{put-in, few, unused}
use Rattle.ipc_state.proofs.descriptors.Descriptors.open.Goals.{After-unwrap}
use Rattle.ipc_state.proofs.descriptors.Descriptors.open.Goals as goal

put : (c : After-unwrap) → map descriptor_row c.insert.new.self.items ≡ opened (map descriptor_row c.self.inside.rows.items) c.args.descriptor
put c =
    let rows = c.self.inside.rows.items in
    let place = c.lowest_unused_place-place.result in
    let new : DescriptorRow = record { fd = place; descriptor = c.args.descriptor } in
    let is : place ≡ lowest_unused (map descriptor_row rows) =
    c.lowest_unused_place-place.ensures.unused ∙ ap (λ rs. lowest_unused (map descriptor_row rs)) c.deref.ensures.value in
    let items : c.insert.new.self.items ≡ insert rows place new =
    c.insert.ensures.items ∙ ap (λ r. if is_ok r then insert rows place new else rows) c.unwrap.ensures in
    ap (map descriptor_row) items ∙ put-in 0 rows (2 ^ 32) place new
    (subst (λ (t : Table). IsRising 0 (keys_of t) (2 ^ 32)) (sym c.self.view_is) c.requires.rising) (omega (arith, is)) (omega arith)
    ∙ ap (λ n. with_entry (map descriptor_row rows) n c.args.descriptor) is

pub returns-clause-table : goal.returns-clause-table
returns-clause-table c = put c ∙ ap (λ (t : Table). opened t c.args.descriptor) c.self.view_is

pub invariant_of-self : goal.invariant_of-self
invariant_of-self c =
    let table = map descriptor_row c.self.inside.rows.items in
    let rising = subst (λ (t : Table). IsRising 0 (keys_of t) (2 ^ 32)) (sym c.self.view_is) c.requires.rising in
    let fewer = subst (λ (t : Table). length t < most_descriptors) (sym c.self.view_is) c.requires.few in
    let below : lowest_unused table < 2 ^ 32 = omega (arith, few 0 table, fewer) in (
      omega (arith, c.self.invariant.0, c.insert.ensures.capacity),
      λ rises. subst (λ (t : Table). IsRising 0 (keys_of t) (2 ^ 32)) (sym (put c))
          (rising-entry 0 table (2 ^ 32) (lowest_unused table) c.args.descriptor rising (omega arith) below (unused 0 table (2 ^ 32) rising)),
    )
