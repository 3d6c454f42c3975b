use Rattle.std.proofs.Common.{◌<◌, ◌^◌, refl, subst, arith}
use Rattle.std.specs.Prelude.{All}
use Rattle.std.proofs.lemmas.List.Elements.{All-map}
use Rattle.ipc_state.specs.Descriptors.{descriptor_row}
use Rattle.ipc_image.specs.Saved.{descriptor_bytes, FitsDescriptor}
use Rattle.ipc_image.proofs.Marks.{length-each}
use Rattle.ipc_image.proofs.widths.ItemProcessWide.read.Goals as goal

pub returns : goal.returns
returns c =
    let p = c.args.self.now in
    let pid : p.number < 2 ^ 32 = search (arith) in
    let uid : p.value.cred.uid < 2 ^ 32 = search (arith) in
    let gid : p.value.cred.gid < 2 ^ 32 = search (arith) in
    let rows = All-map FitsDescriptor descriptor_row c.rows.result.now c.read_each.ensures in (
      ((pid, (uid, (gid, (c.requires, tt)))), length-each descriptor_bytes 16 (λ d. refl) p.value.descriptors),
      subst (All FitsDescriptor) c.rows.ensures rows,
    )
