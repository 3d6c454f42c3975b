use Rattle.std.proofs.Common.{ℕ, List, length, sym, ap, subst, ◌∙◌, ◌++◌, ◌∷◌, []}
use Rattle.std.specs.Prelude.{All}
use Rattle.std.specs.List.{flat_map}
use Rattle.std.proofs.lemmas.List.{length-map}
use Rattle.ipc_base.specs.Numbers.{fields_bytes}
use Rattle.ipc_state.specs.Descriptors.{Table, descriptor_row}
use Rattle.ipc_image.specs.Saved.{process_sizes, descriptor_bytes, FitsDescriptor}
use Rattle.ipc_image.specs.Window.{passed}
use Rattle.ipc_image.proofs.Windows.{passed-both, passed-none}
use Rattle.ipc_image.proofs.process.ItemProcessSaved.put.Goals as goal

pub put_from-requires : goal.put_from-requires
put_from-requires c = subst (All FitsDescriptor) (sym c.rows-rows.ensures) c.requires.1

pub returns : goal.returns
returns c =
    let w = c.args.window.now in
    let p = c.args.self.now in
    let ds : Table = p.value.descriptors in
    let numbers : ℕ → List ℕ = λ n. fields_bytes process_sizes (p.number ∷ p.value.cred.uid ∷ p.value.cred.gid ∷ n ∷ []) in
    c.put_from.ensures c.put_fields.new.window (sym (passed-none c.put_fields.new.window))
    ∙ ap (λ (t : Table). passed (flat_map descriptor_bytes t) c.put_fields.new.window) c.rows-rows.ensures
    ∙ ap (passed (flat_map descriptor_bytes ds)) c.put_fields.ensures
    ∙ passed-both w (numbers (length c.rows-rows.result.now)) (flat_map descriptor_bytes ds)
    ∙ ap (λ (n : ℕ). passed (numbers n ++ flat_map descriptor_bytes ds) w)
    (sym (length-map c.rows-rows.result.now descriptor_row) ∙ ap length c.rows-rows.ensures)
