use Rattle.std.proofs.Common.{ℕ, List, [], ◌∷◌, ◌++◌, length, append_assoc, ap, ◌∙◌}
use Rattle.ipc_base.specs.Numbers.{fields_bytes}
use Rattle.ipc_image.specs.Saved.{segment_sizes, segment_numbers}
use Rattle.ipc_image.specs.Window.{passed}
use Rattle.ipc_image.proofs.Windows.{passed-both}
use Rattle.ipc_image.proofs.pshm.NamedEntrySegmentStored.put.Goals as goal

pub returns-clause-passed : goal.returns-clause-passed
returns-clause-passed c =
    let e = c.args.self.now in
    let w = c.args.window.now in
    let front : List ℕ → ℕ → List ℕ =
    λ name n. fields_bytes segment_sizes (e.perm.uid ∷ e.perm.gid ∷ e.perm.mode ∷ length name ∷ n ∷ []) ++ name in
    c.put.ensures ∙ ap (λ (l : List ℕ). passed l c.put_row.new.window) c.bytes.ensures
    ∙ ap (passed e.object.bytes) c.put_row.ensures
    ∙ passed-both w (front c.bytes-name.result.now c.len.result) e.object.bytes
    ∙ ap (λ (l : List ℕ). passed (front l c.len.result ++ e.object.bytes) w) c.bytes-name.ensures
    ∙ ap (λ (n : ℕ). passed (front e.bound n ++ e.object.bytes) w) c.len.ensures
    ∙ ap (λ (l : List ℕ). passed l w) (append_assoc (fields_bytes segment_sizes (segment_numbers e)) e.bound e.object.bytes)
