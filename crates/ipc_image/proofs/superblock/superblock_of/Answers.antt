use Rattle.std.proofs.Common.{◌≡◌, List, ℕ, ◌+◌, ◌++◌, take, refl, ap, ◌∙◌}
use Rattle.ipc_base.specs.Numbers.{record_bytes}
use Rattle.ipc_base.specs.Objects.{window}
use Rattle.ipc_limits.specs.declared.limits.Limits.{Limits}
use Rattle.ipc_image.specs.declared.format.Format.{Format}
use Rattle.ipc_image.specs.Format.{IsFormat}
use Rattle.ipc_image.specs.Superblock.{magic, named_bytes, superblock_bytes}
use Rattle.ipc_image.specs.Window.{Shown, at_place, passed}
use Rattle.ipc_image.proofs.Formats.{by-form}
use Rattle.ipc_image.proofs.Windows.{passed-both, window-shown}
use Rattle.ipc_image.proofs.superblock.superblock_of.Goals as goal

-- a window shows all of it
shown : (form : Format) → IsFormat form → (sectors : ℕ) (limits : Limits) → window 0 (named_bytes form sectors limits) ≡ superblock_bytes form sectors limits
unfolding named_bytes
shown form known sectors limits =
    by-form (λ f. window 0 (named_bytes f sectors limits) ≡ superblock_bytes f sectors limits) refl refl (λ j its. refl) form known

pub returns : goal.returns
unfolding named_bytes
returns c =
    let all : List ℕ = record_bytes (take (7 + c.args.form.limits) c.fields_of.result) in
    c.finish.ensures
    ∙ ap (λ (w : Shown). window 0 w.bytes) (c.put_fields.ensures ∙ ap (passed all) (c.put.ensures ∙ ap (passed magic) c.new-window.ensures)
    ∙ passed-both (at_place 0) magic all)
    ∙ window-shown 0 (magic ++ all) ∙ ap (λ (l : List ℕ). window 0 (magic ++ l)) c.fields_of.ensures
    ∙ shown c.args.form c.requires c.args.sectors c.args.limits.now
