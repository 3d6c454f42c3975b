use Rattle.std.proofs.Common.{◌≡◌, ◌∙◌, ap, sym}
use Rattle.ipc_image.specs.SavedParts.{first_bytes}
use Rattle.ipc_image.specs.Window.{Shown, passed}
use Rattle.ipc_image.proofs.Windows.{passed-none}
use Rattle.ipc_image.proofs.saved.put_list.Goals as goal
use Rattle.ipc_image.proofs.saved.put_list.Goals.{then-not-passes_over, else-not-passes_over}

pub returns-clause-passed : goal.returns-clause-passed
returns-clause-passed g c =
    let t = g.L.Listed in
    let xs = t.items c.args.items.now in
    let begun : Shown = c.args.window.now in
    let marked : c.passes_over.new.self ≡ passed (first_bytes t.bytes c.if-not-passes_over.mark.parts xs) begun =
    elim c.if-not-passes_over.branch [
      | then-not-passes_over w ↦
          c.passes_over.ensures.not w.if-not-passes_over.true ∙ sym (passed-none begun)
          ∙ ap (λ m. passed (first_bytes t.bytes m.parts xs) begun) (sym w.mark-is)
      | else-not-passes_over w ↦
          c.passes_over.ensures.over w.if-not-passes_over.false (first_bytes t.bytes c.args.mark.now.parts xs) (sym c.requires.mark)
          ∙ ap (λ m. passed (first_bytes t.bytes m.parts xs) begun) (sym w.mark-is)
    ] in
    c.put_from.ensures begun (c.pass_over.ensures.passed begun marked)
