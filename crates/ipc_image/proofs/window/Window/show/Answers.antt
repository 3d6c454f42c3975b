use Rattle.std.proofs.Common.{◌-◌, ◌+◌, ◌∙◌, refl, ap, arith}
use borrow.Rule.Slice.PartMut.{put_mid}
use Rattle.std.proofs.Common.{take, List, ℕ}
use Rattle.ipc_image.proofs.Windows.{same, copied}
use Rattle.ipc_image.proofs.window.Window.show.Goals as goal

pub returns : goal.returns
returns c =
    let old : List ℕ = c.self.inside.bytes in
    let filled : ℕ = c.self.inside.filled in
    let count : ℕ = c.min-count.result in
    let piece : List ℕ = c.args.piece.now in
    rw (← c.self.view_is)
    (same refl
    (ap (λ (l : List ℕ). take (filled + count) (put_mid filled (filled + count - filled) old l)) c.copy_from_slice.ensures.after
    ∙ copied filled count old piece c.self.told c.self.invariant c.min-count.ensures)
    (omega (arith, c.self.invariant, c.min-count.ensures)))
