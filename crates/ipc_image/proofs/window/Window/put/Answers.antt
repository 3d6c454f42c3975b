use Rattle.std.proofs.Common.{◌-◌, take, sym}
use Rattle.ipc_image.proofs.Windows.{passed-before}
use Rattle.ipc_image.proofs.window.Window.put.Goals as goal

pub returns-then-len-self : goal.returns-then-len-self
returns-then-len-self c =
    let w = c.self.inside in
    rw (← c.self.view_is)
    (sym (passed-before (record { before = w.before; bytes = take w.filled w.bytes; room = 512 - w.filled }) c.args.piece.now c.if-len-self.true))
