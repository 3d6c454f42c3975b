use Rattle.std.proofs.Common.{◌+◌, ◌^◌, ◌<◌, ap, length, arith, rules}
use Rattle.std.proofs.Math.Facts.{Fits-of_lt}
use Rattle.sysv_msg.proofs.Bytes.{bytes_fit}
use Rattle.sysv_msg.proofs.queue.MsgQueue.restore.Goals as goal

pub overflow_add-self : goal.overflow_add-self
overflow_add-self c =
    let long : c.len.result < 2 ^ 64 = search rules in
    let few : length c.self.inside.messages.items < 2 ^ 64 = omega (arith, c.in_ok-reserve.ensures.few, ap length c.reserve.ensures.items) in
    let fits : c.self.inside.bytes + c.len.result < 2 ^ 128 = rw (c.self.invariant.0) (bytes_fit c.self.inside.messages.items c.len.result few long) in
    Fits-of_lt fits
