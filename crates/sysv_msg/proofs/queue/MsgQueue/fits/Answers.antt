use Rattle.std.proofs.Common.{◌+◌, ◌^◌, ◌<◌, length, arith}
use Rattle.std.proofs.Math.Facts.{Fits-lt-pow, Fits-of_lt}
use Rattle.sysv_msg.proofs.Bytes.{bytes_fit}
use Rattle.sysv_msg.proofs.queue.MsgQueue.fits.Goals as goal

pub overflow_add-self-inside : goal.overflow_add-self-inside
overflow_add-self-inside c =
    let few : length c.self.inside.messages.items < 2 ^ 64 = omega (arith, c.len-count.ensures, c.len-count.type_inv) in
    let fits : c.self.inside.bytes + c.args.len < 2 ^ 128 =
    rw (c.self.invariant.0) (bytes_fit c.self.inside.messages.items c.args.len few (Fits-lt-pow c.ranges.len)) in
    Fits-of_lt fits
