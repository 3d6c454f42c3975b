use Rattle.std.proofs.Common.{FitsSigned, w64}
use Rattle.std.proofs.lemmas.Int.{to_z-of_z}
use Rattle.sysv_msg.proofs.Picks.{pick-below_zero, pick-of_type}
use Rattle.sysv_msg.proofs.queue.MsgQueue.select.Goals as goal

pub returns-then-mtype-lt0-clause-picked : goal.returns-then-mtype-lt0-clause-picked
returns-then-mtype-lt0-clause-picked c =
    let fits : FitsSigned w64 c.args.mtype = c.ranges.mtype in
    let below = simp to_z-of_z at c.if-mtype-lt0.true in
    let e = pick-below_zero c.self.inside.messages.items c.args.mtype c.args.except below in
    rw (← c.self.view_is, e, c.first_of_least_type.ensures, c.unsigned_abs.ensures.value) (simp to_z-of_z)

pub returns-else-mtype-lt0-clause-picked : goal.returns-else-mtype-lt0-clause-picked
returns-else-mtype-lt0-clause-picked c =
    let fits : FitsSigned w64 c.args.mtype = c.ranges.mtype in
    let above = simp to_z-of_z at c.if-mtype-lt0.false in
    let e = pick-of_type c.self.inside.messages.items c.args.mtype c.args.except above in
    let found = simp to_z-of_z at c.first_of_type.ensures in
    rw (← c.self.view_is, e) found
