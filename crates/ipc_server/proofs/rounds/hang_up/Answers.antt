use Rattle.std.proofs.Common.{inl, inr}
use Rattle.ipc_server.proofs.Going.{goes-none, breaks-at}
use Rattle.ipc_server.proofs.Parting.{none-leaves}
use Rattle.ipc_server.proofs.rounds.hang_up.Goals as goal

pub returns-in-Err-Device-clause-breaks : goal.returns-in-Err-Device-clause-breaks
returns-in-Err-Device-clause-breaks g c =
    breaks-at g.D.SectorDisk.medium g.D.SectorDisk.counts c.args.moment.0 c.args.hub.now c.args.hub.now c.hangup.new.self _
    (goes-none g.D.SectorDisk.medium g.met.D.SectorDisk.only_now c.args.moment.0 c.args.hub.now)
    (rw c.in-Err-Device.field-0-is at c.in-Err-Device.ensures.refused)

pub returns-in-Err-Stopped-clause-breaks : goal.returns-in-Err-Stopped-clause-breaks
returns-in-Err-Stopped-clause-breaks g c =
    breaks-at g.D.SectorDisk.medium g.D.SectorDisk.counts c.args.moment.0 c.args.hub.now c.args.hub.now c.hangup.new.self _
    (goes-none g.D.SectorDisk.medium g.met.D.SectorDisk.only_now c.args.moment.0 c.args.hub.now)
    (rw c.in-Err-Stopped.field-0-is at c.in-Err-Stopped.ensures.refused)

pub returns-in-Ok-clause-hangs_up : goal.returns-in-Ok-clause-hangs_up
returns-in-Ok-clause-hangs_up g c = inr c.in-Ok.ensures.ok

pub returns-in-Err-Unknown-clause-hangs_up : goal.returns-in-Err-Unknown-clause-hangs_up
returns-in-Err-Unknown-clause-hangs_up g c = inl (rw c.in-Err-Unknown.field-0-is at c.in-Err-Unknown.ensures.refused).2

pub returns-in-Err-Unknown-clause-leaves : goal.returns-in-Err-Unknown-clause-leaves
returns-in-Err-Unknown-clause-leaves g c =
    let refused = rw c.in-Err-Unknown.field-0-is at c.in-Err-Unknown.ensures.refused in
    rw refused.2 (none-leaves c.args.hub.now.hub c.args.conn refused.1)
