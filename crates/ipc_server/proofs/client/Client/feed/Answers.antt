use Rattle.ipc_server.proofs.Talking.{feed-breaks, hears-one, hears-none}
use Rattle.ipc_server.proofs.client.Client.feed.Goals as goal

pub returns-then-is_empty-clause-hears : goal.returns-then-is_empty-clause-hears
returns-then-is_empty-clause-hears g c =
    hears-none g.D.SectorDisk.medium c.args.self.now.conn c.args.moment.0 g.met.D.SectorDisk.only_now c.args.hub.now _

pub returns-in-Err-Device-clause-breaks : goal.returns-in-Err-Device-clause-breaks
returns-in-Err-Device-clause-breaks g c =
    feed-breaks g.D.SectorDisk.medium c.args.self.now.conn c.args.moment.0 g.met.D.SectorDisk.only_now g.D.SectorDisk.counts c.args.hub.now
    c.feed.new.self _ _ (rw (c.in-Err-Device.field-0-is, c.as_slice.ensures) at c.in-Err-Device.ensures.refused)

pub returns-in-Err-Stopped-clause-breaks : goal.returns-in-Err-Stopped-clause-breaks
returns-in-Err-Stopped-clause-breaks g c =
    feed-breaks g.D.SectorDisk.medium c.args.self.now.conn c.args.moment.0 g.met.D.SectorDisk.only_now g.D.SectorDisk.counts c.args.hub.now
    c.feed.new.self _ _ (rw (c.in-Err-Stopped.field-0-is, c.as_slice.ensures) at c.in-Err-Stopped.ensures.refused)

pub returns-in-Ok-clause-hears : goal.returns-in-Ok-clause-hears
returns-in-Ok-clause-hears g c =
    rw c.advance.ensures.items
    (hears-one g.D.SectorDisk.medium c.args.self.now.conn c.args.moment.0 c.args.hub.now c.feed.new.self c.args.self.now.piece.items c.in-Ok.taken
    (g.S.Read.remaining c.args.self.now.socket) (rw c.as_slice.ensures at c.in-Ok.ensures.ok))

pub returns-in-Err-Unknown-clause-hears : goal.returns-in-Err-Unknown-clause-hears
returns-in-Err-Unknown-clause-hears g c =
    rw (rw c.in-Err-Unknown.field-0-is at c.in-Err-Unknown.ensures.refused).2
    (hears-none g.D.SectorDisk.medium c.args.self.now.conn c.args.moment.0 g.met.D.SectorDisk.only_now c.args.hub.now _)
