use Rattle.std.proofs.Common.{rules, ◌≡◌, ◌∙◌, sym, ap, arith}
use Rattle.ipc_server.specs.Rows.{clients_of}
use Rattle.ipc_server.proofs.Standing.{failed-joined, serving-grown, serving-joined}
use Rattle.ipc_server.proofs.Going.{joins-none, joins-asked}
use Rattle.ipc_server.proofs.server.Server.take_client.Goals as goal

pub returns-in_default-clause-goes : goal.returns-in_default-clause-goes
returns-in_default-clause-goes g c = λ moment. joins-none g.D.SectorDisk.medium g.met.D.SectorDisk.only_now moment c.args.self.now.hub

pub returns-then-is_err-clause-goes : goal.returns-then-is_err-clause-goes
returns-then-is_err-clause-goes g c = λ moment.
    rw (ap (λ v. v.hub) c.self.view_is) (joins-none g.D.SectorDisk.medium g.met.D.SectorDisk.only_now moment c.args.self.now.hub)

pub returns-then-is_err-2-clause-goes : goal.returns-then-is_err-2-clause-goes
returns-then-is_err-2-clause-goes g c = λ moment.
    rw (ap (λ v. v.hub) c.self.view_is) (joins-none g.D.SectorDisk.medium g.met.D.SectorDisk.only_now moment c.args.self.now.hub)

pub returns-in_default-new-clause-goes : goal.returns-in_default-new-clause-goes
returns-in_default-new-clause-goes g c = λ moment.
    rw (ap (λ v. v.hub) c.self.view_is) (joins-none g.D.SectorDisk.medium g.met.D.SectorDisk.only_now moment c.args.self.now.hub)

pub returns-in_default-connect-clause-goes : goal.returns-in_default-connect-clause-goes
returns-in_default-connect-clause-goes g c = λ moment.
    let same = ap (λ v. v.hub) c.self.view_is in
    joins-asked g.D.SectorDisk.medium g.met.D.SectorDisk.only_now moment c.args.self.now.hub c.connect.new.self c.in-Ok.conn c.connect.result
    (rw same at c.connect.ensures.ok) (rw same at c.connect.ensures.joins) (rw same at c.connect.ensures.store)
    (rw same at c.connect.ensures.stopped) (rw same at c.connect.ensures.in_use) (rw same at c.connect.ensures.err)

pub returns-clause-goes : goal.returns-clause-goes
returns-clause-goes g c = λ moment.
    let same = ap (λ v. v.hub) c.self.view_is in
    joins-asked g.D.SectorDisk.medium g.met.D.SectorDisk.only_now moment c.args.self.now.hub c.connect.new.self c.in-Ok.conn c.connect.result
    (rw same at c.connect.ensures.ok) (rw same at c.connect.ensures.joins) (rw same at c.connect.ensures.store)
    (rw same at c.connect.ensures.stopped) (rw same at c.connect.ensures.in_use) (rw same at c.connect.ensures.err)

-- ---- the clients whose sockets have failed

pub returns-in_default-clause-failed : goal.returns-in_default-clause-failed
returns-in_default-clause-failed g c number bad = bad

pub returns-then-is_err-clause-failed : goal.returns-then-is_err-clause-failed
returns-then-is_err-clause-failed g c =
    rw (ap clients_of c.reserve.ensures.rest_kept ∙ ap (λ v. v.clients) c.self.view_is) (λ number bad. bad)

pub returns-then-is_err-2-clause-failed : goal.returns-then-is_err-2-clause-failed
returns-then-is_err-2-clause-failed g c =
    rw (ap clients_of c.reserve.ensures.rest_kept ∙ ap (λ v. v.clients) c.self.view_is) (λ number bad. bad)

pub returns-in_default-new-clause-failed : goal.returns-in_default-new-clause-failed
returns-in_default-new-clause-failed g c =
    rw (ap clients_of c.reserve.ensures.rest_kept ∙ ap (λ v. v.clients) c.self.view_is) (λ number bad. bad)

pub returns-in_default-connect-clause-failed : goal.returns-in_default-connect-clause-failed
returns-in_default-connect-clause-failed g c =
    rw (ap clients_of c.reserve.ensures.rest_kept ∙ ap (λ v. v.clients) c.self.view_is) (λ number bad. bad)

pub returns-clause-failed : goal.returns-clause-failed
returns-clause-failed g c =
    failed-joined c.args.self.now.clients c.reserve.new.self c.insert_reserved.new.self c.insert_reserved.result c.in-Ok-new.client
    (ap clients_of c.reserve.ensures.rest_kept ∙ ap (λ v. v.clients) c.self.view_is)
    c.insert_reserved.ensures.was_vacant c.insert_reserved.ensures.updates

-- ---- each client has its connection

pub invariant_of-self-2 : goal.invariant_of-self-2
invariant_of-self-2 g c =
    let slab = c.self.inside.clients in
    let room = c.reserve.new.self in
    let key : c.insert_reserved.result ≡ c.in-Ok-new.client.conn = search rules in
    serving-joined c.self.inside.hub.hub c.connect.new.self.hub room c.insert_reserved.new.self c.insert_reserved.result c.in-Ok-new.client
    (serving-grown c.self.inside.hub.hub slab room c.reserve.ensures.rest_kept c.reserve.ensures.capacity c.self.invariant)
    c.insert_reserved.ensures.updates (sym key) c.insert_reserved.ensures.key_in_range (omega (arith, c.insert_reserved.ensures.capacity))
    (rw key (rw (sym c.in-Ok-new.ensures.conn) at c.in-Ok-connect.ensures.joins))
