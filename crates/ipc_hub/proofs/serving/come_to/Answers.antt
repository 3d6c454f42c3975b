use Rattle.std.proofs.Common.{◌≡◌, subst, sym, rules}
use Rattle.ipc_wire.specs.View.{plain_request}
use Rattle.ipc_wire.specs.Stream.{PlainFrame, first}
use Rattle.ipc_wire.specs.Stream.PlainFrame.{Whole}
use Rattle.ipc_hub.specs.Relations.Requests.{ComesTo}
use Rattle.ipc_hub.proofs.serving.come_to.Goals as goal

pub returns-in-Whole : goal.returns-in-Whole
returns-in-Whole g c =
    let front : first c.args.session.now.input ≡ Whole c.in-Whole.used (plain_request c.in-Whole.request) = search rules in
    subst (λ (f : PlainFrame). ComesTo g.D.SectorDisk.medium c.args.store.now c.submit.new.store c.args.session.now.process f c.args.moment.0 c.submit.result)
    (sym front) (rw c.process.ensures at c.submit.ensures c.in-Whole.used)
