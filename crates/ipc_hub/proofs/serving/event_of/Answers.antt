use Rattle.std.proofs.Common.{◌<◌, ◌^◌, ap, subst, rules}
use Rattle.ipc_base.specs.Numbers.{AreInRange}
use Rattle.ipc_wire.specs.Request.{PlainKind, Hello, plain_kind}
use Rattle.ipc_wire.specs.Table.{parts_of}
use Rattle.ipc_hub.proofs.serving.event_of.Goals as goal

pub returns-in-None-Hello-clause-record : goal.returns-in-None-Hello-clause-record
returns-in-None-Hello-clause-record c =
    let framed = c.args.request.now.frame in
    let fields : AreInRange (parts_of (Hello c.in-None-Hello.cred)).row.fields (parts_of (Hello c.in-None-Hello.cred)).values =
    subst (λ (k : PlainKind). AreInRange (parts_of k).row.fields (parts_of k).values) (ap plain_kind c.in-None-Hello.is-1) framed.fields in
    let early : c.args.moment.0 < 2 ^ 64 = search rules in
    record { moment = early; details = (framed.serial.1, fields.0, fields.1.0) }
