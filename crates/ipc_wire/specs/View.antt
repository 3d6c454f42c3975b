-- Requests of a program as plain values.
use Rattle.ipc_wire.specs.declared.request.Request.{Request}
use Rattle.ipc_wire.specs.Request.{PlainRequest, plain_kind}

abbrev pub plain_request : Request → PlainRequest
plain_request r = record { serial = r.serial; kind = plain_kind r.kind }
