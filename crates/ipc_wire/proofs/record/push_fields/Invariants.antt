use Rattle.std.proofs.Common.{◌≡◌, ◌≤◌, ◌++◌, take, vec_capacity}
use Rattle.ipc_base.specs.Numbers.{record_bytes}
use Rattle.ipc_wire.proofs.record.push_fields.Given as goal

-- the fields so far follow what was there
abbrev pub invariant-loop-field : goal.invariant-loop-field
invariant-loop-field l =
    record {
      bytes : l.body.items ≡ l.initial.body.items ++ record_bytes (take l.field-index l.fields);
      room : vec_capacity l.initial.body ≤ vec_capacity l.body;
    }
