use Rattle.std.proofs.Common.{◌≡◌, length, take}
use Rattle.ipc_base.specs.Numbers.{record_bytes}
use Rattle.ipc_wire.proofs.record.Record.new.Given as goal

-- the numbers so far stand at the front
abbrev pub invariant-loop-field : goal.invariant-loop-field
invariant-loop-field l =
    record {
      place : l.put ≡ length (record_bytes (take l.field-index l.fields));
      bytes : take l.put l.bytes ≡ record_bytes (take l.field-index l.fields);
    }
