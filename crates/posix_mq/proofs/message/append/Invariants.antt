use Rattle.std.proofs.Common.{◌≡◌, ◌++◌, take}
use Rattle.std.specs.Prelude.{vec_capacity}
use Rattle.posix_mq.proofs.message.append.Given as goal

abbrev pub invariant-loop-byte : goal.invariant-loop-byte
invariant-loop-byte l = (l.buffer.items ≡ l.fn.buffer.items ++ take l.byte-index l.text)
    × (vec_capacity l.buffer ≡ vec_capacity l.fn.buffer)
