-- Operations of semop(2) side by side, as they stand in its frame: of each the number of the semaphore, what is added,
-- and the flags, two bytes each, the most significant one first.
use Rattle.std.specs.Prelude.{ℕ, List, [], ◌∷◌}
use Rattle.std.specs.Int.{w16, from_be_bytes, cast_signed}
use Rattle.ipc_wire.specs.declared.sem_bufs.SemBuf.{SemBuf}
use Rattle.ipc_wire.specs.declared.sem_bufs.SemBufs.{SemBufs}

-- the bytes of such operations
abbrev pub bytes_of : SemBufs → List ℕ
bytes_of sixes = sixes.bytes.now

-- the operations that bytes spell six by six; bytes that are left over spell nothing
abbrev pub operations_in : List ℕ → List SemBuf
operations_in (a ∷ b ∷ c ∷ d ∷ e ∷ f ∷ bytes) =
    record {
      num = from_be_bytes w16 (a ∷ b ∷ []);
      op = cast_signed w16 (from_be_bytes w16 (c ∷ d ∷ []));
      flags = from_be_bytes w16 (e ∷ f ∷ []);
    }
    ∷ operations_in bytes
operations_in bytes = []
