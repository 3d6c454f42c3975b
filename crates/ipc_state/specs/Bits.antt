-- The semaphores that a list of operations names, as bits of a word. Two semaphores of a set of at most 64 share none.
use Rattle.std.specs.Prelude.{ℕ, List, bit_or}
use Rattle.std.specs.List.{fold}
use Rattle.ipc_wire.specs.declared.sem_bufs.SemBuf.{SemBuf}
pub use Rattle.sysv_sem.specs.Bits.{bit_of}

-- a word with the semaphore of an operation
abbrev pub with_bit : ℕ → SemBuf → ℕ
with_bit word o = bit_or word (bit_of o.num)

-- the word of those that the operations name
abbrev pub bits_of : List SemBuf → ℕ
bits_of operations = fold with_bit 0 operations
