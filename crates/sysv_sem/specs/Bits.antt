-- Semaphores as bits of a word. Two semaphores of a set of at most 64 share none.
use Rattle.std.specs.Prelude.{◌≡◌, ℕ, ◌^◌, ◌%◌, List, All}
use Rattle.std.specs.Int.{bit_at}
use Rattle.sysv_sem.specs.declared.operation.Operation.{Operation}

-- the bit of a semaphore, by its number
abbrev pub bit_of : ℕ → ℕ
bit_of num = 2 ^ (num % 64)

-- a word has the bit of the semaphore that each operation names
abbrev pub AreNamed : ℕ → List Operation → Type 0
AreNamed word operations = All (λ o. bit_at word (o.num % 64) ≡ 1) operations
