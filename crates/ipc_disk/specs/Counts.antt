-- How often a disk was used: its failures, and its writes and syncs that were Ok. A count stops at 2^64 - 1.
use Rattle.std.specs.Prelude.{ℕ, ◌+◌, ◌-◌, ◌^◌, ◌<◌, ◌==◌, if◌then◌else◌, min, Option, Some, None}

pub record Counts : Type 0 where
  pub failures : ℕ
  pub writes : ℕ
  pub syncs : ℕ

-- each of them has a place in 64 bits
pub record InRange (counts : Counts) : Type 0 where
  pub failures_fit : counts.failures < 2 ^ 64
  pub writes_fit : counts.writes < 2 ^ 64
  pub syncs_fit : counts.syncs < 2 ^ 64

-- this many more, or the end
abbrev pub counted : ℕ → ℕ → ℕ
counted n more = min (n + more) (2 ^ 64 - 1)

-- so many more writes and syncs
abbrev pub with_calls : ℕ → ℕ → Counts → Counts
with_calls writes syncs n = record n { writes = counted n.writes writes; syncs = counted n.syncs syncs }

-- one more failure
abbrev pub with_failure : Counts → Counts
with_failure n = record n { failures = counted n.failures 1 }

-- one more write
abbrev pub with_write : Counts → Counts
with_write n = record n { writes = counted n.writes 1 }

-- one more sync
abbrev pub with_sync : Counts → Counts
with_sync n = record n { syncs = counted n.syncs 1 }

-- how many calls are left before one of them, if it is to come, after another call
abbrev pub next_of : Option ℕ → Option ℕ
next_of None = None
next_of (Some calls) = if calls == 0 then None else Some (calls - 1)
