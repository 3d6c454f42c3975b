-- What calls use of a store's numbers, and when a fault is the disk's.
use Rattle.std.proofs.Common.{◌≡◌, inl, inr, ℕ, ◌+◌, ◌-◌, ◌*◌, ◌<◌, ◌≤◌, ◌^◌, Bool, true, false, List, length, refl, subst, ◌∙◌, arith}
use Rattle.std.specs.Prelude.{if◌then◌else◌}
use Rattle.ipc_disk.specs.Counts.{Counts, counted}
use Rattle.ipc_disk.specs.Medium.{Medium}
use Rattle.ipc_store.specs.declared.fault.CommitError.{CommitError}
use Rattle.ipc_store.specs.declared.fault.CommitError.TheVariants as commit
use Rattle.ipc_store.specs.View.{StoreView, Spends}
use Rattle.ipc_hub.specs.Relations.Faults.{Halts}
use Rattle.ipc_hub.specs.View.{StoredHub, HasStopped, most_events}
use Rattle.ipc_script.specs.declared.fault.ScriptFault.{ScriptFault}
use Rattle.ipc_script.specs.declared.fault.ScriptFault.TheVariants.{NoMemory, Input, Output, Device, NotFormatted, Version, Damaged}
use Rattle.ipc_script.specs.declared.fault.ScriptFault.TheVariants.{TooLong, BadLine, InUse, Unknown}
use Rattle.ipc_script.specs.Line.{longest_script}
use Rattle.ipc_script.specs.Script.{DiskFailed, IsYoung}
use Rattle.ipc_script.specs.Relations.Input.{IsReadFault}
use Rattle.ipc_script.specs.Relations.Numbers.{HasNumbers, byte_cost}

-- nor is one of the reader
pub not-the-readers : (before after : ℕ) (e : ScriptFault) → IsReadFault e → DiskFailed e before after
not-the-readers before after NoMemory f = tt
not-the-readers before after Input f = tt
not-the-readers before after Output f = tt
not-the-readers before after Device f = absurd f
not-the-readers before after NotFormatted f = f
not-the-readers before after (Version found) f = f
not-the-readers before after (Damaged sector) f = f
not-the-readers before after TooLong f = tt
not-the-readers before after (BadLine number) f = tt
not-the-readers before after (InUse number) f = tt
not-the-readers before after (Unknown number) f = tt

-- a call has used numbers, and another more
pub spends-both : {D : Type 0} {counts : D → Counts} {n k : ℕ} (all : ℕ) {old mid new : StoreView D} → Spends counts n old mid → Spends counts k mid new
    → n + k ≤ all → Spends counts all old new
spends-both all first next fits = record {
  running = next.running;
  failures = next.failures ∙ first.failures;
  numbers = omega (arith, first.numbers, next.numbers, fits);
}

-- so many more at most
pub spends-more : {D : Type 0} {counts : D → Counts} {n : ℕ} (all : ℕ) {old new : StoreView D} → Spends counts n old new → n ≤ all
    → Spends counts all old new
spends-more all spent fits = record { running = spent.running; failures = spent.failures; numbers = omega (arith, spent.numbers, fits) }

-- what is left after a call
pub left-beyond : {D : Type 0} {counts : D → Counts} {n k : ℕ} (rest : ℕ) {old new : StoreView D} → HasNumbers n old → Spends counts k old new
    → k + rest ≤ n → HasNumbers rest new
left-beyond rest has spent fits = record { running = spent.running; left = omega (arith, has.left, spent.numbers, fits) }

-- nothing was used yet
pub spends-none : {D : Type 0} {counts : D → Counts} {n k : ℕ} {store : StoreView D} → HasNumbers n store → Spends counts k store store
spends-none has = record { running = has.running; failures = refl; numbers = omega arith }

-- a hub over a store that has numbers left goes on
pub goes-on : {D : Type 0} (n : ℕ) (v : StoredHub D) → HasNumbers n v.store → ¬ HasStopped v
goes-on n v has stopped = by_stop v.store.stopped has.running stopped
  where
    by_stop : (b : Bool) → b ≡ false → (if b then 0 else 2 ^ 64 - 1 - (v.store.confirmed + v.store.waiting)) < most_events → ⊥
    by_stop true is few = let never : true ≡ false = is in cc
    by_stop false is few = absurd (omega (arith, few, has.left))

module _ {D : Type 0} (medium : D → Medium) (counts : D → Counts) (n : ℕ) (old new : StoredHub D) (has : HasNumbers n old.store) where
  -- a call that could not commit has met a failure of the disk
  pub halted-by : (e : CommitError) → Halts medium counts old new e → (counts new.store.disk).failures ≡ counted (counts old.store.disk).failures 1
  halted-by commit.Device halts = halts.1
  halted-by commit.Stopped (inl stopped) = absurd (goes-on n old has stopped.0)
  halted-by commit.Stopped (inr last) = absurd (omega (arith, has.left, last.1))

-- a failure that is counted after calls without one is the first
pub failed-beyond : {D : Type 0} {counts : D → Counts} {n : ℕ} {old mid : StoreView D} (e : ScriptFault) (after : ℕ) → Spends counts n old mid
    → DiskFailed e (counts mid.disk).failures after → DiskFailed e (counts old.disk).failures after
failed-beyond e after spent failed = subst (λ (before : ℕ). DiskFailed e before after) spent.failures failed

-- a young store has numbers enough for a script that is not too long
pub young-has : {D : Type 0} (store : StoreView D) (script : List ℕ) → IsYoung store → length script ≤ longest_script
    → HasNumbers (byte_cost * length script) store
young-has store script young short = record { running = young.running; left = omega (arith, young.numbers, short) }
