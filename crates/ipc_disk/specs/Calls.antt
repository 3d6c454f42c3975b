-- What is left of a disk after calls, and what they have counted.
use Rattle.std.specs.Prelude.{◌≡◌, ◌⊎◌, ◌↔◌, ℕ, OnOk, OnErr, Result}
use Rattle.ipc_disk.specs.Counts.{Counts, counted, with_failure}
use Rattle.ipc_disk.specs.Medium.{Medium, IsHonest, Stays}

-- it has as many sectors, and is honest just if it was
pub record IsSameDisk {D : Type 0} (size : D → ℕ) (medium : D → Medium) (old new : D) : Type 0 where
  pub sectors : size new ≡ size old
  pub honest : IsHonest (medium old) ↔ IsHonest (medium new)

-- one call: the disk has as many sectors, and counts a failure if the call failed, and else the call
pub record IsOneCall {D T E : Type 0} (size : D → ℕ) (counts : D → Counts) (result : Result T E)
    (call : Counts → Counts) (old new : D) : Type 0 where
  pub sectors : size new ≡ size old
  pub err : OnErr result (counts new ≡ with_failure (counts old))
  pub ok : OnOk result (counts new ≡ call (counts old))

-- one call or more: an Err is one failure, and Ok is none
pub record CountsFault {D T E : Type 0} (counts : D → Counts) (result : Result T E) (old new : D) : Type 0 where
  pub err : OnErr result ((counts new).failures ≡ counted (counts old).failures 1)
  pub ok : OnOk result ((counts new).failures ≡ (counts old).failures)

-- one call or more: an Err is one failure, and Ok is these calls
pub record CountsCalls {D T E : Type 0} (counts : D → Counts) (result : Result T E) (calls : Counts → Counts)
    (old new : D) : Type 0 where
  pub err : OnErr result ((counts new).failures ≡ counted (counts old).failures 1)
  pub ok : OnOk result (counts new ≡ calls (counts old))

-- calls that may have errors which are none of the disk's: one failure if the disk has failed, and else none
pub record CountsFaultIf {D : Type 0} (counts : D → Counts) (failed : Type 0) (old new : D) : Type 0 where
  pub failure : failed → (counts new).failures ≡ counted (counts old).failures 1
  pub no_failure : failed ⊎ ((counts new).failures ≡ (counts old).failures)

-- Reads alone: what is read stays, and there is no new image. If the disk has failed that is one failure, and nothing
-- else is counted.
pub record OnlyReads {D : Type 0} (size : D → ℕ) (medium : D → Medium) (counts : D → Counts) (failed : Type 0)
    (old new : D) : Type 0 where
  pub same : IsSameDisk size medium old new
  pub stays : IsHonest (medium old) → Stays (medium old) (medium new)
  pub failure : failed → counts new ≡ with_failure (counts old)
  pub no_failure : failed ⊎ (counts new ≡ counts old)
