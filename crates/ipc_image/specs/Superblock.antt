-- The superblock, sector 0 of a device: what its bytes are, and when a sector is one, by the form of the device.
use Rattle.std.specs.Prelude.{◌≡◌, ◌≤◌, ◌-◌, ℕ, ◌+◌, ◌*◌, List, [], ◌∷◌, ◌++◌, take, drop, replicate, codes, All}
use Rattle.std.specs.Prelude.{Bool, nat_eq, nat_le, nat_lt, ◌&&◌, if◌then◌else◌}
use Rattle.std.specs.Int.{w32, to_be_bytes, from_be_bytes}
use Rattle.std.specs.List.{flat_map}
use Rattle.ipc_limits.specs.declared.limits.Limits.{Limits}
use Rattle.ipc_limits.specs.Limits.{ArePassed, AreWithin}
use Rattle.ipc_image.specs.Format.{format, journal_first, objects_first, opened_form}
use Rattle.ipc_image.specs.declared.format.Format.{Format}
use Rattle.ipc_image.specs.Sizes.{area_in, most_area, need_in}

-- how every superblock begins
abbrev pub magic : List ℕ
magic = codes "IPCSTORE"

-- the limits, in their order
abbrev pub limit_fields : Limits → List ℕ
limit_fields l =
    l.processes
    ∷ l.msgmni ∷ l.msgmax ∷ l.msgmnb
    ∷ l.semmni ∷ l.semmsl ∷ l.semmns ∷ l.semopm
    ∷ l.queues ∷ l.maxmsg ∷ l.msgsize
    ∷ l.named_semaphores
    ∷ l.segments ∷ l.segment_bytes ∷ l.call_bytes
    ∷ l.descriptors
    ∷ l.shmmni ∷ l.shmmax ∷ l.shmall
    ∷ l.msgqlen ∷ l.semume ∷ l.queue_bytes ∷ []

-- the numbers of the superblock of a device of so many sectors
abbrev pub superblock_fields : Format → ℕ → Limits → List ℕ
superblock_fields form sectors limits =
    -- the version, and the sectors of the device
    form.version ∷ sectors
    -- the journal: its first sector, and how many it has
    ∷ journal_first ∷ form.journal
    -- the object area, to the end of the device
    ∷ objects_first form ∷ (sectors - objects_first form)
    -- the root
    ∷ form.root
    -- the limits that the version has
    ∷ take form.limits (limit_fields limits)

-- how many bytes these have: the beginning, and each number in four bytes
abbrev pub named_length : Format → ℕ
named_length form = 36 + 4 * form.limits

-- these bytes
unfoldable pub named_bytes : Format → ℕ → Limits → List ℕ
named_bytes form sectors limits = magic ++ flat_map (to_be_bytes w32) (superblock_fields form sectors limits)

-- The whole sector. From version 3 on two words follow, of features that a device has: none is there yet, so each is
-- 0.
abbrev pub superblock_bytes : Format → ℕ → Limits → List ℕ
superblock_bytes form sectors limits =
    named_bytes form sectors limits ++ replicate (512 - named_length form) 0

-- the sector begins as a superblock does
abbrev pub IsFormatted : List ℕ → Type 0
IsFormatted sector = take 8 sector ≡ magic

-- one of its numbers, counted from 0
abbrev pub number_in : ℕ → List ℕ → ℕ
number_in place sector = from_be_bytes w32 (take 4 (drop (8 + 4 * place) sector))

-- the version that it names
abbrev pub version_in : List ℕ → ℕ
version_in sector = number_in 0 sector

-- how many sectors the device has, as it says, and how many the journal
abbrev pub sectors_in : List ℕ → ℕ
sectors_in sector = number_in 1 sector

abbrev pub journal_in : List ℕ → ℕ
journal_in sector = number_in 3 sector

-- a limit; 1 if the version has it not
abbrev pub limit_in : Format → ℕ → List ℕ → ℕ
limit_in form place sector = if nat_lt place form.limits then number_in (7 + place) sector else 1

-- The first word of features, after the limits: those that a server has to know before it reads the device. It need
-- not know those of the second.
abbrev pub features_in : Format → List ℕ → ℕ
features_in form sector = if nat_le 3 form.version then number_in (7 + form.limits) sector else 0

-- whether it names that version, and no feature that the version has not
abbrev pub is_of : Format → List ℕ → Bool
is_of form sector = nat_eq (version_in sector) form.version && nat_eq (features_in form sector) 0

-- the form by which a device is opened
unfoldable pub named_form : List ℕ → Format
named_form sector = opened_form (version_in sector) (journal_in sector)

-- limits that a device of that form may have; those that its version lacks are 1
pub record AreOf (form : Format) (limits : Limits) : Type 0 where
  pub passed : ArePassed limits
  pub version : limits.version ≡ form.version
  pub journal : limits.journal ≡ form.journal
  pub within : AreWithin form.most limits
  pub area : area_in form limits ≤ most_area
  pub others : All (λ n. n ≡ 1) (drop form.limits (limit_fields limits))

-- The sector is the superblock of a device of so many sectors, with these limits. Bytes without a meaning may be any,
-- and so may the second word of features. A disk may have more sectors than the device that stands on it.
pub record IsSuperblockIn (form : Format) (sectors : ℕ) (limits : Limits) (sector : List ℕ) : Type 0 where
  pub named : take (named_length form) sector ≡ named_bytes form sectors limits
  pub features : features_in form sector ≡ 0
  pub of : AreOf form limits
  pub room : need_in form limits ≤ sectors

abbrev pub IsSuperblock : ℕ → Limits → List ℕ → Type 0
IsSuperblock = IsSuperblockIn format
