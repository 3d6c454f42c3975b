-- The sectors of a disk in memory: of each the value at the last sync and the last value written.
-- A crash leaves of each sector, by itself, one of the two.
use Rattle.std.specs.Prelude.{◌≡◌, ◌⊎◌, List, [], ◌∷◌, map}
use Rattle.ipc_disk.specs.declared.memory.Slot.{Slot}
use Rattle.ipc_disk.specs.Medium.{Image, Medium}

-- the last values
abbrev pub last_values : List Slot → Image
last_values slots = map (λ slot. slot.last) slots

-- the values at the last sync
abbrev pub synced_values : List Slot → Image
synced_values slots = map (λ slot. slot.synced) slots

-- each sector has its synced value or its last
abbrev pub MayLeave : List Slot → Image → Type 0
MayLeave [] [] = Unit {0}
MayLeave (slot ∷ slots) (sector ∷ sectors) =
    ((sector ≡ slot.synced) ⊎ (sector ≡ slot.last)) × MayLeave slots sectors
MayLeave _ _ = ⊥

-- Each sector reads as its last value; a crash leaves that or the synced one. No past is kept: of the images since a
-- moment it is said that they are those of now.
abbrev pub slots_medium : List Slot → Medium
slots_medium slots = record {
  contents = last_values slots;
  images_now = MayLeave slots;
  moment = 0;
  images_since = λ t. MayLeave slots;
}
