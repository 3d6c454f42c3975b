-- The form of a device: what a version of it fixes, and the places that are the same on each.
use Rattle.std.specs.Prelude.{◌≡◌, ◌⊎◌, ◌≤◌, ℕ, ◌+◌, max, min, Bool, true, false, nat_eq, if◌then◌else◌}
use Rattle.ipc_limits.specs.declared.limits.Limits.{Limits}
use Rattle.ipc_limits.specs.Limits.{standard_limits, standard_of_three}
use Rattle.ipc_wire.specs.Sizes.{greatest_length}
use Rattle.ipc_image.specs.declared.format.Format.{Format}

-- the one of the devices that are made if none is named
abbrev pub format : Format
format =
    record {
      version = 2;
      root = 2;
      journal = 257;
      limits = 19;
      numbers = 6;
      request = greatest_length;
      batch = 131072;
      most = standard_limits;
      marks = false;
      tags = false;
    }

-- the one before it, of the devices that can be upgraded
abbrev pub format_one : Format
format_one =
    record {
      version = 1;
      root = 1;
      journal = 257;
      limits = 16;
      numbers = 5;
      request = 8448;
      batch = 32768;
      -- the queues are smaller, and what it lacks is 1
      most = record standard_limits {
        version = 1;
        msgmni = 32;
        msgmax = 8192;
        msgmnb = 16384;
        shmmni = 1;
        shmmax = 1;
        shmall = 1;
      };
      marks = false;
      tags = false;
    }

-- the last one, of a device whose journal has so many sectors; this journal has no header
abbrev pub format_three : ℕ → Format
format_three journal =
    record {
      version = 3;
      root = 1;
      journal = journal;
      limits = 22;
      numbers = 6;
      request = greatest_length;
      batch = 131072;
      most = standard_of_three;
      marks = true;
      tags = true;
    }

-- the journal of such a device may have so many sectors
abbrev pub IsJournal : ℕ → Type 0
IsJournal n = (8 ≤ n) × (n ≤ 65535)

-- devices of these are made and opened
abbrev pub IsOpened : Format → Type 0
IsOpened form = (form ≡ format) ⊎ ((journal : ℕ) × IsJournal journal × (form ≡ format_three journal))

-- there is no other but the one that can be upgraded
abbrev pub IsFormat : Format → Type 0
IsFormat form = (form ≡ format_one) ⊎ IsOpened form

-- whether a version has System V segments, the sixth kind of objects
abbrev pub has_shms : Format → Bool
has_shms form = nat_eq form.numbers 6

-- whether a version has limits on the messages of a queue, the adjustments of a process, and the bytes of all POSIX
-- queues
abbrev pub has_bounds : Format → Bool
has_bounds form = nat_eq form.limits 22

-- A device may name a number of sectors that no journal has. It counts as the nearest that one may have, so each
-- device of version 3 has a form. The superblock is refused then, since it names another journal than its form has.
abbrev pub nearest_journal : ℕ → ℕ
nearest_journal n = max 8 (min 65535 n)

-- the form of a device that is opened, by the version and the journal that it names
abbrev pub opened_form : ℕ → ℕ → Format
opened_form version journal = if nat_eq version 3 then format_three (nearest_journal journal) else format

-- that of a device whose server has these limits
unfoldable pub device_form : Limits → Format
device_form limits = opened_form limits.version limits.journal

-- the first sector of the journal
abbrev pub journal_first : ℕ
journal_first = 3

-- the first sector of the object area, after the journal; it goes on to the end of the device
abbrev pub objects_first : Format → ℕ
objects_first form = journal_first + form.journal

-- the longest record of an event is that of a call: its length, its kind, its moment and its process, and the request
abbrev pub longest_record : ℕ
longest_record = 17 + format.request
