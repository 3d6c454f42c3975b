-- The descriptors of one process, by which it names the POSIX objects that it has open (mq_open(3), open(2)). A new
-- descriptor is the lowest number, from 0, that the process does not use.
use Rattle.std.specs.Prelude.{ℕ, ◌+◌, List, [], ◌∷◌, if◌then◌else◌, nat_eq, option_map, unwrap_or}
use Rattle.ipc_base.specs.Table.{value_at, with_value, with_entry}
use Rattle.ipc_state.specs.declared.descriptors.Descriptor.{Descriptor}
use Rattle.ipc_state.specs.declared.descriptors.DescriptorRow.{DescriptorRow}

-- the descriptors by rising number
abbrev pub Table : Type 0
Table = List (ℕ × Descriptor)

-- for so many there is room: under any limits a process has no more
abbrev pub most_descriptors : ℕ
most_descriptors = 32

-- the lowest number that is not in use, if each below `low` is and the table has those from there on
abbrev pub unused_from : ℕ → Table → ℕ
unused_from low [] = low
unused_from low (e ∷ es) = if nat_eq e.0 low then unused_from (low + 1) es else low

-- the lowest number that is not in use
abbrev pub lowest_unused : Table → ℕ
lowest_unused table = unused_from 0 table

-- with a descriptor more, under the lowest number that is not in use
abbrev pub opened : Table → Descriptor → Table
opened table d = with_entry table (lowest_unused table) d

-- with other flags at a number that is in use; else as it is
abbrev pub with_flags : Table → ℕ → ℕ → Table
with_flags table fd flags =
    unwrap_or (option_map (λ d. with_value nat_eq table fd (record d { flags = flags })) (value_at nat_eq table fd))
    table

-- a row, as what stands in a table
abbrev pub descriptor_row : DescriptorRow → ℕ × Descriptor
descriptor_row r = (r.fd, r.descriptor)
