-- What a journal value shows: its form, its sectors, what its batches take, how many they are, and what fits.
use Rattle.std.specs.Prelude.{ℕ, ◌+◌, ◌≤◌}
use Rattle.ipc_disk.specs.declared.range.Range.{Range}
use Rattle.ipc_journal.specs.declared.form.Form.{Form}
use Rattle.ipc_journal.specs.declared.form.Form.TheVariants.{Headed, Tagged}
use Rattle.ipc_journal.specs.declared.journal.Journal.{Journal}
use Rattle.ipc_journal.specs.Journal.{head, sectors_in}

-- its form
abbrev pub form_of : Journal → Form
form_of journal = journal.form

-- the sectors that it has
abbrev pub range_of : Journal → Range
range_of journal = journal.range

-- its epoch
abbrev pub epoch_of : Journal → ℕ
epoch_of journal = journal.epoch

-- how many sectors its batches take
abbrev pub used_of : Journal → ℕ
used_of journal = journal.used

-- how many batches it has
abbrev pub count_of : Journal → ℕ
count_of journal = journal.batches

-- so many bytes fit into the sectors that are left
abbrev pub Fits : Journal → ℕ → Type 0
Fits journal len =
    head (form_of journal) + used_of journal + sectors_in (form_of journal) len ≤ (range_of journal).count

-- the writes and the syncs of an append of so many bytes
abbrev pub append_writes : Form → ℕ → ℕ
append_writes Headed len = sectors_in Headed len + 1
append_writes Tagged len = sectors_in Tagged len

-- the writes of a new journal
abbrev pub create_writes : Form → Range → ℕ
create_writes Headed range = 1
create_writes Tagged range = range.count

abbrev pub append_syncs : Form → ℕ
append_syncs Headed = 2
append_syncs Tagged = 1
