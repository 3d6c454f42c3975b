-- What a heap keeps in memory, while it is opened.
use Rattle.std.specs.Prelude.{◌≡◌, ℕ, ◌+◌, ◌*◌, ◌/◌, ◌≤◌, [], vec_capacity}
use Rattle.ipc_disk.specs.declared.range.Range.{Range}
use Rattle.ipc_disk.specs.Medium.{Image}
use Rattle.ipc_heap.specs.declared.opening.Parts.{Parts}
use Rattle.ipc_heap.specs.Damage.{IsTable, chain_for, words_of_table}
use Rattle.ipc_heap.specs.Heap.{table_sectors_for}
use Rattle.ipc_heap.specs.Relations.Opening.{AreNoted}

-- Nothing is in it yet. There is room for all words of any objects in the range, and of a table of so many bytes.
pub record HaveRoom (range : Range) (len : ℕ) (parts : Parts) : Type 0 where
  pub no_words : parts.words.items ≡ []
  pub no_table : parts.table.items ≡ []
  pub none_noted : AreNoted range [] [] parts.uses
  pub words : 5 * range.count + 5 ≤ vec_capacity parts.words
  pub words_there : len / 4 ≤ vec_capacity parts.words
  pub table : table_sectors_for (5 * range.count + 5) ≤ vec_capacity parts.table
  pub table_there : chain_for len ≤ vec_capacity parts.table

-- an image has this table, and these are its words
pub record AreThere (range : Range) (root : ℕ) (image : Image) (parts : Parts) : Type 0 where
  pub is_table : IsTable range root image parts.table.items
  pub words : parts.words.items ≡ words_of_table root image parts.table.items
