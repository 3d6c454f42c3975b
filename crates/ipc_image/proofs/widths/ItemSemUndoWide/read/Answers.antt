use Rattle.std.proofs.Common.{◌<◌, ◌^◌, ℤ, sym, subst, arith}
use Rattle.std.specs.Prelude.{All}
use Rattle.ipc_state.proofs.CallerLemmas.{All-seen}
use Rattle.ipc_state.specs.Tables.{item_row}
use Rattle.sem_undo.specs.Undo.{Key, entry_of, IsKept}
use Rattle.ipc_image.proofs.AdjustmentLists.{own-fit}
use Rattle.ipc_image.proofs.widths.ItemSemUndoWide.read.Goals as goal

pub read_each-requires : goal.read_each-requires
read_each-requires c =
    let Kept : Key × ℤ → Type 0 = λ e. IsKept e.1 in
    All-seen Kept entry_of c.rows.result.now (subst (All Kept) (sym c.rows.ensures.rows) c.rows.ensures.sound)

pub returns : goal.returns
returns c =
    let pid : c.args.self.now.number < 2 ^ 32 = search (arith) in
    own-fit (item_row c.args.self.now) c.rows.result.now c.rows.ensures.rows pid c.read_each.ensures
