use Rattle.std.proofs.Common.{◌≡◌, ◌-◌, ◌^◌, Some, length, nat_lt, slice_get, arith}
use Rattle.std.specs.Prelude.{IsTrue}
use Rattle.ipc_base.proofs.CallerLemmas.{last_below, below_last}
use Rattle.ipc_state.specs.Rows.{item_row}
use Rattle.ipc_state.proofs.rows.ends_below.Goals as goal

pub returns-in-Some : goal.returns-in-Some
returns-in-Some g c rising =
    let xs = c.args.items.now in
    let last = c.in-Some.last.now in
    let n = c.args.number in
    let found : Some last ≡ slice_get xs (length xs - 1) = c.in-Some.ensures.value in (
      λ yes. last_below item_row xs last n (2 ^ 32) found rising (let lt : IsTrue (nat_lt last.number n) = yes in search (arith, lt)),
      λ below. let lt = below_last item_row xs last n found below in search (arith, lt),
    )
