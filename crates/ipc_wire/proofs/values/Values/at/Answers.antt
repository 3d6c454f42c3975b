use Rattle.std.proofs.Common.{◌∙◌, ap, Some, sym, arith}
use Rattle.ipc_wire.proofs.PairNumbers.{number_at, numbers_count}
use Rattle.ipc_wire.proofs.values.Values.at.Goals as goal

pub returns : goal.returns
returns c =
    let bytes = c.args.self.now.bytes.now in
    number_at bytes c.args.place (omega (arith, c.requires, numbers_count bytes)) ∙ ap (λ n. Some n) (sym c.from_be_bytes.ensures)
