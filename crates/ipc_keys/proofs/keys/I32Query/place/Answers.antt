use Rattle.std.proofs.Common.{w32}
use Rattle.std.proofs.lemmas.Int.{to_z-of_z}
use Rattle.ipc_keys.proofs.keys.I32Query.place.Goals as goal

pub returns : goal.returns
returns c =
    let key = to_z-of_z w32 c.args.self c.ranges.self in
    simp key at c.get_index_of.ensures
