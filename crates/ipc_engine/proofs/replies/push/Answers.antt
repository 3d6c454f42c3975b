use Rattle.std.proofs.Common.{[], ◌∷◌, ap, arith}
use Rattle.ipc_engine.specs.Buffer.{room_in}
use Rattle.ipc_engine.proofs.Buffers.{room_in-append}
use Rattle.ipc_engine.proofs.replies.push.Goals as goal

pub returns-clause-room : goal.returns-clause-room
returns-clause-room c =
    omega (arith, ap room_in c.push_reserved.ensures.items, room_in-append c.args.outcomes.now.items (c.args.outcome ∷ []))
