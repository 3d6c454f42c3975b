use Rattle.std.proofs.Common.{arith}
use Rattle.ipc_keys.specs.declared.check.NameKind.TheVariants as names
use Rattle.ipc_state.specs.Touching.{changes_by_exit}
use Rattle.ipc_engine.proofs.Marks.{room-marked}
use Rattle.ipc_engine.proofs.changed.Changed.mark_leaving.Goals as goal

pub mark_exit-requires : goal.mark_exit-requires
mark_exit-requires c =
    let h = c.requires.parts in
    omega (
      arith,
      c.make_room.ensures.room,
      h.semset.held.bound.numbered.count,
      h.shm.held.bound.numbered.count,
      (h.named names.Mq).held.bound.numbered.count,
    )

pub returns-clause-marked : goal.returns-clause-marked
returns-clause-marked c =
    let s = c.args.state.now.state in
    room-marked s (changes_by_exit c.args.pid s) c.args.self.now.marks.items c.make_room.new.self.marks.items _ c.make_room.ensures.only
    c.make_room.ensures.kept c.mark_exit.ensures.marked
