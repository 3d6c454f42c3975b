use Rattle.std.proofs.lemmas.Option.{IfSome_then}
use Rattle.std.proofs.Common.{[]}
use Rattle.ipc_limits.specs.declared.limits.Limits.{Limits}
use Rattle.ipc_state.specs.State.{restart}
use Rattle.ipc_image.specs.Format.{format}
use Rattle.ipc_store.specs.Image.{as_of}
use Rattle.premises.proofs.lives.one_life_after_an_upgrade.Goals as goal

pub returns : goal.returns
returns c =
    let limits : Limits = as_of format c.args.limits.now in
    let up = c.in-Ok.ensures.ok (c.disks_in_memory_are_honest.ensures.memory c.args.disk) in
    IfSome_then c.live.result c.live.ensures (λ store lives. (
      up.own,
      (
        up.state,
        up.stood,
        lives (record { limits = limits; base = restart limits up.state; events = [] })
            (record { honest = up.honest; stands = up.stands }),
      ),
    ))
