use Rattle.std.proofs.lemmas.Option.{IfSome_then}
use Rattle.ipc_store.specs.Histories.{new_past}
use Rattle.ipc_store.specs.Image.{own_limits}
use Rattle.premises.proofs.lives.one_life.Goals as goal

pub returns : goal.returns
returns c = IfSome_then c.live.result c.live.ensures (λ store lives. lives (new_past (own_limits c.args.limits.now)) c.in_ok-disk.ensures)
