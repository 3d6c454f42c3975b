use Rattle.std.proofs.Common.{length, refl, ap, arith}
use Rattle.std.proofs.lemmas.Result.{on_ok_weaker}
use Rattle.ipc_store.proofs.CallerLemmas.{Takes-none}
use Rattle.ipc_hub.proofs.Committing.{kept-spends}
use Rattle.ipc_hub.proofs.hub.Hub.make_space.Goals as goal

pub returns-then-has_room_for-clause-settles : goal.returns-then-has_room_for-clause-settles
returns-then-has_room_for-clause-settles g c =
    let takes = Takes-none g.D.SectorDisk.medium g.met.D.SectorDisk.only_now c.args.self.now.store in
    record { ok = λ limits h m. m; takes = takes; numbers = refl; refused = tt; spends = kept-spends c.args.self.now.store c.requires.left; honest = λ is. is }

pub returns-clause-room : goal.returns-clause-room
returns-clause-room g c = on_ok_weaker c.make_last.result (λ l. omega (arith, c.requires.fits, ap length l.records)) c.make_last.ensures.lasts

pub returns-clause-left : goal.returns-clause-left
returns-clause-left g c = on_ok_weaker c.make_last.result (λ l. l.left) c.make_last.ensures.lasts
