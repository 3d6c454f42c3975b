use Rattle.std.proofs.Common.{arith, ap, length}
use Rattle.std.proofs.lemmas.Result.{IfErr-weaker, on_ok_weaker}
use Rattle.ipc_store.proofs.CallerLemmas.{Takes-none}
use Rattle.ipc_hub.proofs.Committing.{asked-left, by-halts}
use Rattle.ipc_hub.proofs.hub.Hub.release.Goals as goal

pub returns-then-has_stopped-clause-takes : goal.returns-then-has_stopped-clause-takes
returns-then-has_stopped-clause-takes g c = Takes-none g.D.SectorDisk.medium g.met.D.SectorDisk.only_now c.args.self.now.store

pub returns-clause-ready : goal.returns-clause-ready
returns-clause-ready g c =
    let left = asked-left c.args.self.now c.has_stopped.ensures c.if-has_stopped.false in
    on_ok_weaker c.make_last.result (λ l. (omega (arith, ap length l.records), omega (arith, l.left, left))) c.make_last.ensures.lasts

pub returns-clause-refused : goal.returns-clause-refused
returns-clause-refused g c =
    IfErr-weaker c.make_last.result _ _ (by-halts g.D.SectorDisk.medium g.D.SectorDisk.counts c.args.self.now c.make_last.new.self)
    c.make_last.ensures.settles.refused
