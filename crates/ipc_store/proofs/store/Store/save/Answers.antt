-- Each exit: what a crash leaves, and the history of the store.
use Rattle.std.proofs.Common.{sym, ap, ◌∙◌}
use Rattle.ipc_store.proofs.Lives.{takes-none, takes-either, leaves-either}
use Rattle.ipc_store.proofs.Meanwhile.{readable-none}
use Rattle.ipc_store.proofs.store.Store.save.Goals as goal

pub returns-then-self-clause-takes : goal.returns-then-self-clause-takes
returns-then-self-clause-takes g c = takes-none g.D.SectorDisk.medium g.met.D.SectorDisk.only_now c.args.self.now

pub returns-then-self-clause-meanwhile : goal.returns-then-self-clause-meanwhile
returns-then-self-clause-meanwhile g c = readable-none g.D.SectorDisk.medium c.args.self.now (g.met.D.SectorDisk.only_now _)

pub returns-clause-takes : goal.returns-clause-takes
returns-clause-takes g c =
    takes-either g.D.SectorDisk.medium g.met.D.SectorDisk.only_now c.args.self.now c.save_state.new.self
    (sym (ap (λ v. v.stopped) c.self.view_is) ∙ c.if-self.false) (ap (λ v. v.limits) c.save_state.ensures.commits.machine)
    c.save_state.ensures.any_moment c.save_state.result c.save_state.ensures.commits.confirmed c.save_state.ensures.matches
    c.save_state.ensures.commits.unconfirmed c.save_state.ensures.commits.stops c.save_state.ensures.same.honest.0
    c.save_state.ensures.meanwhile

pub returns-clause-left : goal.returns-clause-left
returns-clause-left g c =
    leaves-either g.D.SectorDisk.medium g.met.D.SectorDisk.only_now c.args.self.now c.save_state.new.self
    (sym (ap (λ v. v.stopped) c.self.view_is) ∙ c.if-self.false) (ap (λ v. v.limits) c.save_state.ensures.commits.machine)
    c.save_state.ensures.any_moment c.save_state.ensures.same.honest.0
