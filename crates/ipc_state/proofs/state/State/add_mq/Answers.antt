use Rattle.std.proofs.Common.{◌∙◌, refl, sym, subst, ap, None}
use Rattle.posix_mq.specs.Queue.{empty_queue}
use Rattle.ipc_state.specs.contracts.state.State.{the_view}
use Rattle.ipc_state.specs.Held.{Held, left}
use Rattle.ipc_state.specs.Numbered.{with_new}
use Rattle.ipc_state.specs.State.{with_new_mq}
use Rattle.ipc_state.proofs.EntryKeys.{of_names}
use Rattle.ipc_state.proofs.Inside.{state_in, ready-in}
use Rattle.ipc_state.proofs.Reserved.{MayCome, come, comes}
use Rattle.ipc_state.proofs.state.State.add_mq.Goals as goal

pub add-number-requires : goal.add-number-requires
add-number-requires g c =
    let t = c.self.inside in
    let may = subst (λ (m : Held). MayCome of_names m.limits.queues m.state.mq g.name) (sym c.self.view_is) c.requires.1 in
    let h = comes of_names t.mq g.name t.limits.queues (ready-in t _ (ap (λ (m : Held). m.ready) c.self.view_is ∙ c.requires.0)) may in
    record { ready = h.ready; unused = h.unused; positive = h.positive; number = h.number; may = tt }

pub returns-clause-added : goal.returns-clause-added
returns-clause-added g c =
    let t = c.self.inside in
    let put = come t.mq.ready g.name _ _ _ (ready-in t _ (ap (λ (m : Held). m.ready) c.self.view_is ∙ c.requires.0)) (λ x is. refl)
    c.add-number.ensures.added in
    c.release.ensures ∙ (λ i. left (the_view t) (record (state_in t) { mq = (put i).objects }))
    ∙ (λ i. left (the_view t) (record (state_in t) {
      mq = with_new t.mq.objects (record { bound = g.name; perm = c.new-perm.ensures.perm i; object = empty_queue c.args.maxmsg c.args.msgsize None });
    }))
    ∙ ap (λ (m : Held). left m (with_new_mq m.state g.name c.args.cred c.args.mode (empty_queue c.args.maxmsg c.args.msgsize None))) c.self.view_is
