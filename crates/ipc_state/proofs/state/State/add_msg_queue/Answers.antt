use Rattle.std.proofs.Common.{◌∙◌, refl, sym, subst, ap}
use Rattle.ipc_state.specs.contracts.state.State.{the_view}
use Rattle.ipc_state.specs.Held.{Held, left}
use Rattle.ipc_state.specs.State.{with_new_msg_queue}
use Rattle.ipc_state.proofs.EntryKeys.{of_keys}
use Rattle.ipc_state.proofs.Inside.{state_in, ready-in}
use Rattle.ipc_state.proofs.Reserved.{MayCome, come, comes}
use Rattle.ipc_state.proofs.state.State.add_msg_queue.Goals as goal

pub add-number-requires : goal.add-number-requires
add-number-requires g c =
    let t = c.self.inside in
    let may = subst (λ (m : Held). MayCome of_keys m.limits.msgmni m.state.msg g.key) (sym c.self.view_is) c.requires.1 in
    let h = comes of_keys t.msg g.key t.limits.msgmni (ready-in t _ (ap (λ (m : Held). m.ready) c.self.view_is ∙ c.requires.0)) may in
    record { ready = h.ready; unused = h.unused; positive = h.positive; number = h.number; may = tt }

pub returns-clause-added : goal.returns-clause-added
returns-clause-added g c =
    let t = c.self.inside in
    let put = come t.msg.ready g.key _ _ _ (ready-in t _ (ap (λ (m : Held). m.ready) c.self.view_is ∙ c.requires.0)) (λ x is. refl)
    c.add-number.ensures.added in
    c.release.ensures ∙ (λ i. left (the_view t) (record (state_in t) { msg = (put i).objects }))
    ∙ ap (λ (m : Held). left m (with_new_msg_queue m.limits m.state g.key c.args.perm)) c.self.view_is
