use Rattle.std.proofs.Common.{◌≡◌, ◌∙◌, ℕ, ℤ, Some, None, length, sym, subst, ap}
use Rattle.sysv_sem.specs.Set.{Set, new_set}
use Rattle.ipc_state.specs.contracts.state.State.{the_view}
use Rattle.ipc_state.specs.Held.{Held, left}
use Rattle.ipc_state.specs.Numbered.{with_new}
use Rattle.ipc_state.specs.State.{with_new_semset}
use Rattle.ipc_state.specs.Tables.{HeldObjects}
use Rattle.ipc_state.proofs.EntryKeys.{of_keys}
use Rattle.ipc_state.proofs.Inside.{state_in, ready-in}
use Rattle.ipc_state.proofs.Reserved.{MayCome, asked-key, come, comes}
use Rattle.ipc_state.proofs.state.State.add_semset.Goals as goal

abbrev semaphores : Set → ℕ
semaphores x = length x.semaphores

pub add-number-requires : goal.add-number-requires
add-number-requires g c =
    let t = c.self.inside in
    let may = subst (λ (m : Held). MayCome of_keys m.limits.semmni m.state.semset g.asked.0) (sym c.self.view_is) c.requires.1 in
    let h = comes of_keys t.semset g.asked.0 t.limits.semmni
    (asked-key semaphores t.semset.ready g.asked.0 g.asked.1 (ready-in t _ (ap (λ (m : Held). m.ready) c.self.view_is ∙ c.requires.0))) may in
    record { ready = h.ready; unused = h.unused; positive = h.positive; number = h.number; may = tt }

pub returns-clause-added : goal.returns-clause-added
returns-clause-added g c =
    let t = c.self.inside in
    let ready = ready-in t _ (ap (λ (m : Held). m.ready) c.self.view_is ∙ c.requires.0) in
    let size : (x : Set) → t.semset.ready ≡ Some (g.asked.0, x) → length x.semaphores ≡ g.asked.1 = (λ x is. let has = rw is at ready in cc) in
    let made : ℕ → HeldObjects ℤ Set = (λ n. record {
      objects = with_new t.semset.objects (record { bound = g.asked.0; perm = c.args.perm; object = new_set n t.clock.0 });
      ready = None;
    }) in
    let put = come t.semset.ready g.asked.0 _ _ (made g.asked.1) (asked-key semaphores t.semset.ready g.asked.0 g.asked.1 ready) (λ x is. ap made (size x is))
    c.add-number.ensures.added in
    c.release.ensures ∙ (λ i. left (the_view t) (record (state_in t) { semset = (put i).objects }))
    ∙ ap (λ (m : Held). left m (with_new_semset m.state g.asked.0 c.args.perm g.asked.1)) c.self.view_is
