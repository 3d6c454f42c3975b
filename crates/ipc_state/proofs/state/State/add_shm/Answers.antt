use Rattle.std.proofs.Common.{◌≡◌, ◌∙◌, ℤ, Option, Some, None, sym, subst, ap}
use Rattle.std.specs.Prelude.{option_map, unwrap_or}
use Rattle.shm_segment.specs.Segment.{Segment}
use Rattle.shm_segment.specs.SysSegment.{SysSegment, new_segment}
use Rattle.ipc_state.specs.contracts.state.State.{the_view}
use Rattle.ipc_state.specs.Held.{Held, left, zero_bytes}
use Rattle.ipc_state.specs.Numbered.{with_new}
use Rattle.ipc_state.specs.State.{with_new_shm}
use Rattle.ipc_state.specs.Tables.{HeldObjects}
use Rattle.ipc_state.proofs.EntryKeys.{of_keys}
use Rattle.ipc_state.proofs.Inside.{state_in, ready-in}
use Rattle.ipc_state.proofs.Reserved.{MayCome, asked-key, come, comes}
use Rattle.ipc_state.proofs.state.State.add_shm.Goals as goal

abbrev memory : SysSegment → Segment
memory x = x.memory

-- what is ready has these bytes
zeros-of : (ready : Option (ℤ × SysSegment)) (key : ℤ) (x : SysSegment) (zeros : Segment)
    → option_map {U = ℤ × Segment} (λ r. (r.0, memory r.1)) ready ≡ Some (key, zeros) → ready ≡ Some (key, x) → x.memory ≡ zeros
zeros-of ready key x zeros has is =
    ap (λ (o : Option (ℤ × Segment)). unwrap_or (option_map (λ (a : ℤ × Segment). a.1) o) zeros)
    (ap (option_map {U = ℤ × Segment} (λ (r : ℤ × SysSegment). (r.0, memory r.1))) (sym is) ∙ has)

pub add-number-requires : goal.add-number-requires
add-number-requires g c =
    let t = c.self.inside in
    let may = subst (λ (m : Held). MayCome of_keys m.limits.shmmni m.state.shm g.asked.0) (sym c.self.view_is) c.requires.1 in
    let h = comes of_keys t.shm g.asked.0 t.limits.shmmni
    (asked-key memory t.shm.ready g.asked.0 (zero_bytes g.asked.1) (ready-in t _ (ap (λ (m : Held). m.ready) c.self.view_is ∙ c.requires.0))) may in
    record { ready = h.ready; unused = h.unused; positive = h.positive; number = h.number; may = tt }

pub returns-clause-added : goal.returns-clause-added
returns-clause-added g c =
    let t = c.self.inside in
    let zeros = zero_bytes g.asked.1 in
    let ready = ready-in t _ (ap (λ (m : Held). m.ready) c.self.view_is ∙ c.requires.0) in
    let bytes : (x : SysSegment) → t.shm.ready ≡ Some (g.asked.0, x) → x.memory ≡ zeros = (λ x is. zeros-of t.shm.ready g.asked.0 x zeros ready is) in
    let made : Segment → HeldObjects ℤ SysSegment = (λ m. record {
      objects = with_new t.shm.objects
          (record { bound = g.asked.0; perm = c.args.perm; object = record (new_segment 0 c.args.pid t.clock.0) { memory = m } });
      ready = None;
    }) in
    let put = come t.shm.ready g.asked.0 _ _ (made zeros) (asked-key memory t.shm.ready g.asked.0 zeros ready) (λ x is. ap made (bytes x is))
    c.add-number.ensures.added in
    c.release.ensures ∙ (λ i. left (the_view t) (record (state_in t) { shm = (put i).objects }))
    ∙ ap (λ (m : Held). left m (with_new_shm m.state g.asked.0 c.args.perm c.args.pid.0 g.asked.1)) c.self.view_is
