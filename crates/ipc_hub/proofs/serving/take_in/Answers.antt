use Rattle.std.proofs.Common.{◌≡◌, ◌⊎◌, ◌+◌, ◌-◌, ◌<◌, ◌≤◌, ℕ, false, List, ◌++◌, length, take, drop, true, refl, sym, ap, ◌∙◌, subst, arith, inl, inr, rules}
use Rattle.std.proofs.Math.Nat.{eq-zero-or-pos}
use Rattle.std.proofs.Math.Seq.{take-add}
use Rattle.std.proofs.lemmas.List.{take_all, length-drop}
use Rattle.ipc_image.specs.Format.{longest_record}
use Rattle.ipc_store.specs.View.{StoreView, IsReadyFor, events_left}
use Rattle.ipc_hub.specs.Relations.Delivery.{unanswered_at}
use Rattle.ipc_hub.specs.Relations.Matches.{Awaits, TakesIn}
use Rattle.ipc_hub.specs.Relations.Requests.{CanTake, RunsOut}
use Rattle.ipc_hub.specs.Relations.Rows.{Table, hub_view, stored_view}
use Rattle.ipc_hub.proofs.Committing.{adds-both}
use Rattle.ipc_hub.proofs.Feeding.{one-left}
use Rattle.ipc_hub.proofs.Keeping.{empty-space}
use Rattle.ipc_hub.proofs.Receiving.{goes-further}
use Rattle.ipc_hub.proofs.Taking.{over-takes, nothing-takes, same-adds, takes-then}
use Rattle.ipc_hub.proofs.serving.take_in.Goals as goal

pub returns-then-not-is_open-clause-bytes : goal.returns-then-not-is_open-clause-bytes
returns-then-not-is_open-clause-bytes g c = search (rules, over-takes)

pub loop-taken-init : goal.loop-taken-init
loop-taken-init g c = record {
  within = omega arith;
  continues = record { limits = refl; numbers = refl; invariant = c.requires.invariant };
  bytes = nothing-takes g.D.SectorDisk.medium g.met.D.SectorDisk.only_now (stored_view c.args.store.now c.args.connections.now) c.args.conn
      c.args.moment.0 c.requires.invariant;
  first = λ _. (refl, refl);
  adds = same-adds c.args.store.now c.args.store.now refl;
  quiet = λ _. inl (refl, refl);
}

pub returns-then-not-has_room-clause-whole : goal.returns-then-not-has_room-clause-whole
returns-then-not-has_room-clause-whole g c none =
    let held = c.loop-taken.invariant in
    let space = empty-space (hub_view c.loop-taken.store.machine c.loop-taken.connections) c.args.conn c.has_room.ensures.sound
    held.continues.invariant none in
    elim (held.quiet none) [
      | inl same ↦
          let ready : IsReadyFor c.loop-taken.store longest_record 1 = rw same.0 (c.requires.room, one-left c.requires) in
          let never : true ≡ false = sym (c.has_room.ensures.room.1 (ready, space)) ∙ c.if-not-has_room.true in cc
      | inr out ↦ inr out
    ]

pub returns-then-not-has_room-clause-starts : goal.returns-then-not-has_room-clause-starts
returns-then-not-has_room-clause-starts g c space some =
    elim (eq-zero-or-pos c.loop-taken.taken) [
      | inl none ↦
          let first = c.loop-taken.invariant.first none in
          let ready : IsReadyFor c.loop-taken.store longest_record 1 = rw first.1 (c.requires.room, one-left c.requires) in
          let never : true ≡ false = sym (c.has_room.ensures.room.1 (ready, rw (first.0, first.1) space)) ∙ c.if-not-has_room.true in cc
      | inr more ↦ more
    ]

-- no event came, or one to which the reply is still to come
module _ {D : Type 0} (first old new : StoreView D) (front before after : Table) (conn moment taken more : ℕ) (some : 0 < more)
    (can : CanTake (stored_view first front) conn moment) where
  still-quiet : ((new ≡ old) × (unanswered_at (hub_view old.machine before) conn ≡ unanswered_at (hub_view new.machine after) conn))
      ⊎ ((unanswered_at (hub_view old.machine before) conn ≡ 0) × Awaits (hub_view new.machine after) conn moment
      × (2 ≤ events_left old → 1 ≤ events_left new))
      → ((old ≡ first) × (unanswered_at (hub_view first.machine front) conn ≡ unanswered_at (hub_view old.machine before) conn))
      ⊎ RunsOut (stored_view first front) (stored_view old before) conn moment taken
      → ((new ≡ first) × (unanswered_at (hub_view first.machine front) conn ≡ unanswered_at (hub_view new.machine after) conn))
      ⊎ RunsOut (stored_view first front) (stored_view new after) conn moment (taken + more)
  still-quiet (inl none) (inl same) = inl (none.0 ∙ same.0, same.1 ∙ none.1)
  still-quiet (inl none) (inr out) = inr (record {
    some = omega (arith, out.some);
    none = out.none;
    awaits = record {
      waits = omega (arith, out.awaits.waits, none.1);
      come = omega (arith, out.awaits.come, ap (λ (s : StoreView D). s.machine.state.clock) none.0);
    };
    left = omega (arith, out.left, ap (λ (s : StoreView D). events_left s) none.0);
  })
  still-quiet (inr came) (inl same) = inr (record {
    some = omega (arith, some);
    none = same.1 ∙ came.0;
    awaits = came.1;
    left = came.2 (elim can.left [
      | inl two ↦ omega (arith, two, ap (λ (s : StoreView D). events_left s) same.0)
      | inr waits ↦ absurd (omega (arith, waits.0.waits, same.1, came.0))
    ]);
  })
  still-quiet (inr came) (inr out) = absurd (omega (arith, out.awaits.waits, came.0))

pub loop-taken-preserved : goal.loop-taken-preserved
loop-taken-preserved g c =
    let piece = c.args.piece.now in
    let i = c.loop-taken.taken in
    let n = c.take-taken.result in
    let conn = c.args.conn in
    let held = c.loop-taken.invariant in
    let old = stored_view c.args.store.now c.args.connections.now in
    let mid = stored_view c.loop-taken.store c.loop-taken.connections in
    let new = stored_view c.take-taken.new.store c.take-taken.new.connections in
    let med = g.D.SectorDisk.medium in
    let rest : List ℕ = take (length piece - i) (drop i piece) in
    let whole : rest ≡ drop i piece = take_all (length piece - i) (drop i piece) (omega (arith, length-drop i piece)) in
    let some = c.take-taken.ensures.some (omega (arith, ap length whole, length-drop i piece)) in
    let took = c.take-taken.ensures.took in
    record {
      within = omega (arith, c.take-taken.ensures.within, ap length whole, length-drop i piece);
      continues = goes-further old.hub mid.hub new.hub held.continues.limits held.continues.numbers took.continues;
      bytes = subst (λ (bs : List ℕ). TakesIn med old new conn bs c.args.moment.0)
          (sym (take-add i n piece ∙ ap (λ (r : List ℕ). take i piece ++ take n r) (sym whole)))
          (takes-then med g.met.D.SectorDisk.only_now old mid new conn c.args.moment.0 (take i piece) (take n rest) held.bytes took.bytes);
      first = λ none. absurd (omega (arith, none, some));
      adds = adds-both (i + n) held.adds took.adds (omega (arith, some));
      quiet = λ none.
          let waits = took.answers none in
          still-quiet c.args.store.now mid.store new.store c.args.connections.now c.loop-taken.connections c.take-taken.new.connections conn
          c.args.moment.0 i n some c.requires waits.event (held.quiet waits.empty);
    }
