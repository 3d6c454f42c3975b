use Rattle.std.proofs.Common.{Bool, length, List, sym, subst, ap, ◌∙◌, arith}
use Rattle.std.specs.Prelude.{◌&&◌}
use Rattle.std.specs.List.{IsDistinct}
use Rattle.ipc_state.specs.declared.parked.Object.{Object}
use Rattle.ipc_state.specs.Opening.{is_on, is_there_for}
use Rattle.ipc_state.specs.State.{objects_in}
use Rattle.ipc_engine.specs.Changes.{is_marked}
use Rattle.ipc_engine.proofs.Marks.{both-left, left-few, left-marked, left-once}
use Rattle.ipc_engine.proofs.changed.Changed.make_room.Goals as goal

pub returns-clause-only : goal.returns-clause-only
returns-clause-only c o is =
    let s = c.args.state.now in
    let old = c.args.self.now.marks.items in
    both-left (is_marked old o) (is_there_for (objects_in s.state) o)
    (sym (left-marked s.limits s.state c.requires.parts old o) ∙ (ap (λ (ms : List Object). is_marked ms o) (sym c.keep_there.ensures.items) ∙ is))

pub returns-clause-kept : goal.returns-clause-kept
returns-clause-kept c o there is =
    let s = c.args.state.now in
    let old = c.args.self.now.marks.items in
    ap (λ (ms : List Object). is_marked ms o) c.keep_there.ensures.items
    ∙ (left-marked s.limits s.state c.requires.parts old o ∙ (ap (λ (b : Bool). b && is_there_for (objects_in s.state) o) is ∙ there))

pub returns-clause-room : goal.returns-clause-room
returns-clause-room c =
    let s = c.args.state.now in
    let few = left-few s.limits s.state c.requires.parts c.args.self.now.marks.items c.args.self.now.once in
    omega (arith, few, ap (λ (ms : List Object). length ms) c.keep_there.ensures.items, c.keep_there.ensures.capacity, c.requires.capacity)

pub invariant_of-self : goal.invariant_of-self
invariant_of-self c =
    record {
      once = let s = c.args.state.now in
          subst (λ (ms : List Object). IsDistinct is_on ms) (sym c.keep_there.ensures.items)
          (left-once (is_there_for (objects_in s.state)) c.args.self.now.marks.items c.args.self.now.once);
    }
