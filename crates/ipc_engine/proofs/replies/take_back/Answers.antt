use Rattle.std.proofs.Common.{◌≡◌, [], ◌∷◌, ◌++◌, ap, ◌∙◌, arith}
use Rattle.std.specs.Option.{option_to_list}
use Rattle.ipc_engine.specs.Buffer.{room_in}
use Rattle.ipc_engine.specs.declared.event.Outcome.{Outcome}
use Rattle.ipc_engine.proofs.Buffers.{room_in-append}
use Rattle.ipc_engine.proofs.replies.take_back.Goals as goal

pub loop-outcome-preserved : goal.loop-outcome-preserved
loop-outcome-preserved c =
    let rest = c.pop.new.self.items in
    let last : c.loop-outcome.outcomes.items ≡ rest ++ c.in-Some.outcome ∷ [] =
    c.pop.ensures.items ∙ ap (λ (r : _). rest ++ option_to_list {X = Outcome} r) c.in-Some.is in
    (omega arith, omega (arith, c.loop-outcome.invariant.1, ap room_in last, room_in-append rest (c.in-Some.outcome ∷ []), c.give_back.ensures))
