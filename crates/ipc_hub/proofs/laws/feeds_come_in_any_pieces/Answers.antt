use Rattle.ipc_hub.proofs.Unmarked.{fed-pieces}
use Rattle.ipc_hub.proofs.laws.feeds_come_in_any_pieces.Goals as goal

pub returns : goal.returns
returns c limits h conn moment bytes more refused later =
    fed-pieces limits (c.nobody_waits_who_could_go_on.ensures.early limits) (c.event_sets_clock.ensures limits) moment
    (λ s early late. c.late_tick_does_nothing.ensures.tick limits s moment early late) h conn bytes more refused later
