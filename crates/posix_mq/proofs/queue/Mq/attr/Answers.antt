use Rattle.std.proofs.Common.{◌<◌, ◌^◌, get_or, subst, All}
use Rattle.std.proofs.lemmas.List.Elements.{All-map}
use Rattle.posix_mq.specs.Queue.{Queue, PlainMessage, plain}
use Rattle.posix_mq.proofs.queue.Mq.attr.Goals as goal

pub returns-clause-priorities : goal.returns-clause-priorities
returns-clause-priorities c =
    let P : PlainMessage → Type 0 = λ m. m.priority < 2 ^ 32 in
    subst (λ (q : Queue). All P q.messages) c.self.view_is
    (All-map P plain c.self.inside.messages.items (λ k d h. (get_or c.self.inside.messages.items k d).ranged))
