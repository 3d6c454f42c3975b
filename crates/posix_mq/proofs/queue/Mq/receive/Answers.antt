use Rattle.std.proofs.Common.{◌≡◌, map, Some, ap, sym, ◌∙◌, subst}
use Rattle.std.specs.Option.{IsSome, option_map}
use Rattle.std.proofs.lemmas.List.{map-append, take-map, drop-map}
use Rattle.std.proofs.lemmas.Option.{slice_get-map}
use Rattle.posix_mq.specs.Queue.{Queue, plain, next_to_receive}
use Rattle.posix_mq.proofs.Priorities.{next-some}
use Rattle.posix_mq.proofs.queue.Mq.receive.Goals as goal

pub unwrap-at-requires : goal.unwrap-at-requires
unwrap-at-requires c =
    let found = c.first_of_greatest.ensures in
    subst IsSome (sym (found ∙ ap (λ (q : Queue). next_to_receive q.messages) c.self.view_is)) (next-some c.args.self.now.messages c.requires)

pub returns-clause-message : goal.returns-clause-message
returns-clause-message c =
    let found = c.first_of_greatest.ensures in
    let ms = c.self.inside.messages.items in
    let at = c.unwrap-at.result in
    let next : next_to_receive (map plain ms) ≡ Some at = sym found ∙ c.unwrap-at.ensures in
    rw (← c.self.view_is, next) (slice_get-map plain ms at ∙ ap (option_map plain) c.remove.ensures.value)

pub returns-clause-queue : goal.returns-clause-queue
returns-clause-queue c =
    let found = c.first_of_greatest.ensures in
    rw (c.remove.ensures.rest, ← c.self.view_is, ← found, c.unwrap-at.ensures) (simp (map-append, take-map, drop-map))
