-- What the client sees are the bytes of frames.
use Rattle.std.proofs.Common.{◌∙◌, take}
use Rattle.premises.specs.Remembering.{remembering_medium}
use Rattle.premises.proofs.Visiting.{greets}
use Rattle.premises.proofs.lives.greet.Goals as goal

pub returns-in-Ok-from_slice : goal.returns-in-Ok-from_slice
returns-in-Ok-from_slice c = λ limits opened h goes.
    let copy = c.in-Ok-from_slice.ensures.items in
    greets remembering_medium limits opened c.args.hub.now c.connect.new.self c.feed.new.self c.release.new.self h 1 c.args.moment.0
    (take c.in-Ok-feed.field-0 c.args.hello.now) c.in-Ok-from_slice.seen.items goes c.in-Ok.ensures.ok c.connect.ensures.store
    c.in-Ok-feed.ensures.ok c.in-Ok-release.ensures.ok c.release.ensures.takes
    (λ l confirmed h matches. copy ∙ c.output.ensures.shown l confirmed h matches) (copy ∙ c.output.ensures.bytes)
