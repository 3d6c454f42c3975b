-- The release is the last call: it went well, or the disk failed.
use Rattle.std.proofs.Common.{take}
use Rattle.premises.specs.Remembering.{remembering_medium, remembering_counts}
use Rattle.premises.proofs.Visiting.{asks-well, asks-ill}
use Rattle.premises.proofs.lives.ask.Goals as goal

pub returns-in-Ok-release : goal.returns-in-Ok-release
returns-in-Ok-release c = λ limits opened h seen goes.
    asks-well remembering_medium limits opened c.args.hub.now c.feed.new.self c.release.new.self h seen 1 c.args.moment.0
    (take c.in-Ok.field-0 c.args.requests.now) goes c.in-Ok.ensures.ok c.in-Ok-release.ensures.ok c.release.ensures.takes

pub returns-in-Err-Device : goal.returns-in-Err-Device
returns-in-Err-Device c = λ limits opened h seen goes.
    asks-ill remembering_medium limits opened remembering_counts c.args.hub.now c.feed.new.self c.release.new.self h seen 1 c.args.moment.0
    (take c.in-Ok.field-0 c.args.requests.now) c.in-Err-Device.field-0 goes c.in-Ok.ensures.ok c.in-Err-Device.field-0-is c.in-Err-Device.ensures.refused
