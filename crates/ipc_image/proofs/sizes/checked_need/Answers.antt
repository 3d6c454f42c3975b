use Rattle.std.proofs.Common.{arith}
use Rattle.ipc_image.proofs.Reading.{all-pass, are-of}
use Rattle.ipc_image.proofs.sizes.checked_need.Goals as goal

pub returns-clause-of : goal.returns-clause-of
returns-clause-of c version journal =
    are-of c.args.form c.requires.known c.args.limits.now version journal c.in_ok-area.ensures.within
    (omega (arith, c.in_ok-area.ensures.exact, c.in_ok-area.ensures.bounded))

pub returns-clause-none : goal.returns-clause-none
returns-clause-none c =
    all-pass c.args.form c.args.limits.now c.in_ok-area.ensures.within
    (omega (arith, c.in_ok-area.ensures.exact, c.in_ok-area.ensures.bounded))
