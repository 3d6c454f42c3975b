use Rattle.std.proofs.Common.{arith}
use Rattle.ipc_image.proofs.Reading.{area-fails, within_passed}
use Rattle.ipc_image.proofs.sizes.area_within.Goals as goal

pub area_under-area-requires-clause-passed : goal.area_under-area-requires-clause-passed
area_under-area-requires-clause-passed c = within_passed c.args.form c.requires.known c.args.limits.now c.requires.within

pub returns-then-area-from-clause-first : goal.returns-then-area-from-clause-first
returns-then-area-from-clause-first c =
    area-fails c.args.form c.args.limits.now c.requires.within (omega (arith, c.area_under-area.ensures, c.from.ensures, c.if-area-from.true))
