use Rattle.std.specs.Prelude.{nat_le}
use Rattle.ipc_limits.specs.Limits.{tests}
use Rattle.ipc_image.specs.Sizes.{area_in, most_area}
use Rattle.ipc_image.proofs.Reading.{first_before}
use Rattle.ipc_image.proofs.sizes.checked_area.Goals as goal

pub returns-in-Err-clause-first : goal.returns-in-Err-clause-first
returns-in-Err-clause-first c =
    first_before (tests c.args.form.most c.args.limits.now) (nat_le (area_in c.args.form c.args.limits.now) most_area) c.in-Err.fault.field
    c.in-Err.ensures.first
