use Rattle.std.proofs.Common.{sym, subst}
use Rattle.ipc_image.specs.declared.format.Format.{Format}
use Rattle.ipc_image.specs.Superblock.{AreOf}
use Rattle.ipc_image.proofs.CallerLemmas.{last-of, of-format}
use Rattle.ipcd.proofs.device.limits_for.Goals as goal

pub returns-clause-old : goal.returns-clause-old
returns-clause-old c = last-of c.limits_of.result c.limits_of.ensures.version c.limits_of.ensures.journal c.limits_of.ensures.within

pub returns-clause-own : goal.returns-clause-own
returns-clause-own c =
    let limits = c.limits_of.result in
    let of = last-of limits c.limits_of.ensures.version c.limits_of.ensures.journal c.limits_of.ensures.within in
    subst (λ (f : Format). AreOf f limits) (sym (of-format limits of)) of
