use Rattle.std.proofs.Common.{FitsSigned, w64, rules}
use Rattle.std.proofs.lemmas.Int.{to_z-of_z}
use Rattle.sysv_msg.proofs.Ranks.{type_found}
use Rattle.sysv_msg.proofs.select.least_type.Goals as goal

pub returns-clause-found : goal.returns-clause-found
returns-clause-found c =
    let fits : FitsSigned w64 c.type_of.result = search rules in
    rw to_z-of_z (type_found c.args.messages.now.items c.in_ok-rank.rank c.type_of.result fits c.type_of.ensures c.in_ok-rank.ensures.found)
