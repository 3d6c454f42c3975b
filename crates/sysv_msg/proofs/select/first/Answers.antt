use Rattle.std.proofs.Common.{sym, arith}
use Rattle.sysv_msg.proofs.Ranks.{position_of_all}
use Rattle.sysv_msg.proofs.select.first.Goals as goal

pub returns-else-is_empty : goal.returns-else-is_empty
returns-else-is_empty c = sym (position_of_all c.args.messages.now.items (grind (arith, c.is_empty.ensures, c.if-is_empty.false)))
