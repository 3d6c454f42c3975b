use Rattle.std.proofs.Common.{rules}
use Rattle.std.proofs.lemmas.Grind.{common_steps}
use Rattle.ipc_keys.proofs.Entries.{Puts-itself}
use Rattle.ipc_keys.proofs.directory.Directory.reserve.Goals as goal

pub returns-else-is_none-clause-ok : goal.returns-else-is_none-clause-ok
returns-else-is_none-clause-ok g c = Puts-itself _ _ _ _ (grind (rules, common_steps))
