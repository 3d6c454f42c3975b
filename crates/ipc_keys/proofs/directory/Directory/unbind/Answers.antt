use Rattle.std.proofs.Common.{sym, rules}
use Rattle.std.proofs.lemmas.Grind.{common_steps}
use Rattle.ipc_keys.proofs.Entries.{Puts-itself, Puts-removed}
use Rattle.ipc_keys.proofs.directory.Directory.unbind.Goals as goal

pub returns-in-Some : goal.returns-in-Some
returns-in-Some g c =
    let removed = c.swap_remove_index in
    Puts-removed _ _ (g.met.Q.Query.respects_eq c.args.key) c.args.self.now.numbers removed.new.self c.in-Some.place removed.result
    c.unwrap.result (sym c.in-Some.ensures.index) removed.ensures.entry c.unwrap.ensures removed.ensures.updates

pub returns-in_default : goal.returns-in_default
returns-in_default g c = Puts-itself _ _ _ _ (grind (rules, common_steps))
