use Rattle.std.proofs.Common.{sym, rules, ◌∙◌}
use Rattle.std.proofs.lemmas.Grind.{common_steps}
use Rattle.ipc_keys.proofs.Entries.{Puts-written}
use Rattle.ipc_keys.proofs.directory.Directory.bind.Goals as goal

pub returns : goal.returns
returns g c =
    let m = c.args.self.now.numbers in
    Puts-written _ _ (g.met.Q.Query.respects_eq c.args.key) g.met.K.Eq.laws m c.unwrap-place.result c.args.number
    (sym c.place.ensures.index ∙ c.unwrap-place.ensures) (grind (rules, common_steps)) c.place.ensures.unique
