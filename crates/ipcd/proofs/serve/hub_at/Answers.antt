use Rattle.std.proofs.Common.{◌≡◌, ◌∙◌, ap, List, [], ◌∷◌, refl, ℕ}
use Rattle.ipc_base.specs.Table.{keys_of}
use Rattle.ipcd.proofs.serve.hub_at.Goals as goal

-- a table without a key has no entry
nobody : {X : Type 0} (table : List (ℕ × X)) → keys_of table ≡ [] → table ≡ []
nobody [] none = refl
nobody (entry ∷ rest) none = cc

pub returns-in-Ok : goal.returns-in-Ok
returns-in-Ok g c = nobody c.tick.new.self.hub.connections (c.tick.ensures.numbers ∙ ap keys_of c.new-hub.ensures.empty)
