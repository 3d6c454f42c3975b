use Rattle.std.proofs.Common.{◌≡◌, [], rules}
use Rattle.sem_undo.proofs.Tables.{empty-rows}
use Rattle.sem_undo.proofs.undo.SemUndo.clear_all.Goals as goal

pub returns : goal.returns
returns c = let none : c.clear.new.self.items ≡ [] = search rules in empty-rows c.clear.new.self.items none
