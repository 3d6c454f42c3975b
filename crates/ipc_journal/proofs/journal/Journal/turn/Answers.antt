-- All that stands there is of earlier epochs now.
use Rattle.ipc_journal.proofs.CallerLemmas.{Holds-older, Holds-turned}
use Rattle.ipc_journal.proofs.journal.Journal.turn.Goals as goal

pub returns-clause-empty : goal.returns-clause-empty
returns-clause-empty c = λ batches image. Holds-turned c.args.self.now.form c.args.self.now.range c.args.self.now.epoch c.args.epoch batches image c.requires

pub returns-clause-any_image : goal.returns-clause-any_image
returns-clause-any_image c = λ image. Holds-older c.args.self.now.form c.args.self.now.range c.args.epoch image
