use Rattle.std.proofs.Common.{sym}
use Rattle.ipc_script.proofs.LinesAndWords.{first_word, only_word}
use Rattle.ipc_script.proofs.line.word.Goals as goal

pub returns-in-Some : goal.returns-in-Some
returns-in-Some c = first_word c.args.text.now c.in-Some.space (sym c.in-Some.ensures)

pub returns-in-None : goal.returns-in-None
returns-in-None c = only_word c.args.text.now (sym c.in-None.ensures)
