use Rattle.std.proofs.Common.{sym}
use Rattle.ipc_script.proofs.LinesAndWords.{first_line, only_line}
use Rattle.ipc_script.proofs.line.first_line.Goals as goal

pub returns-in-Some-clause-lines : goal.returns-in-Some-clause-lines
returns-in-Some-clause-lines c = first_line c.args.text.now c.in-Some.end (sym c.in-Some.ensures)

pub returns-in-None-clause-lines : goal.returns-in-None-clause-lines
returns-in-None-clause-lines c = only_line c.args.text.now (sym c.in-None.ensures) c.requires
