use Rattle.std.proofs.Common.{◌∙◌, ap₂}
use Rattle.std.proofs.lemmas.Result.{IfOk-weaker}
use Rattle.clap.specs.Words.{with_rule}
use Rattle.ipc_command.proofs.Commands.{no_globals}
use Rattle.ipc_command.proofs.command.format.Goals as goal

pub returns : goal.returns
returns c = record {
  app = IfOk-weaker c.arg.result _ _
      (λ command added. added.shape c.journal_option.ensures.local ∙ ap₂ with_rule c.in_ok-sized_command.ensures.app c.journal_option.ensures.rule)
      c.arg.ensures;
  local = IfOk-weaker c.arg.result _ _
      (λ command added. no_globals added.globals c.in_ok-sized_command.ensures.local c.journal_option.ensures.local)
      c.arg.ensures;
}
