use Rattle.std.proofs.Common.{◌≡◌, ◌∙◌, ap₂, false, refl}
use Rattle.std.proofs.lemmas.Result.{IfOk-weaker}
use Rattle.clap.specs.Words.{app_of, with_rule}
use Rattle.clap.specs.declared.builder.command.Command.TheViews.{out-Command}
use Rattle.ipc_command.proofs.Commands.{no_globals}
use Rattle.ipc_command.proofs.command.device_command.Goals as goal

pub returns : goal.returns
returns c =
    let app : app_of c.about.result ≡ app_of c.new.result = rw c.about.ensures refl in
    let local : (out-Command c.about.result).has_globals ≡ false = rw c.about.ensures c.new.ensures.local in
    record {
      app = IfOk-weaker c.arg.result _ _
          (λ command added. added.shape c.device_word.ensures.local ∙ ap₂ with_rule (app ∙ c.new.ensures.app) c.device_word.ensures.rule)
          c.arg.ensures;
      local = IfOk-weaker c.arg.result _ _
          (λ command added. no_globals added.globals local c.device_word.ensures.local)
          c.arg.ensures;
    }
