use Rattle.std.proofs.Common.{◌≡◌, ◌∙◌, ap₂, codes, false, refl}
use Rattle.std.proofs.lemmas.Result.{IfOk-weaker}
use Rattle.clap.specs.Words.{app_of, with_rule}
use Rattle.clap.specs.declared.builder.command.Command.TheViews.{out-Command}
use Rattle.ipc_command.specs.Command.{device_command}
use Rattle.ipc_command.proofs.Commands.{no_globals}
use Rattle.ipc_command.proofs.command.backup.Goals as goal

pub returns : goal.returns
returns c =
    let about : app_of c.about.result ≡ app_of c.new.result = rw c.about.ensures refl in
    let one : app_of c.in_ok-arg.field-0 ≡ device_command (codes "backup") =
    c.in_ok-arg.ensures.shape c.device_word.ensures.local ∙ ap₂ with_rule (about ∙ c.new.ensures.app) c.device_word.ensures.rule in
    let local : (out-Command c.about.result).has_globals ≡ false = rw c.about.ensures c.new.ensures.local in
    let one_local : (out-Command c.in_ok-arg.field-0).has_globals ≡ false =
    no_globals c.in_ok-arg.ensures.globals local c.device_word.ensures.local in
    record {
      app = IfOk-weaker c.arg-2.result _ _
          (λ command added. added.shape c.copy_word.ensures.local ∙ ap₂ with_rule one c.copy_word.ensures.rule)
          c.arg-2.ensures;
      local = IfOk-weaker c.arg-2.result _ _
          (λ command added. no_globals added.globals one_local c.copy_word.ensures.local)
          c.arg-2.ensures;
    }
