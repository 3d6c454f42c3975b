use Rattle.std.proofs.Common.{◌≡◌, ◌∙◌, ap₂, codes, false, refl}
use Rattle.std.proofs.lemmas.Result.{IfOk-weaker}
use Rattle.clap.specs.Words.{app_of, with_rule}
use Rattle.clap.specs.declared.builder.command.Command.TheViews.{out-Command}
use Rattle.ipc_command.specs.Command.{device_command, socket_rule, turns_rule}
use Rattle.ipc_command.proofs.Commands.{no_globals}
use Rattle.ipc_command.proofs.command.serve.Goals as goal

pub returns : goal.returns
returns c =
    let about : app_of c.about.result ≡ app_of c.new.result = rw c.about.ensures refl in
    let one : app_of c.in_ok-arg.field-0 ≡ device_command (codes "serve") =
    c.in_ok-arg.ensures.shape c.device_word.ensures.local ∙ ap₂ with_rule (about ∙ c.new.ensures.app) c.device_word.ensures.rule in
    let two : app_of c.in_ok-arg-2.field-0 ≡ with_rule (device_command (codes "serve")) socket_rule =
    c.in_ok-arg-2.ensures.shape c.socket_word.ensures.local ∙ ap₂ with_rule one c.socket_word.ensures.rule in
    let three : app_of c.in_ok-arg-3.field-0 ≡ with_rule (with_rule (device_command (codes "serve")) socket_rule) turns_rule =
    c.in_ok-arg-3.ensures.shape c.turns_option.ensures.local ∙ ap₂ with_rule two c.turns_option.ensures.rule in
    let local : (out-Command c.about.result).has_globals ≡ false = rw c.about.ensures c.new.ensures.local in
    let one_local : (out-Command c.in_ok-arg.field-0).has_globals ≡ false =
    no_globals c.in_ok-arg.ensures.globals local c.device_word.ensures.local in
    let two_local : (out-Command c.in_ok-arg-2.field-0).has_globals ≡ false =
    no_globals c.in_ok-arg-2.ensures.globals one_local c.socket_word.ensures.local in
    let three_local = no_globals c.in_ok-arg-3.ensures.globals two_local c.turns_option.ensures.local in
    record {
      app = IfOk-weaker c.arg-4.result _ _
          (λ command added. added.shape c.metrics_option.ensures.local ∙ ap₂ with_rule three c.metrics_option.ensures.rule)
          c.arg-4.ensures;
      local = IfOk-weaker c.arg-4.result _ _
          (λ command added. no_globals added.globals three_local c.metrics_option.ensures.local)
          c.arg-4.ensures;
    }
