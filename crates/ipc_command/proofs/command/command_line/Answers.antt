use Rattle.std.proofs.Common.{◌≡◌, ◌∙◌, ap, true}
use Rattle.std.proofs.lemmas.Result.{IfOk-weaker}
use Rattle.clap.specs.Words.{App, app_of}
use Rattle.ipc_command.specs.Command.{ipcd_command}
use Rattle.ipc_command.proofs.Commands.{below}
use Rattle.ipc_command.proofs.command.command_line.Goals as goal

pub returns : goal.returns
returns c =
    let ipcd : app_of c.subcommand_required.result ≡ ipcd_command =
    rw (c.subcommand_required.ensures, c.version.ensures, c.about.ensures)
    (ap (λ (a : App). record a { top = record a.top { has_version = true; subcommand_required = true } })
    c.new.ensures.app) in
    let one = c.in_ok-subcommand.ensures.shape c.in_ok-replay.ensures.local ∙ below _ _ _ _ ipcd c.in_ok-replay.ensures.app in
    let two = c.in_ok-subcommand-2.ensures.shape c.in_ok-format.ensures.local ∙ below _ _ _ _ one c.in_ok-format.ensures.app in
    let three = c.in_ok-subcommand-3.ensures.shape c.in_ok-upgrade.ensures.local ∙ below _ _ _ _ two c.in_ok-upgrade.ensures.app in
    let four = c.in_ok-subcommand-4.ensures.shape c.in_ok-run.ensures.local ∙ below _ _ _ _ three c.in_ok-run.ensures.app in
    let five = c.in_ok-subcommand-5.ensures.shape c.in_ok-dump.ensures.local ∙ below _ _ _ _ four c.in_ok-dump.ensures.app in
    let six = c.in_ok-subcommand-6.ensures.shape c.in_ok-list.ensures.local ∙ below _ _ _ _ five c.in_ok-list.ensures.app in
    let seven = c.in_ok-subcommand-7.ensures.shape c.in_ok-backup.ensures.local ∙ below _ _ _ _ six c.in_ok-backup.ensures.app in
    let eight = c.in_ok-subcommand-8.ensures.shape c.in_ok-check.ensures.local ∙ below _ _ _ _ seven c.in_ok-check.ensures.app in
    IfOk-weaker c.subcommand-9.result _ _
    (λ command added. added.shape c.in_ok-serve.ensures.local ∙ below _ _ _ _ eight c.in_ok-serve.ensures.app)
    c.subcommand-9.ensures
