use Rattle.std.proofs.Common.{◌^◌, ap, sym, ◌∙◌}
use Rattle.ipc_script.specs.Line.{limited}
use Rattle.ipc_script.proofs.DecimalNumbers.{conn_from_moment, narrowed}
use Rattle.ipc_script.proofs.line.conn_number.Goals as goal

pub returns-in_err-number : goal.returns-in_err-number
returns-in_err-number c = c.from_residual.ensures ∙ ap (limited (2 ^ 32)) c.in_err-number.ensures ∙ sym (conn_from_moment c.args.digits.now)

pub returns : goal.returns
returns c =
    c.ok.ensures.value
    ∙ narrowed c.in_ok-number.field-0 c.try_from.result c.try_from.ensures
    ∙ ap (limited (2 ^ 32)) c.in_ok-number.ensures
    ∙ sym (conn_from_moment c.args.digits.now)
