use Rattle.std.proofs.Common.{◌≡◌, ap, sym, inl, arith}
use Rattle.std.specs.Prelude.{Ok, Err}
use Rattle.std.proofs.lemmas.Result.{err_from_is_err_and}
use Rattle.ipc_image.specs.Format.{device_form}
use Rattle.ipc_image.specs.Sizes.{need_in}
use Rattle.ipcd.specs.Device.{sectors_given}
use Rattle.ipcd.proofs.Formatting.{enough, refused}
use Rattle.ipcd.proofs.device.format_file.Goals as goal

pub returns-in_err-format-clause-err : goal.returns-in_err-format-clause-err
returns-in_err-format-clause-err g c =
    let q = err_from_is_err_and c.from_residual-in_err-format.result c.from_residual-in_err-format.ensures.1 in
    let given : sectors_given (need_in (device_form c.args.limits.now) c.args.limits.now) c.args.asked ≡ Ok c.in_ok-sectors.sectors =
    sym {a = Ok c.in_ok-sectors.sectors} c.in_ok-sectors.ensures in
    let least = enough _ _ c.args.asked given in
    rw (q.1, q.2) (inl (refused c.in_err-format.field-0.0 _ _ (λ need is.
    (c.in_err-format.ensures.small need).0 (ap (λ e. Err e) is))
    (omega (arith, least, c.in_ok-disk.ensures.size))))
