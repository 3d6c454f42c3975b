use Rattle.std.proofs.Common.{ap, arith}
use Rattle.std.specs.Prelude.{Err}
use Rattle.std.proofs.lemmas.Result.{err_from_is_err_and}
use Rattle.ipcd.proofs.Formatting.{refused}
use Rattle.ipcd.proofs.device.put_in_file.Goals as goal

pub returns-in_err-copy_onto-clause-err : goal.returns-in_err-copy_onto-clause-err
returns-in_err-copy_onto-clause-err g c =
    let q = err_from_is_err_and c.from_residual-in_err-copy_onto.result c.from_residual-in_err-copy_onto.ensures.1 in
    rw (q.1, q.2) (λ enough. refused c.in_err-copy_onto.field-0.0 _ _ (λ need is.
    (c.in_err-copy_onto.ensures.small need).0 (ap (λ e. Err e) is))
    (omega (arith, enough, c.in_ok-disk.ensures.size)))
