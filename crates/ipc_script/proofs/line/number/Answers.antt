use Rattle.std.proofs.Common.{◌<◌, length, sym, ◌∙◌, arith}
use Rattle.std.proofs.lemmas.Bool.Decides.{nat_tests}
use Rattle.ipc_script.proofs.DecimalNumbers.{no_moment_empty, no_moment_other, no_moment_large, all_digits, more_digits}
use Rattle.ipc_script.proofs.line.number.Goals as goal

pub returns-then-is_empty : goal.returns-then-is_empty
returns-then-is_empty c = no_moment_empty c.args.digits.now (grind (arith, nat_tests, c.if-is_empty.ensures))

pub returns-then-not-is_ascii_digit : goal.returns-then-not-is_ascii_digit
returns-then-not-is_ascii_digit c =
    no_moment_other c.args.digits.now c.loop-digit.digit-index c.loop-digit-test.true (sym c.if-not-is_ascii_digit.ensures.value)

pub returns-in_err-checked_mul : goal.returns-in_err-checked_mul
returns-in_err-checked_mul c =
    c.from_residual.ensures
    ∙ no_moment_large c.args.digits.now c.loop-digit.digit-index c.loop-digit.number c.loop-digit-test.true c.loop-digit.invariant.value
    (sym c.if-not-is_ascii_digit.ensures.value) (omega (arith, c.in_err-checked_mul.ensures))

pub returns-in_err-number : goal.returns-in_err-number
returns-in_err-number c =
    c.from_residual-in_err-number.ensures
    ∙ no_moment_large c.args.digits.now c.loop-digit.digit-index c.loop-digit.number c.loop-digit-test.true c.loop-digit.invariant.value
    (sym c.if-not-is_ascii_digit.ensures.value) (omega (arith, c.in_err-number.ensures, c.in_ok-checked_mul.ensures))

pub loop-digit-preserved : goal.loop-digit-preserved
loop-digit-preserved c =
    let more =
    more_digits c.args.digits.now c.loop-digit.digit-index c.loop-digit.number c.loop-digit-test.true (sym c.if-not-is_ascii_digit.ensures.value)
    c.loop-digit.invariant.digits c.loop-digit.invariant.value in
    record {
      digits = more.0;
      value = omega (arith, more.1, c.in_ok-checked_mul.ensures, c.in_ok-number.ensures);
      fits = omega (arith, c.in_ok-number.ensures);
    }

pub returns : goal.returns
returns c =
    let some : 0 < length c.args.digits.now = grind (arith, nat_tests, c.if-is_empty.ensures) in
    all_digits c.args.digits.now c.loop-digit.digit-index c.loop-digit.number some c.loop-digit-test.false c.loop-digit.invariant.digits
    c.loop-digit.invariant.value c.loop-digit.invariant.fits
