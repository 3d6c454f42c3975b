use Rattle.std.proofs.Common.{◌≡◌, ◌<◌, ◌%◌, length, sym, arith}
use Rattle.std.proofs.lemmas.Bool.Decides.{nat_tests}
use Rattle.ipc_script.proofs.HexDigits.{has_bytes, no_bytes_empty, no_bytes_odd, no_bytes_other}
use Rattle.ipc_script.proofs.digits.Hex.new.Goals as goal
use Rattle.ipc_script.proofs.digits.Hex.new.Goals.{then-is_empty-via-then-is_empty, then-is_empty-via-else-is_empty+then-digits-eq1}
use Rattle.ipc_script.proofs.digits.Hex.new.Goals.{then-is_empty-via-else-is_empty+else-digits-eq1+then-not-are_digits}

pub returns-then-is_empty : goal.returns-then-is_empty
returns-then-is_empty c =
    elim c.then-is_empty.branch [
      | then-is_empty-via-then-is_empty w ↦ sym (no_bytes_empty c.args.digits.now (grind (arith, nat_tests, w.if-is_empty.ensures)))
      | then-is_empty-via-else-is_empty+then-digits-eq1 w ↦ sym (no_bytes_odd c.args.digits.now w.if-digits-eq1.true)
      | then-is_empty-via-else-is_empty+else-digits-eq1+then-not-are_digits w ↦ sym (no_bytes_other c.args.digits.now (sym w.if-not-are_digits.ensures))
    ]

pub invariant_of-result : goal.invariant_of-result
invariant_of-result c =
    let more : 0 < length c.args.digits.now = grind (arith, nat_tests, c.if-is_empty.ensures) in
    let even : length c.args.digits.now % 2 ≡ 0 = omega arith in
    record { well_formed = has_bytes c.args.digits.now more even (sym c.if-not-are_digits.ensures) }
