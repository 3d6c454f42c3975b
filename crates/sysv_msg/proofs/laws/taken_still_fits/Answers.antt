use Rattle.std.proofs.Common.{◌≡◌, ℕ, suc, ◌+◌, ◌≤◌, Bool, false, pos, [], length, arith, Option, Some, None}
use Rattle.std.specs.Prelude.{nat_lt, ◌||◌}
use Rattle.std.proofs.lemmas.Bool.Decides.{nat_tests}
use Rattle.std.proofs.lemmas.List.Sums.{sum_by-remove}
use Rattle.std.proofs.lemmas.List.Edits.{length-remove}
use Rattle.ipc_limits.specs.Limits.{exceeds}
use Rattle.sysv_msg.specs.Queue.{PlainMessage}
use Rattle.sysv_msg.proofs.laws.taken_still_fits.Goals as goal

-- fewer bytes and fewer messages are within bounds where more are
fewer : (most : Option ℕ) (qbytes more less n m : ℕ) → less ≤ more → m ≤ n
    → (nat_lt qbytes more || nat_lt qbytes n || exceeds n most) ≡ false → (nat_lt qbytes less || nat_lt qbytes m || exceeds m most) ≡ false
fewer None qbytes more less n m le few within = grind (arith, nat_tests)
fewer (Some most) qbytes more less n m le few within = grind (arith, nat_tests)

pub returns : goal.returns
returns c most q at pid moment bytes inside fits =
    let d : PlainMessage = record { mtype = pos 0; text = [] } in
    let lighter = sum_by-remove (λ m. length m.text) q.messages at d inside in
    let shorter = length-remove q.messages at inside in
    fewer most q.qbytes _ _ _ _ (omega arith) (omega arith) fits
