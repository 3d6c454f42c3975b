-- A number of each size.
use Rattle.std.proofs.Common.{ℕ, List, arith}
use Rattle.std.specs.Int.{w8, w16, w32, w64}
use Rattle.ipc_base.specs.declared.field.Size.TheVariants.{One, Two, Four, Eight}
use Rattle.ipc_base.proofs.Numbers.{AreBytes, Got, number_got}
use Rattle.ipc_base.proofs.field.take_number.Goals as goal
use Rattle.ipc_base.proofs.field.take_number.Goals.{in-One+in_ok-u8-in-One, in-Two+in_ok-u16-in-Two, in-Four+in_ok-u32-in-Four, in-Eight+in_ok-number-in-Eight}

pub returns-clause-some : goal.returns-clause-some
returns-clause-some c =
    let bytes : List ℕ = c.args.bytes.now in
    let are : AreBytes bytes = λ i. omega (arith, c.type_inv.bytes i) in
    elim c.match-size.branch [
      | in-One+in_ok-u8-in-One w ↦
          let got : Got w8 1 bytes w.u8.new.self w.in_ok-u8-in-One.field-0 = rw c.new-cursor.ensures at w.in_ok-u8-in-One.ensures in
          let number = number_got One bytes w.u8.new.self w.in_ok-u8-in-One.field-0 are got in
          rw (w.in-One.is, w.number-is, c.rest.ensures, w.cursor-is) (number.below, number.spelled)
      | in-Two+in_ok-u16-in-Two w ↦
          let got : Got w16 2 bytes w.u16.new.self w.in_ok-u16-in-Two.field-0 = rw c.new-cursor.ensures at w.in_ok-u16-in-Two.ensures in
          let number = number_got Two bytes w.u16.new.self w.in_ok-u16-in-Two.field-0 are got in
          rw (w.in-Two.is, w.number-is, c.rest.ensures, w.cursor-is) (number.below, number.spelled)
      | in-Four+in_ok-u32-in-Four w ↦
          let got : Got w32 4 bytes w.u32.new.self w.in_ok-u32-in-Four.field-0 = rw c.new-cursor.ensures at w.in_ok-u32-in-Four.ensures in
          let number = number_got Four bytes w.u32.new.self w.in_ok-u32-in-Four.field-0 are got in
          rw (w.in-Four.is, w.number-is, c.rest.ensures, w.cursor-is) (number.below, number.spelled)
      | in-Eight+in_ok-number-in-Eight w ↦
          let got : Got w64 8 bytes w.u64.new.self w.in_ok-number-in-Eight.number = rw c.new-cursor.ensures at w.in_ok-number-in-Eight.ensures in
          let number = number_got Eight bytes w.u64.new.self w.in_ok-number-in-Eight.number are got in
          rw (w.in-Eight.is, w.number-is, c.rest.ensures, w.cursor-is) (number.below, number.spelled)
    ]
