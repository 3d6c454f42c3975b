use Rattle.std.proofs.Common.{◌≡◌, length, take}
use Rattle.ipc_base.proofs.FieldLists.{Taken}
use Rattle.ipc_base.proofs.field.take_fields.Given as goal

-- as many were taken as turns
abbrev pub invariant-loop-i : goal.invariant-loop-i
invariant-loop-i g l = Taken (take l.i l.sizes) (take l.i l.numbers) l.bytes l.left × (length l.numbers ≡ g.row.N)
