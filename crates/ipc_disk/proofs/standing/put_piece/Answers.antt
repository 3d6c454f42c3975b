-- The piece is what was put there.
use Rattle.std.proofs.Common.{◌≡◌, ◌⊎◌, inl, inr, ◌-◌, ◌*◌, ◌+◌, ◌<◌, ◌≤◌, length, arith, ap, length-take}
use Rattle.ipc_disk.proofs.Pieces.{piece-put}
use Rattle.ipc_disk.proofs.standing.put_piece.Goals as goal
use Rattle.ipc_disk.proofs.standing.put_piece.Goals.{then-into-start-lt512, else-into-start-lt512}

pub returns-clause-piece : goal.returns-clause-piece
returns-clause-piece c =
    let k = c.if-into-start-lt512.end - 512 * c.args.i in
    let cases : (k ≡ 512) ⊎ ((k < 512) × (length c.args.into.now ≤ 512 * c.args.i + k)) = elim c.if-into-start-lt512.branch [
      | then-into-start-lt512 w ↦ inr (omega (arith, w.if-into-start-lt512.true, w.end-is, c.requires), omega (arith, w.end-is, c.requires))
      | else-into-start-lt512 w ↦ inl (omega (arith, w.end-is))
    ] in
    let within : k ≤ 512 = elim c.if-into-start-lt512.branch [
      | then-into-start-lt512 w ↦ omega (arith, w.if-into-start-lt512.true, w.end-is)
      | else-into-start-lt512 w ↦ omega (arith, w.end-is)
    ] in
    piece-put c.args.i k c.args.into.now c.copy_from_slice.new.self c.args.sector.now (omega (arith, c.requires)) cases
    (omega (arith, ap length c.copy_from_slice.ensures.after, length-take k c.args.sector.now, within)) c.copy_from_slice.ensures.after
