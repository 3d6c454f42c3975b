-- The piece is what was put there.
use Rattle.std.proofs.Common.{◌≡◌, ◌⊎◌, inl, inr, ℕ, ◌-◌, ◌*◌, ◌+◌, ◌<◌, ◌≤◌, ◌∙◌, length, take, drop, arith, ap, length-take}
use Rattle.std.proofs.lemmas.List.{length-drop}
use Rattle.ipc_journal.proofs.TagPieces.{piece-put}
use Rattle.ipc_journal.proofs.tagged.put_piece.Goals as goal
use Rattle.ipc_journal.proofs.tagged.put_piece.Goals.{then-into-start-lt-PIECE, else-into-start-lt-PIECE}

pub returns-clause-piece : goal.returns-clause-piece
returns-clause-piece c =
    let k = c.if-into-start-lt-PIECE.end - 496 * c.args.i in
    let cases : (k ≡ 496) ⊎ ((k < 496) × (length c.args.into.now ≤ 496 * c.args.i + k)) = elim c.if-into-start-lt-PIECE.branch [
      | then-into-start-lt-PIECE w ↦ inr (omega (arith, w.if-into-start-lt-PIECE.true, w.end-is, c.requires), omega (arith, w.end-is, c.requires))
      | else-into-start-lt-PIECE w ↦ inl (omega (arith, w.end-is))
    ] in
    let within : k ≤ 496 = elim c.if-into-start-lt-PIECE.branch [
      | then-into-start-lt-PIECE w ↦ omega (arith, w.if-into-start-lt-PIECE.true, w.end-is)
      | else-into-start-lt-PIECE w ↦ omega (arith, w.end-is)
    ] in
    piece-put c.args.i k c.args.into.now c.copy_from_slice.new.self (drop 16 c.args.sector.now) (omega (arith, c.requires)) cases
    (omega (arith, ap length c.copy_from_slice.ensures.after, length-take k (drop 16 c.args.sector.now), length-drop 16 c.args.sector.now, within))
    (c.copy_from_slice.ensures.after ∙ ap (λ (n : ℕ). take n (drop 16 c.args.sector.now)) (omega arith))
