-- One piece more is read.
use Rattle.std.proofs.Common.{◌≡◌, ◌+◌, ℕ, [], refl, ap, sym, ◌∙◌, arith}
use Rattle.std.specs.Prelude.{Some, slice_get}
use Rattle.std.proofs.lemmas.Option.{get_or_from_slice_get}
use Rattle.ipc_disk.specs.Medium.{Image}
use Rattle.ipc_disk.proofs.CallerLemmas.{Stays-start, Stays-join, honest-join}
use Rattle.ipc_disk.specs.Standing.{sector_at}
use Rattle.ipc_disk.proofs.Pieces.{pieces_more}
use Rattle.ipc_disk.proofs.standing.read_bytes.Goals as goal

pub loop-i-init : goal.loop-i-init
loop-i-init g c =
    let old = g.D.SectorDisk.medium c.args.disk.now in
    let some : c.args.at + 0 ≡ c.args.at = omega arith in
    record {
      stands = λ honest first. pieces_more 0 c.args.at c.args.into.now c.put_piece.new.into c.args.first.now old.contents
          c.put_piece.ensures.before c.put_piece.ensures.piece
          (ap (λ (n : ℕ). sector_at old.contents n) some ∙ get_or_from_slice_get old.contents c.args.at c.args.first.now [] first)
          (λ i lt. absurd (omega (arith, lt)));
      reads = λ honest. Stays-start old;
      honest = (λ h. h, λ h. h);
      size = refl;
      counts = refl;
    }

pub loop-i-preserved : goal.loop-i-preserved
loop-i-preserved g c =
    let old = g.D.SectorDisk.medium c.args.disk.now in
    let so_far = c.loop-i.invariant in
    record {
      stands = λ honest first.
          let stays = so_far.reads honest in
          let read : slice_get old.contents (c.args.at + c.loop-i.i) ≡ Some c.read.new.into =
          ap (λ (image : Image). slice_get image (c.args.at + c.loop-i.i)) (sym (stays.contents honest))
          ∙ c.in_ok-read.ensures.bytes (stays.time.honest.0 honest) in
          pieces_more c.loop-i.i c.args.at c.loop-i.into c.put_piece-in-loop-i.new.into c.read.new.into old.contents
          c.put_piece-in-loop-i.ensures.before c.put_piece-in-loop-i.ensures.piece
          (get_or_from_slice_get old.contents (c.args.at + c.loop-i.i) c.read.new.into [] read) (so_far.stands honest first);
      reads = λ honest. Stays-join old _ _ honest (so_far.reads honest) c.read.ensures.medium;
      honest = honest-join old _ _ so_far.honest c.read.ensures.medium.time.honest;
      size = c.read.ensures.call.sectors ∙ so_far.size;
      counts = c.in_ok-read.ensures.call.ok ∙ so_far.counts;
    }
