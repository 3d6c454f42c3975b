-- The sector that has them, as far as the object goes.
use Rattle.std.proofs.Common.{◌≡◌, ℕ, ◌-◌, ◌*◌, ◌++◌, List, [], length, take, min, replicate, get_or, sym, ◌∙◌, ap, arith}
use Rattle.std.specs.Prelude.{All, flat_map}
use Rattle.std.proofs.lemmas.List.{length-take}
use Rattle.std.proofs.lemmas.Option.{get_or_from_slice_get}
use Rattle.ipc_disk.specs.Standing.{sector_at}
use Rattle.ipc_heap.proofs.Stands.{window-piece, window-past}
use Rattle.ipc_heap.proofs.reading.read_piece.Goals as goal

pub returns-clause-bytes : goal.returns-clause-bytes
returns-clause-bytes g c honest =
    let image = (g.D.SectorDisk.medium c.args.disk.now).contents in
    let shaped = g.met.D.SectorDisk.shaped c.args.disk.now image honest.reads in
    let at : ℕ = get_or c.args.sectors.now c.args.k 0 in
    let read : sector_at image at ≡ c.read.new.into = get_or_from_slice_get image at c.read.new.into [] (c.in_ok-read.ensures.bytes honest) in
    let long : All (λ (i : ℕ). length (sector_at image i) ≡ 512) c.args.sectors.now =
    λ k d lt. (shaped.sectors (get_or c.args.sectors.now k d) [] (omega (arith, shaped.count, c.requires.within k d lt))).size in
    c.front.ensures
    ∙ ap (λ (l : List ℕ). take (min 512 (c.args.len - 512 * c.args.k)) l ++ replicate (512 - min 512 (c.args.len - 512 * c.args.k)) 0) (sym read)
    ∙ window-piece (sector_at image) c.args.sectors.now c.args.len c.args.k 0 c.requires.all (omega (arith, c.if-k-sectors.false)) long

pub returns-then-k-sectors-clause-bytes : goal.returns-then-k-sectors-clause-bytes
returns-then-k-sectors-clause-bytes g c honest =
    window-past (512 * c.args.k) _ (omega (
      arith,
      c.requires.all,
      c.if-k-sectors.true,
      length-take c.args.len
          (flat_map (sector_at (g.D.SectorDisk.medium c.args.disk.now).contents) c.args.sectors.now),
    ))
