-- Each write adds a sector, and touches no other.
use Rattle.std.proofs.Common.{◌≡◌, ℕ, List, length, ◌+◌, ⊎_elim, ap, sym}
use Rattle.std.proofs.Common.{◌∙◌, subst, arith, length-take, drop, ◌*◌}
use Rattle.std.specs.Prelude.{slice_set}
use Rattle.ipc_disk.specs.Range.{IsOutside}
use Rattle.ipc_disk.proofs.CallerLemmas.{honest-join, LeavesAlone-writes, counts-calls}
use Rattle.ipc_disk.specs.Standing.{sectors_for, filled, padded_piece}
use Rattle.ipc_disk.proofs.Pieces.{WrittenBelow, written_more}
use Rattle.ipc_disk.proofs.standing.write_bytes.Goals as goal

pub write_filled-requires : goal.write_filled-requires
write_filled-requires g c = record {
  within = omega (arith, c.loop-i.invariant.size);
  short = omega (arith, ap length c.piece_of.ensures, length-take 512 (drop (512 * c.loop-i.i) c.args.bytes.now));
}

pub returns-in_err-write_filled-clause-others : goal.returns-in_err-write_filled-clause-others
returns-in_err-write_filled-clause-others g c = λ honest.
    LeavesAlone-writes (IsOutside (record { first = c.args.first; count = sectors_for (length c.args.bytes.now) })) _ _ _
    (c.args.first + c.loop-i.i) (filled c.piece_of.result.now) (c.loop-i.invariant.others honest)
    (λ out. ⊎_elim (λ low. absurd (omega (arith, low))) (λ high. absurd (omega (arith, high))) out)
    c.write_filled.ensures.medium

pub loop-i-preserved : goal.loop-i-preserved
loop-i-preserved g c =
    let so_far = c.loop-i.invariant in
    record {
      written = λ honest.
          let here = (so_far.others honest).honest in
          let old = g.D.SectorDisk.medium c.loop-i.disk in
          let long : length old.contents ≡ g.D.SectorDisk.size c.loop-i.disk = (g.met.D.SectorDisk.shaped c.loop-i.disk old.contents here.reads).count in
          let set : (g.D.SectorDisk.medium c.write_filled.new.disk).contents ≡ slice_set old.contents (c.args.first + c.loop-i.i)
          (padded_piece c.loop-i.i c.args.bytes.now) =
          c.in_ok-write_filled.ensures.written here
          ∙ ap (λ (l : List ℕ). slice_set old.contents (c.args.first + c.loop-i.i) (filled l)) c.piece_of.ensures in
          subst (WrittenBelow (c.loop-i.i + 1) c.args.first c.args.bytes.now) (sym set)
          (written_more c.loop-i.i c.args.first c.args.bytes.now old.contents (omega (arith, long, so_far.size)) (so_far.written honest));
      others = λ honest.
          LeavesAlone-writes (IsOutside (record { first = c.args.first; count = sectors_for (length c.args.bytes.now) })) _ _ _
          (c.args.first + c.loop-i.i) (filled c.piece_of.result.now) (so_far.others honest)
          (λ out. ⊎_elim (λ low. absurd (omega (arith, low))) (λ high. absurd (omega (arith, high))) out)
          c.write_filled.ensures.medium;
      honest = honest-join _ _ _ so_far.honest c.write_filled.ensures.medium.time.honest;
      size = c.write_filled.ensures.call.sectors ∙ so_far.size;
      failures = ap (λ n. n.failures) c.in_ok-write_filled.ensures.call.ok ∙ so_far.failures;
      writes = omega (arith, ap (λ n. n.writes) c.in_ok-write_filled.ensures.call.ok, so_far.writes);
      syncs = ap (λ n. n.syncs) c.in_ok-write_filled.ensures.call.ok ∙ so_far.syncs;
    }

pub returns-clause-counts : goal.returns-clause-counts
returns-clause-counts g c =
    let so_far = c.loop-i.invariant in
    let fits = (g.met.D.SectorDisk.in_range c.args.disk.now).syncs_fit in
    record {
      err = tt;
      ok = counts-calls _ _ _ 0 so_far.failures (omega (arith, so_far.writes, c.sectors_for_len-count.ensures)) (omega (arith, so_far.syncs, fits));
    }
