-- Each write adds a sector of the run, and touches no other.
use Rattle.std.proofs.Common.{ℕ, ◌+◌, ◌<◌, [], take, length, refl, sym, ◌∙◌, ap, arith}
use Rattle.std.specs.Prelude.{slice_set, slice_index_or}
use Rattle.std.proofs.lemmas.List.{take_more, length-take-le}
use Rattle.std.proofs.lemmas.Option.{slice_get-get_or}
use Rattle.ipc_disk.specs.Medium.{Image}
use Rattle.ipc_disk.specs.Runs.{Gives, set_run}
use Rattle.ipc_disk.proofs.RunsLemmas.{WritesRun-more, set_run-more}
use Rattle.ipc_disk.proofs.split.SectorRunsRunDisk.write.Goals as goal

gives_sector : (first i : ℕ) (from : Image) (lt : i < length from) → Gives first from (first + i) (slice_index_or from i [])
gives_sector first i from lt = (i, refl, slice_get-get_or from i [] lt)

pub returns-in_err-write-clause-medium : goal.returns-in_err-write-clause-medium
returns-in_err-write-clause-medium g c =
    WritesRun-more c.args.first c.args.from.now (c.args.first + c.loop-i.i) (slice_index_or c.args.from.now c.loop-i.i []) _ _ _
    (gives_sector c.args.first c.loop-i.i c.args.from.now (omega arith)) c.loop-i.invariant.run c.write.ensures.medium

pub loop-i-preserved : goal.loop-i-preserved
loop-i-preserved g c =
    let so_far = c.loop-i.invariant in
    let from = c.args.from.now in
    let value = slice_index_or from c.loop-i.i [] in
    let old = (g.D.SectorDisk.medium c.args.self.now.disk).contents in
    record {
      written = λ honest.
          c.in_ok-write.ensures.written (so_far.run.honest.0 honest)
          ∙ ap (λ (l : Image). slice_set l (c.args.first + c.loop-i.i) value) (so_far.written honest)
          ∙ ap (λ (n : ℕ). slice_set (set_run c.args.first (take c.loop-i.i from) old) (c.args.first + n) value)
          (sym (length-take-le c.loop-i.i from (omega arith)))
          ∙ sym (set_run-more c.args.first (take c.loop-i.i from) value old)
          ∙ ap (λ (l : Image). set_run c.args.first l old) (sym (take_more from c.loop-i.i [] (omega arith)));
      run = WritesRun-more c.args.first from (c.args.first + c.loop-i.i) value _ _ _
          (gives_sector c.args.first c.loop-i.i from (omega arith)) so_far.run c.write.ensures.medium;
      size = c.write.ensures.call.sectors ∙ so_far.size;
      failures = ap (λ n. n.failures) c.in_ok-write.ensures.call.ok ∙ so_far.failures;
      syncs = ap (λ n. n.syncs) c.in_ok-write.ensures.call.ok ∙ so_far.syncs;
    }
