-- The end of one piece and the begin of the next.
use Rattle.std.proofs.Common.{◌≡◌, ℕ, ◌+◌, ◌*◌, ◌/◌, ◌%◌, ◌++◌, List, length, take, drop, ◌∙◌, ap, arith}
use Rattle.std.specs.Prelude.{flat_map}
use Rattle.ipc_base.specs.Objects.{window}
use Rattle.ipc_disk.specs.Medium.{Image}
use Rattle.ipc_disk.specs.Standing.{sector_at}
use Rattle.ipc_disk.proofs.CallerLemmas.{OnlyReads-ok, OnlyReads-as, OnlyReads-then}
use Rattle.ipc_heap.proofs.Stands.{window-both, window-length, written-both, not_failed, failed_on}
use Rattle.ipc_heap.proofs.reading.read_window.Goals as goal

pub returns-in_err-second-clause-reads : goal.returns-in_err-second-clause-reads
returns-in_err-second-clause-reads g c =
    let failed = failed_on c.read_piece-2.result _ c.in_err-second.was in
    let ended = c.from_residual-in_err-second.ensures.0 in
    OnlyReads-then (OnlyReads-ok (not_failed c.read_piece.result _ c.in_ok-first.was) c.read_piece.ensures.reads)
    (OnlyReads-as (λ bad. ended) (λ bad. failed) c.read_piece-2.ensures.reads)

pub returns-clause-reads : goal.returns-clause-reads
returns-clause-reads g c =
    OnlyReads-then (OnlyReads-ok (not_failed c.read_piece.result _ c.in_ok-first.was) c.read_piece.ensures.reads)
    (OnlyReads-as (λ bad. absurd (not_failed c.read_piece-2.result _ c.in_ok-second.was bad)) (λ bad. cc) c.read_piece-2.ensures.reads)

pub returns-clause-bytes : goal.returns-clause-bytes
returns-clause-bytes g c honest =
    let image : Image = (g.D.SectorDisk.medium c.args.disk.now).contents in
    let skip : ℕ = c.args.place % 512 in
    let bytes : Image → List ℕ = λ i. take c.args.len (flat_map (sector_at i) c.args.sectors.now) in
    let first = c.in_ok-first.ensures.bytes honest in
    let reads = c.read_piece.ensures.reads in
    let second = c.in_ok-second.ensures.bytes (reads.same.honest.0 honest)
    ∙ ap (λ (i : Image). window (512 * (c.args.place / 512 + 1)) (bytes i)) ((reads.stays honest).contents honest) in
    let long : length c.in_ok-first.first ≡ 512 = ap length first ∙ window-length (512 * (c.args.place / 512)) (bytes image) in
    written-both skip c.in_ok-first.first c.in_ok-second.second c.args.into.now _ _ (omega arith) long c.told-into c.copy_from_slice.ensures.after
    c.copy_from_slice-2.ensures.after
    ∙ ap (λ (l : List ℕ). drop skip l ++ take skip c.in_ok-second.second) first
    ∙ ap (λ (l : List ℕ). drop skip (window (512 * (c.args.place / 512)) (bytes image)) ++ take skip l) second
    ∙ window-both c.args.place (c.args.place / 512) skip (bytes image) (omega arith) (omega arith)
