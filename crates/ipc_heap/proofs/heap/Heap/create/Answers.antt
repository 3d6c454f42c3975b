-- The objects, their table, and the root.
use Rattle.std.proofs.Common.{◌≡◌, refl, ℕ, ◌+◌, ◌*◌, ◌/◌, ◌<◌, List, length, get_or, sym, ap, subst, ◌∙◌, arith}
use Rattle.std.specs.Prelude.{All, Contains, nat_eq, slice_set}
use Rattle.std.specs.List.{IsDistinct, range_with_len}
use Rattle.std.proofs.lemmas.List.FromFn.{length-range_with_len, get_or-range_with_len}
use Rattle.std.proofs.lemmas.List.Elements.{All-weaker}
use Rattle.ipc_base.specs.Objects.{PlainObjects, object_sectors, table_bytes}
use Rattle.ipc_disk.specs.Medium.{Medium, IsHonest}
use Rattle.ipc_disk.proofs.CallerLemmas.{counts-calls}
use Rattle.ipc_disk.specs.Range.{IsInside, IsOutside}
use Rattle.ipc_disk.specs.Since.{LeavesAlone}
use Rattle.ipc_heap.specs.Heap.{Holds, IsElsewhere, table_sectors_for, table_words}
use Rattle.ipc_heap.specs.Heap as heap
use Rattle.ipc_heap.specs.Relations.Root.{IsRead}
use Rattle.ipc_heap.specs.Relations.Table.{IsLaid, IsTableOn, placed_after}
use Rattle.ipc_heap.proofs.Changes.{all-right}
use Rattle.ipc_heap.proofs.Flips.{turned-there}
use Rattle.ipc_heap.proofs.Runs.{created-holds, laid-fits, laid-inside, laid-once, laid_table, laid_words, others-one, others-two, others-three}
use Rattle.ipc_heap.proofs.Runs.{table-after, table-not_root, words-after}
use Rattle.ipc_heap.proofs.Sectors.{distinct-right}
use Rattle.ipc_heap.proofs.heap.Heap.create.Given.{Over}
use Rattle.ipc_heap.proofs.heap.Heap.create.Goals as goal
use Rattle.ipc_heap.proofs.heap.Heap.create.Goals.{In_ok-beyond}

-- the objects are written
module _ (g : Over) (c : In_ok-beyond g) where
  abbrev os : PlainObjects
  os = g.O.Objects.objects c.args.objects.now

  abbrev table : List ℕ
  table = range_with_len c.in_ok-beyond.beyond (table_sectors_for (length (table_words (placed_after c.args.range.first os))))

  same : table ≡ laid_table c.requires.laid_out os c.requires.fits
  same = ap (λ (n : ℕ). range_with_len n (table_sectors_for (length (table_words (placed_after c.args.range.first os))))) c.in_ok-beyond.ensures.beyond

  is-laid : IsLaid c.args.range.first c.in_ok-beyond.beyond os
  is-laid = record {
    are = c.in_ok-beyond.ensures.are;
    last = c.in_ok-beyond.ensures.beyond;
    fit = omega (
      arith,
      laid-fits c.requires.laid_out os c.requires.fits,
      c.in_ok-beyond.ensures.beyond,
      c.requires.laid_out.within,
      g.met.D.SectorDisk.fits c.args.disk.now,
    );
  }

  module _ (two : Medium) (next : IsHonest (g.D.SectorDisk.medium c.write_objects.new.disk)
      → LeavesAlone (λ i. Contains table i → ⊥) (g.D.SectorDisk.medium c.write_objects.new.disk) two) where
    run-one : IsHonest (g.D.SectorDisk.medium c.args.disk.now)
        → LeavesAlone (IsElsewhere c.args.range c.args.root) (g.D.SectorDisk.medium c.args.disk.now) (g.D.SectorDisk.medium c.write_objects.new.disk)
    run-one honest =
        others-one c.requires.laid_out os c.requires.fits (g.D.SectorDisk.medium c.args.disk.now) (g.D.SectorDisk.medium c.write_objects.new.disk)
        (c.write_objects.ensures.others honest)

    run-table : IsHonest (g.D.SectorDisk.medium c.args.disk.now)
        → LeavesAlone (λ i. Contains (laid_table c.requires.laid_out os c.requires.fits) i → ⊥) (g.D.SectorDisk.medium c.write_objects.new.disk) two
    run-table honest =
        subst (λ (l : List ℕ). LeavesAlone (λ i. Contains l i → ⊥) (g.D.SectorDisk.medium c.write_objects.new.disk) two) same (next (run-one honest).honest)

    run-two : IsHonest (g.D.SectorDisk.medium c.args.disk.now) → LeavesAlone (IsElsewhere c.args.range c.args.root) (g.D.SectorDisk.medium c.args.disk.now) two
    run-two honest =
        others-two c.requires.laid_out os c.requires.fits (g.D.SectorDisk.medium c.args.disk.now) (g.D.SectorDisk.medium c.write_objects.new.disk) two
        (run-one honest) (run-table honest)

    run-three : (three : Medium) → (IsHonest two → LeavesAlone (IsOutside (record { first = c.args.root; count = 1 })) two three)
        → IsHonest (g.D.SectorDisk.medium c.args.disk.now)
        → LeavesAlone (IsElsewhere c.args.range c.args.root) (g.D.SectorDisk.medium c.args.disk.now) three
    run-three three last honest =
        others-three c.requires.laid_out os c.requires.fits (g.D.SectorDisk.medium c.args.disk.now) two three (run-two honest) (last (run-two honest).honest)

    -- the heap that is there once the root is written
    holds-then : (sector : List ℕ) (n : ℕ) → IsHonest (g.D.SectorDisk.medium c.args.disk.now)
        → IsTableOn (laid_words c.requires.laid_out os c.requires.fits) table two.contents
        → c.args.root < length two.contents → IsRead sector (record { epoch = 1; first = c.in_ok-beyond.beyond; len = 4 * n })
        → n ≡ length (laid_words c.requires.laid_out os c.requires.fits) → Holds c.args.range c.args.root 1 os (slice_set two.contents c.args.root sector)
    holds-then sector n honest on within read long =
        let words : List ℕ = laid_words c.requires.laid_out os c.requires.fits in
        let begin : get_or (laid_table c.requires.laid_out os c.requires.fits) 0 0 ≡ c.in_ok-beyond.beyond =
        get_or-range_with_len (c.args.range.first + object_sectors os) (table_sectors_for (length words)) 0 0 (omega (arith, words-after c.args.range.first os))
        ∙ omega (arith, c.in_ok-beyond.ensures.beyond) in
        created-holds c.requires.laid_out os c.requires.fits (g.D.SectorDisk.medium c.write_objects.new.disk).contents
        (slice_set two.contents c.args.root sector)
        c.in_ok-beyond.ensures.are (c.in_ok-beyond.ensures.written honest)
        (turned-there words (laid_table c.requires.laid_out os c.requires.fits) c.args.root 1 (table-not_root c.requires.laid_out os c.requires.fits)
        (g.D.SectorDisk.medium c.write_objects.new.disk).contents two.contents sector (run-table honest).contents
        (subst (λ (l : List ℕ). IsTableOn words l two.contents) same on) within
        (record { epoch = read.epoch; first = read.first ∙ sym begin; len = read.len ∙ ap (λ (k : ℕ). 4 * k) long }))

pub write_objects-requires : goal.write_objects-requires
write_objects-requires g c =
    omega (arith, laid-fits c.requires.laid_out (g.O.Objects.objects c.args.objects.now) c.requires.fits, c.requires.laid_out.within)

pub write_table-requires-clause-sound : goal.write_table-requires-clause-sound
write_table-requires-clause-sound g c = is-laid g (goal.at.write_table-requires-clause-sound g c).In_ok-beyond

pub write_table-requires-clause-within : goal.write_table-requires-clause-within
write_table-requires-clause-within g c =
    let m = (goal.at.write_table-requires-clause-within g c).In_ok-beyond in
    let run : List ℕ = laid_table c.requires.laid_out (os g m) c.requires.fits in
    subst (All (λ s. s < g.D.SectorDisk.size c.write_objects.new.disk)) (sym (same g m))
    (All-weaker (IsInside c.args.range) (λ s. s < g.D.SectorDisk.size c.write_objects.new.disk)
    (λ s here. omega (arith, here, c.requires.laid_out.within, c.write_objects.ensures.same.sectors)) run
    (all-right (IsInside c.args.range) (heap.object_sectors (placed_after c.args.range.first (os g m))) run
    (laid-inside c.requires.laid_out (os g m) c.requires.fits)))

pub write_table-requires-clause-once : goal.write_table-requires-clause-once
write_table-requires-clause-once g c =
    let m = (goal.at.write_table-requires-clause-once g c).In_ok-beyond in
    subst (IsDistinct nat_eq) (sym (same g m))
    (distinct-right (heap.object_sectors (placed_after c.args.range.first (os g m))) (laid_table c.requires.laid_out (os g m) c.requires.fits)
    (laid-once c.requires.laid_out (os g m) c.requires.fits))

pub write_table-requires-clause-all : goal.write_table-requires-clause-all
write_table-requires-clause-all g c = length-range_with_len c.in_ok-beyond.beyond _

pub len-requires : goal.len-requires
len-requires g c = is-laid g (goal.at.len-requires g c).In_ok-beyond

pub overflow_cast-numbers : goal.overflow_cast-numbers
overflow_cast-numbers g c = omega (arith, c.len.ensures, words-after c.args.range.first (g.O.Objects.objects c.args.objects.now), c.requires.counted)

pub overflow_mul-numbers : goal.overflow_mul-numbers
overflow_mul-numbers g c = omega (arith, c.len.ensures, words-after c.args.range.first (g.O.Objects.objects c.args.objects.now), c.requires.counted)

pub write_durably-requires : goal.write_durably-requires
write_durably-requires g c =
    omega (arith, c.write_table.ensures.same.sectors, c.write_objects.ensures.same.sectors, c.requires.laid_out.root_there)

pub returns-in_err-beyond-clause-others : goal.returns-in_err-beyond-clause-others
returns-in_err-beyond-clause-others g c = λ honest.
    others-one c.requires.laid_out (g.O.Objects.objects c.args.objects.now) c.requires.fits _ _ (c.write_objects.ensures.others honest)

pub returns-in_err-write_table-clause-others : goal.returns-in_err-write_table-clause-others
returns-in_err-write_table-clause-others g c =
    run-two g (goal.at.returns-in_err-write_table-clause-others g c).In_ok-beyond (g.D.SectorDisk.medium c.write_table.new.disk) c.write_table.ensures.others

pub returns-in_err-write_durably-clause-others : goal.returns-in_err-write_durably-clause-others
returns-in_err-write_durably-clause-others g c =
    run-three g (goal.at.returns-in_err-write_durably-clause-others g c).In_ok-beyond
    (g.D.SectorDisk.medium c.write_table.new.disk) c.write_table.ensures.others
    (g.D.SectorDisk.medium c.write_durably.new.disk) c.write_durably.ensures.others

pub returns-clause-others : goal.returns-clause-others
returns-clause-others g c =
    run-three g (goal.at.returns-clause-others g c).In_ok-beyond (g.D.SectorDisk.medium c.write_table.new.disk) c.write_table.ensures.others
    (g.D.SectorDisk.medium c.write_durably.new.disk) c.write_durably.ensures.others

pub returns-clause-holds : goal.returns-clause-holds
returns-clause-holds g c = λ honest.
    let m = (goal.at.returns-clause-holds g c).In_ok-beyond in
    let two = g.D.SectorDisk.medium c.write_table.new.disk in
    let next = run-two g m two c.write_table.ensures.others honest in
    let long : length two.contents ≡ g.D.SectorDisk.size c.args.disk.now =
    (g.met.D.SectorDisk.shaped c.write_table.new.disk two.contents next.honest.reads).count ∙ c.write_table.ensures.same.sectors
    ∙ c.write_objects.ensures.same.sectors in
    subst (Holds c.args.range c.args.root 1 (os g m)) (sym (c.in_ok-write_durably.ensures.written next.honest))
    (holds-then g m two c.write_table.ensures.others c.root_sector.result c.len.result honest
    (c.in_ok-write_table.ensures.written (run-one g m two c.write_table.ensures.others honest).honest) (omega (arith, long, c.requires.laid_out.root_there))
    c.root_sector.ensures c.len.ensures)

pub returns-clause-counts : goal.returns-clause-counts
returns-clause-counts g c =
    let m = (goal.at.returns-clause-counts g c).In_ok-beyond in
    let all : length (table g m) ≡ (table_bytes (os g m) + 507) / 508 =
    length-range_with_len c.in_ok-beyond.beyond _ ∙ table-after c.args.range.first (os g m) in
    record {
      err = tt;
      ok = rw (c.in_ok-write_durably.ensures.counts.ok, c.in_ok-write_table.ensures.counts.ok, c.in_ok-beyond.ensures.counts.ok)
          (counts-calls _ _ _ _ refl (omega (arith, all)) (omega (arith, (g.met.D.SectorDisk.in_range c.args.disk.now).syncs_fit)));
    }
