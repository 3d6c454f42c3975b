-- What the objects lack is taken out, what has changed is put in, and the heap is turned over.
use Rattle.std.proofs.Common.{◌≡◌, ℕ, ◌≤◌, ap, subst, ◌∙◌}
use Rattle.std.specs.Prelude.{is_some, nat_eq}
use Rattle.std.proofs.lemmas.Result.{on_ok_weaker}
use Rattle.ipc_base.specs.Objects.{OthersAreThere, PlainObjects}
use Rattle.ipc_base.specs.Table.{value_at}
use Rattle.ipc_disk.specs.Counts.{Counts, counted}
use Rattle.ipc_heap.specs.Matches.{Keeps}
use Rattle.ipc_heap.specs.View.{HeapView, free}
use Rattle.ipc_checkpoint.specs.Matches.{CheckpointMatches, IsSavedUnder}
use Rattle.ipc_checkpoint.specs.View.{CheckpointView, layout_of}
use Rattle.ipc_checkpoint.proofs.Putting.{device}
use Rattle.ipc_checkpoint.proofs.Saves.{PutAll, PutSome, Started, counted-two, free-new, laid-one, matches-new, SavesMeanwhile, saves-mid}
use Rattle.ipc_checkpoint.proofs.Saves.{not-full, only-one, room-one, saves-new, writes-new}
use Rattle.ipc_checkpoint.proofs.checkpoint.Checkpoint.save.Given.{Over}
use Rattle.ipc_checkpoint.proofs.checkpoint.Checkpoint.save.Goals as goal
use Rattle.ipc_checkpoint.proofs.checkpoint.Checkpoint.save.Goals.{After-flip, After-from_residual, After-keep_those_of, After-put_changed}
use Rattle.ipc_checkpoint.proofs.checkpoint.Checkpoint.save.Goals.{In_ok-put_changed, in-Ok, in-Err}

-- what the objects lack is taken out
started : (g : Over) (c : After-keep_those_of g)
    → Started (g.D.SectorDisk.size c.args.disk.now) c.args.self.now (g.O.Objects.objects c.args.objects.now) c.keep_those_of.new.heap
started g c =
    let os : PlainObjects = g.O.Objects.objects c.args.objects.now in
    let one : HeapView = c.keep_those_of.new.heap in
    let same : c.self.inside.heap ≡ c.args.self.now.heap = ap (λ (v : CheckpointView). v.heap) c.self.view_is in
    record {
      are = c.count-count.ensures.objects;
      laid = c.requires.laid_out;
      fits = c.requires.fits;
      spare = c.requires.old_fits;
      keeps = subst (λ (h : HeapView). Keeps (λ n. is_some (value_at nat_eq os n)) h one) same c.keep_those_of.ensures.keeps;
      more = subst (λ (h : HeapView). free h ≤ free one) same c.keep_those_of.ensures.free;
    }

-- some of those that have changed are put in
some : (g : Over) (c : After-put_changed g)
    → PutSome c.keep_those_of.new.heap (g.D.SectorDisk.medium c.args.disk.now) (g.D.SectorDisk.medium c.put_changed.new.disk)
some g c = record {
  moment = c.put_changed.ensures.any_moment;
  meanwhile = c.put_changed.ensures.meanwhile;
  others = c.put_changed.ensures.others;
}

-- or all
all : (g : Over) (c : In_ok-put_changed g)
    → PutAll (g.O.Objects.objects c.args.objects.now) (g.O.Objects.differs c.args.objects.now) c.keep_those_of.new.heap c.put_changed.new.heap
    (g.D.SectorDisk.medium c.args.disk.now) (g.D.SectorDisk.medium c.put_changed.new.disk)
all g c = record {
  stays = c.put_changed.ensures.stays;
  placed = c.in_ok-put_changed.ensures.placed;
  sizes = c.in_ok-put_changed.ensures.sizes;
  spends = c.in_ok-put_changed.ensures.spends;
  matches = c.in_ok-put_changed.ensures.matches;
  map = c.in_ok-put_changed.ensures.map;
}

pub put_changed-requires-clause-laid_out : goal.put_changed-requires-clause-laid_out
put_changed-requires-clause-laid_out g c = laid-one (started g (goal.at.put_changed-requires-clause-laid_out g c).After-keep_those_of)

pub put_changed-requires-clause-no_others : goal.put_changed-requires-clause-no_others
put_changed-requires-clause-no_others g c = only-one (started g (goal.at.put_changed-requires-clause-no_others g c).After-keep_those_of)

pub put_changed-requires-clause-room : goal.put_changed-requires-clause-room
put_changed-requires-clause-room g c = room-one (started g (goal.at.put_changed-requires-clause-room g c).After-keep_those_of)

-- ---- the disk fails while they are put in

module _ (g : Over) (c : After-from_residual g) where
  mid : SavesMeanwhile c.args.self.now (g.O.Objects.objects c.args.objects.now) c.args.epoch (g.D.SectorDisk.medium c.args.disk.now)
      (g.D.SectorDisk.medium c.put_changed.new.disk)
  mid =
      let at = goal.at.returns-in_err-put_changed-clause-others g c in
      saves-mid (started g at.After-keep_those_of) (some g at.After-put_changed) c.args.epoch

pub returns-in_err-put_changed-clause-any_moment : goal.returns-in_err-put_changed-clause-any_moment
returns-in_err-put_changed-clause-any_moment g c = (mid g c).moment

pub returns-in_err-put_changed-clause-meanwhile : goal.returns-in_err-put_changed-clause-meanwhile
returns-in_err-put_changed-clause-meanwhile g c = (mid g c).meanwhile

pub returns-in_err-put_changed-clause-kept : goal.returns-in_err-put_changed-clause-kept
returns-in_err-put_changed-clause-kept g c = (mid g c).kept

pub returns-in_err-put_changed-clause-others : goal.returns-in_err-put_changed-clause-others
returns-in_err-put_changed-clause-others g c = (mid g c).others

-- ---- the heap is turned over

pub flip-requires-clause-counted : goal.flip-requires-clause-counted
flip-requires-clause-counted g c =
    let at-goal = goal.at.flip-requires-clause-counted g c in
    counted-two (started g at-goal.After-keep_those_of) (all g at-goal.In_ok-put_changed)

pub returns-clause-moved : goal.returns-clause-moved
returns-clause-moved g c =
    let at-goal = goal.at.returns-clause-moved g c in
    elim c.match-flip.branch [
      | in-Ok w ↦ rw w.result-is
          (λ root saved at there.
          matches-new (started g at-goal.After-keep_those_of) (all g at-goal.In_ok-put_changed) (g.D.SectorDisk.medium c.flip.new.disk) c.flip.new.self
          c.flip.ensures.placed c.flip.ensures.range w.in-Ok.ensures.table w.in-Ok.ensures.free w.in-Ok.ensures.root c.flip.ensures.next_root
          w.in-Ok.ensures.matches w.in-Ok.ensures.map c.self.inside.area saved at there)
      | in-Err w ↦ rw w.result-is tt
    ]

pub returns-clause-matches : goal.returns-clause-matches
returns-clause-matches g c =
    let old = g.D.SectorDisk.medium c.args.disk.now in
    let os = g.O.Objects.objects c.args.objects.now in
    let Then : Type 0 = CheckpointMatches (record { area = c.self.inside.area; heap = c.flip.new.self }) os (g.D.SectorDisk.medium c.flip.new.disk) in
    let own : ((root : ℕ) (saved : PlainObjects) → IsSavedUnder root c.args.self.now saved old
    → OthersAreThere (g.O.Objects.differs c.args.objects.now) os saved → Then)
    → (saved : PlainObjects) → CheckpointMatches c.args.self.now saved old → Then =
    λ all saved at. all (layout_of c.args.self.now).root saved at (c.requires.unchanged saved at) in
    on_ok_weaker _ own (returns-clause-moved g c)

pub returns-clause-free : goal.returns-clause-free
returns-clause-free g c =
    let at-goal = goal.at.returns-clause-free g c in
    elim c.match-flip.branch [
      | in-Ok w ↦ rw w.result-is
          (free-new (started g at-goal.After-keep_those_of) (all g at-goal.In_ok-put_changed) (g.D.SectorDisk.medium c.flip.new.disk) c.flip.new.self
          c.flip.ensures.placed c.flip.ensures.range w.in-Ok.ensures.table w.in-Ok.ensures.free)
      | in-Err w ↦ rw w.result-is tt
    ]

module _ (g : Over) (c : After-flip g) where
  new : SavesMeanwhile c.args.self.now (g.O.Objects.objects c.args.objects.now) c.args.epoch (g.D.SectorDisk.medium c.args.disk.now)
      (g.D.SectorDisk.medium c.flip.new.disk)
  new =
      let at = goal.at.flip-requires-clause-counted g c.before in
      saves-new (started g at.After-keep_those_of) (all g at.In_ok-put_changed) (some g at.After-put_changed) (g.D.SectorDisk.medium c.flip.new.disk)
      c.args.epoch c.requires.unchanged c.flip.ensures.any_moment c.flip.ensures.kept c.flip.ensures.meanwhile c.flip.ensures.others

pub returns-clause-any_moment : goal.returns-clause-any_moment
returns-clause-any_moment g c = (new g (goal.at.returns-clause-any_moment g c).After-flip).moment

pub returns-clause-meanwhile : goal.returns-clause-meanwhile
returns-clause-meanwhile g c = (new g (goal.at.returns-clause-meanwhile g c).After-flip).meanwhile

pub returns-clause-kept : goal.returns-clause-kept
returns-clause-kept g c = (new g (goal.at.returns-clause-kept g c).After-flip).kept

pub returns-clause-others : goal.returns-clause-others
returns-clause-others g c = (new g (goal.at.returns-clause-others g c).After-flip).others

pub returns-clause-counts : goal.returns-clause-counts
returns-clause-counts g c =
    let at-goal = goal.at.returns-clause-counts g c in
    let first = c.in_ok-put_changed.ensures.counts.ok in
    elim c.match-flip.branch [
      | in-Ok w ↦ rw w.result-is (record { err = tt; ok = ap (λ (n : Counts). n.failures) w.in-Ok.ensures.counts ∙ first })
      | in-Err w ↦ rw w.result-is (record {
        err = w.in-Err.ensures.fault.failure (device w.in-Err.field-0 (λ full.
            not-full (started g at-goal.After-keep_those_of) (all g at-goal.In_ok-put_changed) (w.in-Err.ensures.full full)))
            ∙ ap (λ (n : ℕ). counted n 1) first;
        ok = tt;
      })
    ]

pub returns-clause-writes : goal.returns-clause-writes
returns-clause-writes g c =
    let at-goal = goal.at.returns-clause-writes g c in
    elim c.match-flip.branch [
      | in-Ok w ↦ rw w.result-is
          (writes-new (started g at-goal.After-keep_those_of) (all g at-goal.In_ok-put_changed) c.requires.unchanged
          (g.D.SectorDisk.counts c.args.disk.now) (g.D.SectorDisk.counts c.put_changed.new.disk) (g.D.SectorDisk.counts c.flip.new.disk)
          (g.met.D.SectorDisk.in_range c.args.disk.now) c.in_ok-put_changed.ensures.writes w.in-Ok.ensures.counts)
      | in-Err w ↦ rw w.result-is tt
    ]
