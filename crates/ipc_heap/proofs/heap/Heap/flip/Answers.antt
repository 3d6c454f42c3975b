-- A heap is turned over: what is saved is the map, in sectors that were free.
use Rattle.std.proofs.Common.{◌≡◌, ◌≢◌, ℕ, ◌+◌, ◌*◌, ◌^◌, ◌<◌, ◌≤◌, true, List, length, map, refl, sym, ap, subst, ◌∙◌, arith}
use Rattle.std.specs.Prelude.{All, Contains, nat_eq}
use Rattle.std.specs.List.{IsDistinct}
use Rattle.std.proofs.lemmas.Option.{slice_get_within}
use Rattle.std.proofs.lemmas.List.{length-map}
use Rattle.ipc_base.specs.Objects.{PlainObjects}
use Rattle.ipc_disk.specs.Counts.{with_calls}
use Rattle.ipc_disk.specs.Medium.{Medium, IsHonest}
use Rattle.ipc_disk.specs.Since.{EachImageSince, LeavesAlone}
use Rattle.ipc_heap.specs.declared.uses.Use.{Use}
use Rattle.ipc_heap.specs.Heap.{IsLaidOut, table_sectors_for, table_words}
use Rattle.ipc_heap.specs.Matches.{HeapMatches}
use Rattle.ipc_heap.specs.View.{HeapView, free, map_of, turned}
use Rattle.ipc_heap.specs.Relations.Flip.{IsEither, IsTurned}
use Rattle.ipc_heap.specs.Relations.Uses.{AreGiven, AreTaken}
use Rattle.ipc_heap.specs.Relations.Words.{IsHeap, placed_in}
use Rattle.ipc_heap.proofs.Changes.{both-inside, both-once, flipped-free, flipped-heap, saved-noted, seen, turned-next, words-room}
use Rattle.ipc_heap.proofs.Flips.{flip-matches, root-apart, table-within, HasNext, objects-turned, TurnsOver, turns-over, turns-none}
use Rattle.ipc_heap.proofs.heap.Heap.flip.Given.{Over}
use Rattle.ipc_heap.proofs.heap.Heap.flip.Goals as goal
use Rattle.ipc_heap.proofs.heap.Heap.flip.Goals.{After-self-in-Ok-1, After-take_table, After-deref-3}

-- ---- the sectors of the table are taken

module _ (g : Over) (c : After-take_table g) where
  laid : IsLaidOut c.self.inside.range c.self.inside.next_root (g.D.SectorDisk.size c.args.disk.now)
  laid = subst (λ (v : HeapView). IsLaidOut v.range v.next_root (g.D.SectorDisk.size c.args.disk.now)) (sym c.self.view_is) c.requires.laid_out

  abbrev view : HeapView
  view = seen c.self.inside.range c.self.inside.root c.self.inside.next_root c.self.inside.epoch c.self.inside.words c.self.inside.table c.self.inside.uses

  taken : AreTaken c.self.inside.range.first c.self.inside.uses c.take_table.new.table.items c.take_table.new.uses
  taken = c.take_table.ensures.taken

  -- they are given back to uses that are as long as these
  inside-of : (uses : List Use) (table : List ℕ) → length uses ≡ length c.take_table.new.uses → table ≡ c.take_table.new.table.items
      → All (λ s. (c.self.inside.range.first ≤ s) × (s < c.self.inside.range.first + length uses)) table
  inside-of uses table long is =
      subst (All (λ s. (c.self.inside.range.first ≤ s) × (s < c.self.inside.range.first + length uses))) (sym is)
      (λ k d less. let free = taken.were_free k d less in
      (free.0, omega (arith, free.0, slice_get_within c.self.inside.uses _ free.1 free.2, taken.long, long)))

  -- a heap whose table's sectors were taken and given back
  back-to : (table : List ℕ) (new_uses : List Use) → table ≡ c.take_table.new.table.items
      → AreGiven c.self.inside.range.first c.take_table.new.uses table new_uses
      → IsHeap c.self.inside.range c.self.inside.words c.take_table.new.table new_uses
  back-to table new_uses is given =
      flipped-heap c.take_table.new.table new_uses c.self.invariant taken refl refl
      (subst (λ (l : List ℕ). AreGiven c.self.inside.range.first c.take_table.new.uses l new_uses) is given) c.take_table.ensures.capacity

  -- there were enough of them
  next : c.take_table.result ≡ true
      → HasNext view (g.D.SectorDisk.size c.args.disk.now) c.self.inside.words.items c.take_table.new.table.items c.args.epoch
  next on = record {
    laid = laid;
    later = subst (λ (v : HeapView). v.epoch < c.args.epoch) (sym c.self.view_is) c.requires.later;
    are = c.self.invariant.is_table;
    allocated = record {
      numbers = c.self.invariant.numbers;
      sizes = c.self.invariant.sizes;
      table = c.take_table.ensures.all on
          ∙ omega (arith, c.div_ceil-count.ensures, c.len.ensures, c.self.inside.words.ok.0, ap length c.self.invariant.is_table);
      inside = both-inside c.self.invariant taken;
      once = both-once c.self.invariant taken;
    };
    all = c.self.invariant.all_uses;
    free = taken.were_free;
  }

module _ (g : Over) (c : After-deref-3 g) where
  abbrev m : After-take_table g
  m = (goal.at.save_table-requires-clause-once g c).After-take_table

  -- the table as it is written
  ready : HasNext (view g m) (g.D.SectorDisk.size c.args.disk.now) c.deref-2.result.now c.deref-3.result.now c.args.epoch
  ready = rw (c.deref-2.ensures.value, c.deref-3.ensures.value) (next g m c.if-not-take_table.false)

  turns : (new : Medium) → (IsHonest (g.D.SectorDisk.medium c.args.disk.now) → EachImageSince (g.D.SectorDisk.medium c.args.disk.now) new
      (IsEither c.deref-2.result.now c.deref-3.result.now c.self.inside.next_root c.args.epoch (g.D.SectorDisk.medium c.args.disk.now)))
      → (IsHonest (g.D.SectorDisk.medium c.args.disk.now)
      → LeavesAlone (λ i. (Contains c.deref-3.result.now i → ⊥) × (i ≢ c.self.inside.next_root)) (g.D.SectorDisk.medium c.args.disk.now) new)
      → TurnsOver c.args.self.now c.args.epoch (g.D.SectorDisk.medium c.args.disk.now) new
  turns new since run =
      subst (λ (v : HeapView). TurnsOver v c.args.epoch (g.D.SectorDisk.medium c.args.disk.now) new) c.self.view_is
      (turns-over ready (g.D.SectorDisk.medium c.args.disk.now) new since run)

pub take_table-requires-clause-fits : goal.take_table-requires-clause-fits
take_table-requires-clause-fits g c =
    let within = subst (λ (v : HeapView). v.range.first + v.range.count ≤ g.D.SectorDisk.size c.args.disk.now)
    (sym c.self.view_is) c.requires.laid_out.within in
    omega (arith, within, c.self.invariant.all_uses, g.met.D.SectorDisk.fits c.args.disk.now)

pub take_table-requires-clause-room : goal.take_table-requires-clause-room
take_table-requires-clause-room g c =
    let h = c.self.inside in
    omega (arith, words-room c.self.invariant, c.self.invariant.table_room, c.div_ceil-count.ensures, c.len.ensures, h.words.ok.0)

-- ---- there were not enough sectors

pub give_back-requires : goal.give_back-requires
give_back-requires g c =
    let m = (goal.at.give_back-requires g c).After-take_table in
    inside-of g m _ _ refl c.deref.ensures.value

pub invariant_of-self : goal.invariant_of-self
invariant_of-self g c =
    let m = (goal.at.invariant_of-self g c).After-take_table in
    back-to g m c.deref.result.now c.give_back.new.self c.deref.ensures.value c.give_back.ensures

module _ (g : Over) (c : After-take_table g) where
  none : TurnsOver c.args.self.now c.args.epoch (g.D.SectorDisk.medium c.args.disk.now) (g.D.SectorDisk.medium c.args.disk.now)
  none = turns-none c.args.self.now c.args.epoch (g.D.SectorDisk.medium c.args.disk.now) (λ image left. g.met.D.SectorDisk.only_now c.args.disk.now image left)

pub returns-then-not-take_table-clause-any_moment : goal.returns-then-not-take_table-clause-any_moment
returns-then-not-take_table-clause-any_moment g c = (none g (goal.at.returns-then-not-take_table-clause-any_moment g c).After-take_table).moment

pub returns-then-not-take_table-clause-kept : goal.returns-then-not-take_table-clause-kept
returns-then-not-take_table-clause-kept g c = (none g (goal.at.returns-then-not-take_table-clause-kept g c).After-take_table).kept

pub returns-then-not-take_table-clause-meanwhile : goal.returns-then-not-take_table-clause-meanwhile
returns-then-not-take_table-clause-meanwhile g c = (none g (goal.at.returns-then-not-take_table-clause-meanwhile g c).After-take_table).meanwhile

pub returns-then-not-take_table-clause-others : goal.returns-then-not-take_table-clause-others
returns-then-not-take_table-clause-others g c = (none g (goal.at.returns-then-not-take_table-clause-others g c).After-take_table).others

pub returns-then-not-take_table-clause-full : goal.returns-then-not-take_table-clause-full
returns-then-not-take_table-clause-full g c = λ full.
    subst (λ (v : HeapView). free v < table_sectors_for (length (table_words v.placed))) c.self.view_is
    (omega (
      arith,
      c.take_table.ensures.full c.if-not-take_table.true,
      c.div_ceil-count.ensures,
      c.len.ensures,
      c.self.inside.words.ok.0,
      ap length c.self.invariant.is_table,
    ))

-- ---- the table and the root are written

pub save_table-requires-clause-within : goal.save_table-requires-clause-within
save_table-requires-clause-within g c = table-within (ready g c)

pub save_table-requires-clause-once : goal.save_table-requires-clause-once
save_table-requires-clause-once g c = subst (IsDistinct nat_eq) (sym c.deref-3.ensures.value) c.take_table.ensures.taken.once

pub save_table-requires-clause-all : goal.save_table-requires-clause-all
save_table-requires-clause-all g c = (ready g c).allocated.table ∙ ap (λ (l : List ℕ). table_sectors_for (length l)) (sym (ready g c).are)

pub save_table-requires-clause-some : goal.save_table-requires-clause-some
save_table-requires-clause-some g c = omega (arith, ap length (ready g c).are)

pub save_table-requires-clause-counted : goal.save_table-requires-clause-counted
save_table-requires-clause-counted g c =
    let counted : 4 * length (table_words (placed_in c.self.inside.words.items)) < 2 ^ 32 =
    subst (λ (v : HeapView). 4 * length (table_words v.placed) < 2 ^ 32) (sym c.self.view_is) c.requires.counted in
    omega (arith, counted, ap length (ready g c).are)

pub save_table-requires-clause-root_there : goal.save_table-requires-clause-root_there
save_table-requires-clause-root_there g c = (ready g c).laid.root_there

pub save_table-requires-clause-root_apart : goal.save_table-requires-clause-root_apart
save_table-requires-clause-root_apart g c = root-apart (ready g c) c.self.inside.next_root (ready g c).laid.apart

pub returns-in-Err-clause-any_moment : goal.returns-in-Err-clause-any_moment
returns-in-Err-clause-any_moment g c =
    (turns g (goal.at.returns-in-Err-clause-any_moment g c).After-deref-3 _ c.save_table.ensures.any_moment c.save_table.ensures.others).moment

pub returns-in-Err-clause-kept : goal.returns-in-Err-clause-kept
returns-in-Err-clause-kept g c =
    (turns g (goal.at.returns-in-Err-clause-kept g c).After-deref-3 _ c.save_table.ensures.any_moment c.save_table.ensures.others).kept

pub returns-in-Err-clause-meanwhile : goal.returns-in-Err-clause-meanwhile
returns-in-Err-clause-meanwhile g c =
    (turns g (goal.at.returns-in-Err-clause-meanwhile g c).After-deref-3 _ c.save_table.ensures.any_moment c.save_table.ensures.others).meanwhile

pub returns-in-Err-clause-others : goal.returns-in-Err-clause-others
returns-in-Err-clause-others g c =
    (turns g (goal.at.returns-in-Err-clause-others g c).After-deref-3 _ c.save_table.ensures.any_moment c.save_table.ensures.others).others

pub returns-in-Ok-clause-any_moment : goal.returns-in-Ok-clause-any_moment
returns-in-Ok-clause-any_moment g c =
    (turns g (goal.at.returns-in-Ok-clause-any_moment g c).After-deref-3 _ c.save_table.ensures.any_moment c.save_table.ensures.others).moment

pub returns-in-Ok-clause-kept : goal.returns-in-Ok-clause-kept
returns-in-Ok-clause-kept g c =
    (turns g (goal.at.returns-in-Ok-clause-kept g c).After-deref-3 _ c.save_table.ensures.any_moment c.save_table.ensures.others).kept

pub returns-in-Ok-clause-meanwhile : goal.returns-in-Ok-clause-meanwhile
returns-in-Ok-clause-meanwhile g c =
    (turns g (goal.at.returns-in-Ok-clause-meanwhile g c).After-deref-3 _ c.save_table.ensures.any_moment c.save_table.ensures.others).meanwhile

pub returns-in-Ok-clause-others : goal.returns-in-Ok-clause-others
returns-in-Ok-clause-others g c =
    (turns g (goal.at.returns-in-Ok-clause-others g c).After-deref-3 _ c.save_table.ensures.any_moment c.save_table.ensures.others).others

pub give_back-requires-in-Err : goal.give_back-requires-in-Err
give_back-requires-in-Err g c =
    let m = (goal.at.give_back-requires-in-Err g c).After-take_table in
    inside-of g m _ _ refl c.deref-in-Err.ensures.value

pub invariant_of-self-in-Err : goal.invariant_of-self-in-Err
invariant_of-self-in-Err g c =
    let m = (goal.at.invariant_of-self-in-Err g c).After-take_table in
    back-to g m c.deref-in-Err.result.now c.give_back-in-Err.new.self c.deref-in-Err.ensures.value c.give_back-in-Err.ensures

-- ---- the uses are turned over

module _ (g : Over) (c : After-self-in-Ok-1 g) where
  abbrev t : After-take_table g
  t = (goal.at.invariant_of-self-in-Ok g c).After-take_table

  given : AreGiven c.self.inside.range.first (map turned c.take_table.new.uses) c.take_table.new.table.items c.give_back-in-Ok.new.self
  given = rw (c.turn_over.ensures, c.deref-in-Ok.ensures.value) at c.give_back-in-Ok.ensures

  heap : IsHeap c.self.inside.range c.self.inside.words c.take_table.new.table c.give_back-in-Ok.new.self
  heap =
      flipped-heap c.take_table.new.table c.give_back-in-Ok.new.self c.self.invariant (taken g t) (turned-next c.take_table.new.uses)
      (length-map c.take_table.new.uses turned) given c.take_table.ensures.capacity

  turned-is : IsHonest (g.D.SectorDisk.medium c.args.disk.now)
      → IsTurned c.self.inside.words.items c.take_table.new.table.items c.self.inside.next_root c.args.epoch
      (g.D.SectorDisk.medium c.args.disk.now).contents (g.D.SectorDisk.medium c.save_table.new.disk).contents
  turned-is honest = rw (c.deref-2.ensures.value, c.deref-3.ensures.value) at (c.in-Ok.ensures.turned honest)

  abbrev later : HeapView
  later =
      seen c.self.inside.range c.self.inside.next_root c.self.inside.next_root c.args.epoch c.self.inside.words c.take_table.new.table
      c.give_back-in-Ok.new.self

pub give_back-requires-in-Ok : goal.give_back-requires-in-Ok
give_back-requires-in-Ok g c =
    let m = (goal.at.give_back-requires-in-Ok g c).After-take_table in
    inside-of g m _ _ (ap length c.turn_over.ensures ∙ length-map c.take_table.new.uses turned) c.deref-in-Ok.ensures.value

pub invariant_of-self-in-Ok : goal.invariant_of-self-in-Ok
invariant_of-self-in-Ok g c = heap g c

pub returns-in-Ok-clause-matches : goal.returns-in-Ok-clause-matches
returns-in-Ok-clause-matches g c =
    let old = g.D.SectorDisk.medium c.args.disk.now in
    let new = g.D.SectorDisk.medium c.save_table.new.disk in
    subst (λ (v : HeapView). (saved : PlainObjects) → HeapMatches v saved old → HeapMatches (later g c) (map_of v old) new) c.self.view_is
    (λ saved matches. flip-matches (next g (t g c) c.if-not-take_table.false) old new matches.are (c.save_table.ensures.same.honest.0 matches.honest)
    c.in-Ok.ensures.durable (turned-is g c matches.honest) c.give_back-in-Ok.new.self (heap g c).all_uses
    (saved-noted c.self.invariant (taken g (t g c)) c.give_back-in-Ok.new.self (given g c)) (heap g c).next_uses)

pub returns-in-Ok-clause-map : goal.returns-in-Ok-clause-map
returns-in-Ok-clause-map g c =
    let old = g.D.SectorDisk.medium c.args.disk.now in
    let new = g.D.SectorDisk.medium c.save_table.new.disk in
    subst (λ (v : HeapView). (saved : PlainObjects) → HeapMatches v saved old → map_of (later g c) new ≡ map_of v old) c.self.view_is
    (λ saved matches. sym (objects-turned (next g (t g c) c.if-not-take_table.false) old.contents new.contents (turned-is g c matches.honest)))

pub returns-in-Ok-clause-table : goal.returns-in-Ok-clause-table
returns-in-Ok-clause-table g c =
    (next g (t g c) c.if-not-take_table.false).allocated.table
    ∙ ap (λ (v : HeapView). table_sectors_for (length (table_words v.placed))) c.self.view_is

pub returns-in-Ok-clause-free : goal.returns-in-Ok-clause-free
returns-in-Ok-clause-free g c = flipped-free c.self.invariant (taken g (t g c)) c.give_back-in-Ok.new.self (given g c)

pub returns-in-Ok-clause-counts : goal.returns-in-Ok-clause-counts
returns-in-Ok-clause-counts g c =
    c.in-Ok.ensures.counts.ok
    ∙ ap (λ (n : ℕ). with_calls (n + 1) 2 (g.D.SectorDisk.counts c.args.disk.now)) (ap length c.deref-3.ensures.value ∙ returns-in-Ok-clause-table g c)

pub returns-then-not-take_table-clause-placed : goal.returns-then-not-take_table-clause-placed
returns-then-not-take_table-clause-placed g c = ap (λ (v : HeapView). v.placed) c.self.view_is

pub returns-in-Err-clause-placed : goal.returns-in-Err-clause-placed
returns-in-Err-clause-placed g c = ap (λ (v : HeapView). v.placed) c.self.view_is

pub returns-in-Ok-clause-placed : goal.returns-in-Ok-clause-placed
returns-in-Ok-clause-placed g c = ap (λ (v : HeapView). v.placed) c.self.view_is
