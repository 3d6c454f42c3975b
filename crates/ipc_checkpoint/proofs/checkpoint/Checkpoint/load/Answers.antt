-- The heap, and its objects.
use Rattle.std.proofs.Common.{◌≡◌, ℕ, map, refl, sym, ap, subst, ◌∙◌}
use Rattle.std.specs.Prelude.{Result, Ok, Err, IsErrAnd, IsErrOf}
use Rattle.ipc_base.specs.Objects.{PlainObjects}
use Rattle.ipc_disk.specs.Medium.{Image}
use Rattle.ipc_heap.specs.declared.error.OpenError.{OpenError}
use Rattle.ipc_heap.specs.declared.error.OpenError.TheVariants as opens
use Rattle.ipc_heap.specs.Heap.{object_on}
use Rattle.ipc_disk.specs.declared.range.Range.{Range}
use Rattle.ipc_heap.specs.Matches.{HeapMatches}
use Rattle.ipc_heap.specs.View.{map_of}
use Rattle.ipc_heap.proofs.CallerLemmas.{HeapMatches-stays}
use Rattle.ipc_checkpoint.specs.declared.error.LoadError.{LoadError}
use Rattle.ipc_checkpoint.specs.declared.error.LoadError.TheVariants.{Damaged}
use Rattle.ipc_checkpoint.specs.View.{of_open_error}
use Rattle.ipc_checkpoint.proofs.Saves.{its-free}
use Rattle.ipc_checkpoint.proofs.checkpoint.Checkpoint.load.Goals as goal

-- a damage that is passed on
damage : (came : OpenError) (sector : ℕ) → of_open_error came ≡ Damaged sector → came ≡ opens.Damaged sector
damage opens.Device sector is = cc
damage (opens.Damaged at) sector is = let same : at ≡ sector = cc in ap (λ (n : ℕ). opens.Damaged n) same
damage opens.NoMemory sector is = cc

passed_on : {T : Type 0} (r : Result T LoadError) (came : OpenError) (sector : ℕ) → IsErrAnd r (λ y. y ≡ of_open_error came) → IsErrOf r (Damaged sector)
    → came ≡ opens.Damaged sector
passed_on (Ok x) came sector is bad = cc
passed_on (Err e) came sector is bad = let same : e ≡ Damaged sector = cc in damage came sector (sym is ∙ same)

pub open-requires : goal.open-requires
open-requires g c =
    let laid = c.requires.laid_out in
    record { laid_out = record { within = laid.within; root_there = laid.root; apart = laid.apart; not_first = laid.not_first } }

pub returns-in_err-heap-clause-damaged : goal.returns-in_err-heap-clause-damaged
returns-in_err-heap-clause-damaged g c sector err =
    c.in_err-heap.ensures.damaged sector
    (ap Err (passed_on c.from_residual.result c.in_err-heap.field-0.0 sector c.from_residual.ensures.1 err))

pub returns-in_err-heap-clause-first : goal.returns-in_err-heap-clause-first
returns-in_err-heap-clause-first g c sector err =
    c.in_err-heap.ensures.named sector
    (ap Err (passed_on c.from_residual.result c.in_err-heap.field-0.0 sector c.from_residual.ensures.1 err))

pub returns-in_err-heap-clause-named : goal.returns-in_err-heap-clause-named
returns-in_err-heap-clause-named g c sector err =
    c.in_err-heap.ensures.own sector
    (ap Err (passed_on c.from_residual.result c.in_err-heap.field-0.0 sector c.from_residual.ensures.1 err))

pub returns-clause-free : goal.returns-clause-free
returns-clause-free g c =
    its-free c.in_ok-heap.heap c.in_ok-objects.objects c.in_ok-objects.ensures.placed (sym c.in_ok-objects.ensures.sizes) c.in_ok-heap.heap
    c.args.layout.range.count refl c.in_ok-heap.ensures.table c.in_ok-heap.ensures.free

pub returns-clause-matches : goal.returns-clause-matches
returns-clause-matches g c = λ honest durable.
    let mid = g.D.SectorDisk.medium c.open.new.disk in
    let new = g.D.SectorDisk.medium c.read_objects.new.disk in
    let h = c.in_ok-heap.heap in
    let here = c.open.ensures.reads.same.honest.0 honest in
    let objects : c.in_ok-objects.objects ≡ map_of h mid = c.in_ok-objects.ensures.objects here in
    let matches = c.in_ok-heap.ensures.matches honest durable in
    let call = c.read_objects.ensures.reads.stays here in
    record {
      matches = subst (λ (l : PlainObjects). HeapMatches h l new) (sym objects) (HeapMatches-stays h (map_of h mid) mid new call matches);
      under = c.in_ok-heap.ensures.root ∙ sym c.in_ok-heap.ensures.next_root;
      map = ap (λ (i : Image). map (object_on i) h.placed) (call.contents here) ∙ sym objects;
      inside = c.in_ok-objects.ensures.placed.inside;
      free = its-free h c.in_ok-objects.objects c.in_ok-objects.ensures.placed (sym c.in_ok-objects.ensures.sizes) h
          h.range.count refl c.in_ok-heap.ensures.table (c.in_ok-heap.ensures.free ∙ ap (λ (r : Range). r.count) (sym c.in_ok-heap.ensures.range));
    }
