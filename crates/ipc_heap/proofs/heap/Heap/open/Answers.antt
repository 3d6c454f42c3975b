-- What was read is a heap, or it is damaged.
use Rattle.std.proofs.Common.{◌≡◌, ◌^◌, ◌<◌, Err, refl, sym, ap, ◌∙◌, subst, arith}
use Rattle.ipc_disk.specs.Medium.{Image, IsHonest, IsShaped}
use Rattle.ipc_disk.proofs.CallerLemmas.{Stays-join}
use Rattle.ipc_disk.specs.Standing.{sector_at}
use Rattle.ipc_heap.specs.Damage.{IsFirstDamage}
use Rattle.ipc_heap.specs.Relations.Parts.{AreThere}
use Rattle.ipc_heap.specs.Relations.Root.{IsRead}
use Rattle.ipc_heap.specs.declared.error.OpenError.TheVariants.{Damaged}
use Rattle.ipc_heap.proofs.Damages.{no-damage}
use Rattle.ipc_heap.proofs.Opens.{passed_on}
use Rattle.ipc_heap.proofs.Opened.{AreWhole, parts-heap, kept-holds, kept-matches, kept-free, kept-table}
use Rattle.ipc_heap.proofs.heap.Heap.open.Given.{Over}
use Rattle.ipc_heap.proofs.heap.Heap.open.Goals as goal
use Rattle.ipc_heap.proofs.heap.Heap.open.Goals.{In_ok-parts, In_ok-read_parts}

pub returns-in_err-found-clause-damaged : goal.returns-in_err-found-clause-damaged
returns-in_err-found-clause-damaged g c sector err honest =
    let image = (g.D.SectorDisk.medium c.args.disk.now).contents in
    let same : c.in_err-found.field-0.0 ≡ Damaged sector =
    passed_on c.from_residual.result c.in_err-found.field-0.0 (Damaged sector) c.from_residual.ensures.1 err in
    no-damage c.args.range c.args.root image sector (c.in_err-found.ensures.named sector (ap Err same) honest)

-- after the root was read the disk is as it was
same-disk : (g : Over) (c : In_ok-parts g) → IsHonest (g.D.SectorDisk.medium c.args.disk.now)
    → IsHonest (g.D.SectorDisk.medium c.read_root.new.disk) ×
    ((g.D.SectorDisk.medium c.read_root.new.disk).contents ≡ (g.D.SectorDisk.medium c.args.disk.now).contents)
same-disk g c honest =
    let reads = c.read_root.ensures.reads in
    (reads.same.honest.0 honest, (reads.stays honest).contents honest)

pub returns-in_err-read_parts-clause-damaged : goal.returns-in_err-read_parts-clause-damaged
returns-in_err-read_parts-clause-damaged g c sector err honest =
    let image = (g.D.SectorDisk.medium c.args.disk.now).contents in
    let here = same-disk g (goal.at.returns-in_err-read_parts-clause-damaged g c).In_ok-parts honest in
    let same : c.in_err-read_parts.field-0.0 ≡ Damaged sector =
    passed_on c.from_residual-in_err-read_parts.result c.in_err-read_parts.field-0.0 (Damaged sector) c.from_residual-in_err-read_parts.ensures.1 err in
    let read = c.in_ok-found.ensures.read honest in
    no-damage c.args.range c.args.root image sector
    (subst (λ (i : Image). IsFirstDamage c.args.range c.args.root i sector) here.1
    (c.in_err-read_parts.ensures.named sector (ap Err same) here.0
    (subst (λ (i : Image). IsRead (sector_at i c.args.root) c.in_ok-found.found) (sym here.1) read)))

whole : (g : Over) (c : In_ok-read_parts g) → AreWhole c.args.range c.in_ok-found.found c.read_parts.new.parts
whole g c = record { noted = c.in_ok-read_parts.ensures.noted; all = c.in_ok-read_parts.ensures.all; sound = c.in_ok-found.ensures.sound }

pub invariant_of-result : goal.invariant_of-result
invariant_of-result g c =
    let done = c.in_ok-read_parts.ensures in
    parts-heap (whole g (goal.at.invariant_of-result g c).In_ok-read_parts) (omega (arith, done.capacity, c.in_ok-parts.ensures.words))
    (omega (arith, done.table_capacity, c.in_ok-parts.ensures.table))

module _ (g : Over) (c : In_ok-read_parts g) (honest : IsHonest (g.D.SectorDisk.medium c.args.disk.now))
    (here : IsHonest (g.D.SectorDisk.medium c.read_root.new.disk)
    × ((g.D.SectorDisk.medium c.read_root.new.disk).contents ≡ (g.D.SectorDisk.medium c.args.disk.now).contents)) where
  abbrev image : Image
  image = (g.D.SectorDisk.medium c.args.disk.now).contents

  read : IsRead (sector_at image c.args.root) c.in_ok-found.found
  read = c.in_ok-found.ensures.read honest

  there : AreThere c.args.range c.args.root image c.read_parts.new.parts
  there =
      subst (λ (i : Image). AreThere c.args.range c.args.root i c.read_parts.new.parts) here.1
      (c.in_ok-read_parts.ensures.stand here.0 (subst (λ (i : Image). IsRead (sector_at i c.args.root) c.in_ok-found.found) (sym here.1) read))

  fits : c.in_ok-found.found.len < 2 ^ 32
  fits = omega arith

  shaped : IsShaped (g.D.SectorDisk.size c.args.disk.now) image
  shaped = g.met.D.SectorDisk.shaped c.args.disk.now image honest.reads

pub returns-clause-holds : goal.returns-clause-holds
returns-clause-holds g c honest =
    let m = (goal.at.returns-clause-holds g c).In_ok-read_parts in
    let here = same-disk g (goal.at.returns-clause-holds g c).In_ok-parts honest in
    kept-holds (whole g m) (read g m honest here) (there g m honest here) (shaped g m honest here) c.requires.laid_out.within (fits g m honest here)
    (g.D.SectorDisk.medium c.args.disk.now) refl

pub returns-clause-matches : goal.returns-clause-matches
returns-clause-matches g c honest durable =
    let m = (goal.at.returns-clause-matches g c).In_ok-read_parts in
    let here = same-disk g (goal.at.returns-clause-matches g c).In_ok-parts honest in
    let stays = Stays-join (g.D.SectorDisk.medium c.args.disk.now) (g.D.SectorDisk.medium c.read_root.new.disk) (g.D.SectorDisk.medium c.read_parts.new.disk)
    honest (c.read_root.ensures.reads.stays honest) (c.read_parts.ensures.reads.stays here.0) in
    kept-matches (whole g m) (read g m honest here) (there g m honest here) (shaped g m honest here) c.requires.laid_out.within (fits g m honest here)
    (g.D.SectorDisk.medium c.read_parts.new.disk) (stays.contents honest) c.requires.laid_out.apart (stays.time.honest.0 honest)
    (λ i now. durable i (stays.images i now) ∙ sym (stays.contents honest))

pub returns-clause-free : goal.returns-clause-free
returns-clause-free g c = kept-free (whole g (goal.at.returns-clause-free g c).In_ok-read_parts)

pub returns-clause-table : goal.returns-clause-table
returns-clause-table g c = kept-table (whole g (goal.at.returns-clause-table g c).In_ok-read_parts) c.in_ok-read_parts.ensures.table
