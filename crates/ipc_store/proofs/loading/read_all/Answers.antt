-- The superblock, and then the rest: what was read is what stood there before.
use Rattle.std.proofs.Common.{refl, sym, subst}
use Rattle.std.proofs.lemmas.Result.{IfErr-weaker, IfOk-weaker}
use Rattle.ipc_disk.proofs.CallerLemmas.{OnlyReads-ok, OnlyReads-then}
use Rattle.ipc_disk.specs.Medium.{Image, IsHonest}
use Rattle.ipc_image.specs.declared.format.Format.{Format}
use Rattle.ipc_store.specs.Image.{form_at, StandsFor}
use Rattle.ipc_store.specs.Refusals.{IsRefusal}
use Rattle.ipc_store.specs.Relations.Loading.{IsFoundDamaged, IsNamedIn}
use Rattle.ipc_store.proofs.Loaded.{stays-durable}
use Rattle.ipc_store.proofs.Refusals.{damage-map, damage-refused, passed, superblock-refused}
use Rattle.ipc_store.proofs.loading.read_all.Given.{Over}
use Rattle.ipc_store.proofs.loading.read_all.Goals as goal
use Rattle.ipc_store.proofs.loading.read_all.Goals.{In_ok-form}

-- the superblock is that of the image
named : (g : Over) (c : In_ok-form g) → IsHonest (g.D.SectorDisk.medium c.args.disk.now)
    → IsNamedIn c.in_ok-form.form c.in_ok-form.superblock (g.D.SectorDisk.medium c.load_superblock.new.disk).contents
named g c honest =
    subst (IsNamedIn c.in_ok-form.form c.in_ok-form.superblock) (sym ((c.load_superblock.ensures.reads.stays honest).contents honest))
    (c.in_ok-form.ensures.device honest)

pub read_named-requires-clause-form : goal.read_named-requires-clause-form
read_named-requires-clause-form g c = c.in_ok-form.ensures.opened refl

pub returns-in_err-form-clause-refused : goal.returns-in_err-form-clause-refused
returns-in_err-form-clause-refused g c =
    passed _ c.from_residual.result c.in_err-form.field-0.0 c.from_residual.ensures.1
    (λ honest. superblock-refused (form_at (g.D.SectorDisk.medium c.args.disk.now).contents) _ c.in_err-form.field-0.0
    (c.in_err-form.ensures.refused honest))

pub returns-clause-refused : goal.returns-clause-refused
returns-clause-refused g c = IfErr-weaker c.read_named.result _ _
    (λ error damage honest.
    let here = (goal.at.returns-clause-refused g c).In_ok-form in
    let image : Image = (g.D.SectorDisk.medium c.load_superblock.new.disk).contents in
    let form = c.in_ok-form.form in
    let s1 = c.load_superblock.ensures.reads.stays honest in
    subst (λ (f : Format). IsRefusal f (g.D.SectorDisk.medium c.args.disk.now).contents error) (c.in_ok-form.ensures.form honest)
    (subst (λ (i : Image). IsRefusal form i error) (s1.contents honest)
    (damage-refused form image error (damage-map _ (IsFoundDamaged form image) error
    (λ sector found. found (s1.time.honest.0 honest) (named g here honest)) damage))))
    c.read_named.ensures.refused

pub returns-clause-stands : goal.returns-clause-stands
returns-clause-stands g c = IfOk-weaker c.read_named.result _ _
    (λ found stands honest.
    let s1 = c.load_superblock.ensures.reads.stays honest in
    subst (StandsFor found.2.limits found.2.state) (s1.contents honest)
    (stands (s1.time.honest.0 honest) (named g (goal.at.returns-clause-stands g c).In_ok-form honest)))
    c.read_named.ensures.stands

pub returns-clause-loaded : goal.returns-clause-loaded
returns-clause-loaded g c = IfOk-weaker c.read_named.result _ _
    (λ found loaded honest durable.
    let s1 = c.load_superblock.ensures.reads.stays honest in
    loaded (s1.time.honest.0 honest) (stays-durable _ _ honest s1 durable) (named g (goal.at.returns-clause-loaded g c).In_ok-form honest))
    c.read_named.ensures.loaded

pub returns-clause-reads : goal.returns-clause-reads
returns-clause-reads g c = OnlyReads-then (OnlyReads-ok (λ failed. cc) c.in_ok-form.ensures.reads) c.read_named.ensures.reads
