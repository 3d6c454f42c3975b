use Rattle.std.proofs.Common.{◌≡◌, inr, ◌≤◌, sym, ap, subst, ◌∙◌, Err, arith}
use Rattle.ipc_disk.specs.Medium.{Image}
use Rattle.ipc_store.proofs.Loaded.{OnlyReads-call, OnlyReads-never}
use Rattle.ipc_image.specs.Superblock.{IsFormatted, named_form}
use Rattle.ipc_store.proofs.Faults.{ok-device, format-device}
use Rattle.ipc_store.proofs.Superblocks.{sector-read, is_device, has_named_version, is_damaged}
use Rattle.ipc_disk.specs.Medium.{IsHonest}
use Rattle.ipc_disk.specs.Standing.{sector_at}
use Rattle.ipc_image.specs.declared.format.Format.{Format}
use Rattle.ipc_image.specs.Superblock.{AreOf}
use Rattle.ipc_image.proofs.CallerLemmas.{named-device}
use Rattle.ipc_store.specs.Refusals.{IsNoSuperblock}
use Rattle.ipc_store.specs.Relations.Loading.{form_for}
use Rattle.ipc_store.specs.declared.places.Versions.{Versions}
use Rattle.ipc_store.proofs.loading.load_superblock.Given.{Over}
use Rattle.ipc_store.proofs.loading.load_superblock.Goals as goal
use Rattle.ipc_store.proofs.loading.load_superblock.Goals.{After-read_superblock}

-- the form is that of the image's first sector
named : (g : Over) (c : After-read_superblock g) → IsHonest (g.D.SectorDisk.medium c.args.disk.now)
    → c.form-form.result ≡ form_for c.args.versions (sector_at (g.D.SectorDisk.medium c.args.disk.now).contents 0)
named g c honest =
    c.form-form.ensures.is
    ∙ ap (form_for c.args.versions) (sym (sector-read (g.D.SectorDisk.medium c.args.disk.now).contents 0 c.read.new.into (c.in_ok-read.ensures.bytes honest)))

pub returns-in-Ok-clause-form : goal.returns-in-Ok-clause-form
returns-in-Ok-clause-form g c = named g (goal.at.returns-in-Ok-clause-form g c).After-read_superblock

pub returns-in-Ok-clause-old : goal.returns-in-Ok-clause-old
returns-in-Ok-clause-old g c = λ one. c.form-form.ensures.is ∙ ap (λ (v : Versions). form_for v c.read.new.into) one

pub returns-in-Ok-clause-two : goal.returns-in-Ok-clause-two
returns-in-Ok-clause-two g c = λ two. c.form-form.ensures.is ∙ ap (λ (v : Versions). form_for v c.read.new.into) two

pub returns-in-Ok-clause-opened : goal.returns-in-Ok-clause-opened
returns-in-Ok-clause-opened g c = λ opened.
    let is : c.form-form.result ≡ named_form c.read.new.into = c.form-form.ensures.is ∙ ap (λ (v : Versions). form_for v c.read.new.into) opened in
    is ∙ named-device c.read.new.into c.in-Ok.superblock.limits (subst (λ (f : Format). AreOf f c.in-Ok.superblock.limits) is c.in-Ok.ensures.of)

pub returns-in-Ok-clause-device : goal.returns-in-Ok-clause-device
returns-in-Ok-clause-device g c = λ honest.
    let size = g.D.SectorDisk.size c.args.disk.now in
    let image : Image = (g.D.SectorDisk.medium c.args.disk.now).contents in
    is_device c.form-form.result c.form-form.ensures.known image size c.read.new.into (g.met.D.SectorDisk.shaped c.args.disk.now image honest.reads).count
    (sector-read image 0 c.read.new.into (c.in_ok-read.ensures.bytes honest)) (g.met.D.SectorDisk.fits c.args.disk.now)
    c.in-Ok.superblock (omega (arith, c.in-Ok.ensures.room, c.sectors-sectors.ensures)) c.in-Ok.ensures.ok

pub returns-in-Err-NotFormatted-clause-refused : goal.returns-in-Err-NotFormatted-clause-refused
returns-in-Err-NotFormatted-clause-refused g c = λ honest.
    let image : Image = (g.D.SectorDisk.medium c.args.disk.now).contents in
    let read = sector-read image 0 c.read.new.into (c.in_ok-read.ensures.bytes honest) in
    inr (λ formatted. c.read_superblock.ensures.not_formatted.0 (c.in-Err-NotFormatted.is ∙ ap Err c.in-Err-NotFormatted.field-0-is)
    (subst IsFormatted read formatted))

pub returns-in-Err-Version-clause-refused : goal.returns-in-Err-Version-clause-refused
returns-in-Err-Version-clause-refused g c = λ honest.
    let image : Image = (g.D.SectorDisk.medium c.args.disk.now).contents in
    let whole = (g.met.D.SectorDisk.shaped c.args.disk.now image honest.reads).count in
    let read = sector-read image 0 c.read.new.into (c.in_ok-read.ensures.bytes honest) in
    let large : 3 ≤ g.D.SectorDisk.size c.args.disk.now = omega (arith, c.sectors-sectors.ensures, c.if-sectors-lt-LEAST_SECTORS.false) in
    rw c.in-Err-Version.field-0-is (has_named_version (named g (goal.at.returns-in-Err-Version-clause-refused g c).After-read_superblock honest) image
    (g.D.SectorDisk.size c.args.disk.now) c.read.new.into whole read large c.in-Err-Version.found
    ((c.read_superblock.ensures.version c.in-Err-Version.found).0 (c.in-Err-Version.is ∙ ap Err c.in-Err-Version.field-0-is)))

pub returns-in-Err-Damaged-clause-refused : goal.returns-in-Err-Damaged-clause-refused
returns-in-Err-Damaged-clause-refused g c = λ honest.
    let image : Image = (g.D.SectorDisk.medium c.args.disk.now).contents in
    let whole = (g.met.D.SectorDisk.shaped c.args.disk.now image honest.reads).count in
    let read = sector-read image 0 c.read.new.into (c.in_ok-read.ensures.bytes honest) in
    let large : 3 ≤ g.D.SectorDisk.size c.args.disk.now = omega (arith, c.sectors-sectors.ensures, c.if-sectors-lt-LEAST_SECTORS.false) in
    subst (λ (f : Format). IsNoSuperblock f image 0) (named g (goal.at.returns-in-Err-Damaged-clause-refused g c).After-read_superblock honest)
    (is_damaged c.form-form.result image (g.D.SectorDisk.size c.args.disk.now) c.read.new.into whole read large
    (rw (sym c.sectors-sectors.ensures) (c.read_superblock.ensures.damaged.0 (c.in-Err-Damaged.is ∙ ap Err c.in-Err-Damaged.field-0-is))))

pub returns-in-Ok-clause-reads : goal.returns-in-Ok-clause-reads
returns-in-Ok-clause-reads g c = OnlyReads-never (ok-device _) (OnlyReads-call c.in_ok-read.ensures.call c.read.ensures.medium)

pub returns-in-Err-NotFormatted-clause-reads : goal.returns-in-Err-NotFormatted-clause-reads
returns-in-Err-NotFormatted-clause-reads g c = OnlyReads-never format-device (OnlyReads-call c.in_ok-read.ensures.call c.read.ensures.medium)
