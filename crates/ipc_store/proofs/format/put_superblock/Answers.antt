-- Each image is as it was, or that of the new device.
use Rattle.std.proofs.Common.{ℕ, ◌⊎◌, ◌<◌, ◌^◌, ◌∙◌, inl, inr, length, subst, sym, arith}
use Rattle.std.proofs.lemmas.Result.{on_ok_weaker}
use Rattle.ipc_disk.specs.Medium.{Image}
use Rattle.ipc_disk.proofs.CallerLemmas.{EachImageSince-set}
use Rattle.ipc_image.specs.Format.{device_form}
use Rattle.ipc_image.specs.Superblock.{IsSuperblockIn}
use Rattle.ipc_store.specs.Image.{NamesAll, StandsFor}
use Rattle.ipc_store.proofs.Formatting.{becomes-device, names-all}
use Rattle.ipc_store.proofs.format.put_superblock.Given.{Over}
use Rattle.ipc_store.proofs.format.put_superblock.Goals as goal

-- the superblock of an image of now
the_superblock : (g : Over) (c : goal.After-put_durably g) (image : Image) → (g.D.SectorDisk.medium c.args.disk.now).images_now image
    → IsSuperblockIn (device_form c.args.limits.now) (length image) c.args.limits.now c.superblock_of-sector.result
the_superblock g c image now =
    subst (λ (n : ℕ). IsSuperblockIn (device_form c.args.limits.now) n c.args.limits.now c.superblock_of-sector.result)
    (c.sectors.ensures ∙ sym (g.met.D.SectorDisk.shaped c.args.disk.now image now).count) c.superblock_of-sector.ensures

-- its sectors can be counted in four bytes
fits : (g : Over) (c : goal.After-put_durably g) (image : Image) → (g.D.SectorDisk.medium c.args.disk.now).images_now image
    → length image < 2 ^ 32
fits g c image now =
    omega (arith, (g.met.D.SectorDisk.shaped c.args.disk.now image now).count, g.met.D.SectorDisk.fits c.args.disk.now)

pub returns-clause-ok : goal.returns-clause-ok
returns-clause-ok g c =
    let old = g.D.SectorDisk.medium c.args.disk.now in
    on_ok_weaker c.put_durably.result (λ written s honest prepared image now.
    subst (StandsFor c.args.limits.now s) (sym (written honest image now))
    (becomes-device c.args.limits.now s c.superblock_of-sector.result old.contents (fits g c old.contents honest.reads)
    (the_superblock g c old.contents honest.reads)
    (prepared old.contents honest.reads)))
    c.put_durably.ensures.written

pub returns-clause-whole : goal.returns-clause-whole
returns-clause-whole g c =
    let old = g.D.SectorDisk.medium c.args.disk.now in
    on_ok_weaker c.put_durably.result (λ written honest image now.
    subst NamesAll (sym (written honest image now))
    (names-all c.args.limits.now c.superblock_of-sector.result old.contents (fits g c old.contents honest.reads)
    (the_superblock g c old.contents honest.reads)))
    c.put_durably.ensures.written

pub returns-clause-any_moment : goal.returns-clause-any_moment
returns-clause-any_moment g c = λ s honest prepared.
    let old = g.D.SectorDisk.medium c.args.disk.now in
    EachImageSince-set old _ 0 c.superblock_of-sector.result (λ image. old.images_now image ⊎ StandsFor c.args.limits.now s image)
    (c.put_durably.ensures.any_moment honest) (λ image now. inl now)
    (λ image now. inr (becomes-device c.args.limits.now s c.superblock_of-sector.result image (fits g c image now) (the_superblock g c image now)
    (prepared image now)))
