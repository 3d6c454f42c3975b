-- The new objects, and then the superblock.
use Rattle.std.proofs.Common.{◌≡◌, ◌⊎◌, inl, inr, ⊎_elim, ℕ, ◌+◌, ◌≤◌, length, refl, sym, ap, subst, ◌∙◌, arith}
use Rattle.std.proofs.lemmas.Result.{on_ok_weaker}
use Rattle.ipc_limits.specs.declared.limits.Limits.{Limits}
use Rattle.ipc_base.specs.Objects.{Fit}
use Rattle.ipc_checkpoint.specs.declared.layout.Layout.{Layout}
use Rattle.ipc_checkpoint.specs.Checkpoint.{IsLaidOut, Holds}
use Rattle.ipc_checkpoint.specs.View.{epoch_of, layout_under}
use Rattle.ipc_disk.specs.Medium.{Image, Medium, IsHonest}
use Rattle.ipc_disk.specs.Since.{EachImageSince}
use Rattle.ipc_disk.proofs.CallerLemmas.{EachImageSince-join, EachImageSince-now, EachImageSince-weaken, IsSameDisk-then}
use Rattle.ipc_image.specs.Format.{format, format_one}
use Rattle.ipc_image.specs.Saved.{saved, StandForState}
use Rattle.ipc_image.proofs.CallerLemmas.{last-known, last-opened, of-format, saved-fits}
use Rattle.ipc_image.specs.declared.format.Format.{Format}
use Rattle.ipc_image.specs.Sizes.{need_in}
use Rattle.ipc_image.specs.Superblock.{AreOf}
use Rattle.ipc_store.specs.Image.{layout_in, StandsFor, StandsForIn}
use Rattle.ipc_store.specs.Relations.Format.{EachNow, IsPrepared}
use Rattle.ipc_store.specs.Relations.Upgrade.{HasOld, IsReadOld}
use Rattle.ipc_store.proofs.Formatting.{laid-out}
use Rattle.ipc_store.proofs.Upgrading.{old-prepared, old-stands}
use Rattle.ipc_store.proofs.upgrade.write_new.Given.{Over}
use Rattle.ipc_store.proofs.upgrade.write_new.Goals as goal
use Rattle.ipc_store.proofs.upgrade.write_new.Goals.{After-save_beside, In_ok-save_beside}

-- the same under the new root
abbrev with_new_root : Layout → Layout
with_new_root layout = record { range = layout.range; root = format.root; area = layout.area }

-- the images since the save stand for the old state
saved-stands : (g : Over) (c : After-save_beside g) (old : IsReadOld (g.D.SectorDisk.medium c.args.disk.now) c.args.checkpoint c.args.engine.now)
    → EachImageSince (g.D.SectorDisk.medium c.args.disk.now) (g.D.SectorDisk.medium c.save_beside.new.disk)
    (λ image. StandsForIn format_one c.args.engine.now.limits old.state image ⊎ StandsFor c.args.limits.now c.args.engine.now.state image)
saved-stands g c old =
    EachImageSince-weaken _ _ (HasOld c.args.engine.now.limits (epoch_of c.args.checkpoint) old.objects old.batches) _
    (c.save_beside.ensures.any_moment old)
    (λ image has. inl (old-stands format_one c.args.engine.now.limits (epoch_of c.args.checkpoint) old.objects old.batches old.base old.state image has
    old.stand old.leads))

-- each image then is all but the superblock of the new device
prepared : (g : Over) (c : In_ok-save_beside g) (old : IsReadOld (g.D.SectorDisk.medium c.args.disk.now) c.args.checkpoint c.args.engine.now)
    → EachNow (g.D.SectorDisk.medium c.save_beside.new.disk) (IsPrepared c.args.limits.now c.args.engine.now.state)
prepared g c old image now =
    let new : Medium = g.D.SectorDisk.medium c.save_beside.new.disk in
    let state = c.args.engine.now.state in
    let limits : Limits = c.args.limits.now in
    let honest : IsHonest new = c.save_beside.ensures.same.honest.0 old.saved.matches.honest in
    let has = EachImageSince-now _ new (HasOld c.args.engine.now.limits (epoch_of c.args.checkpoint) old.objects old.batches)
    (c.save_beside.ensures.any_moment old) honest image now in
    let size : length image ≡ g.D.SectorDisk.size c.args.disk.now =
    (g.met.D.SectorDisk.shaped c.save_beside.new.disk image now).count ∙ c.save_beside.ensures.same.sectors in
    let layout : layout_under format.root c.args.checkpoint ≡ layout_in format limits (length image) =
    ap with_new_root c.requires.layout ∙ ap (layout_in format limits) (sym size) in
    let own = c.save_beside.ensures.stand in
    let stand : StandForState limits state (saved state) =
    record { sound = c.requires.sound; places = own.places; kinds = own.kinds; are = refl } in
    old-prepared c.args.engine.now.limits limits (epoch_of c.args.checkpoint) old.objects (saved state) old.batches state image
    (of-format limits c.requires.of) has
    (subst (λ (l : Layout). Holds l (epoch_of c.args.checkpoint + 1) (saved state) image) layout (c.in_ok-save_beside.ensures.ok old image now))
    stand

pub save_beside-requires-clause-laid_out : goal.save_beside-requires-clause-laid_out
save_beside-requires-clause-laid_out g c =
    let size = g.D.SectorDisk.size c.args.disk.now in
    subst (λ (l : Layout). IsLaidOut l size) (sym (ap with_new_root c.requires.layout))
    (laid-out format last-known c.args.limits.now size size c.requires.of c.requires.room (omega arith))

pub save_beside-requires-clause-fits : goal.save_beside-requires-clause-fits
save_beside-requires-clause-fits g c =
    subst (λ (n : ℕ). Fit n (saved c.args.engine.now.state)) (sym (ap (λ (l : Layout). l.area) c.requires.layout))
    (saved-fits format last-opened c.args.limits.now c.args.engine.now.state c.requires.of c.requires.sound)

pub put_superblock-requires-clause-of : goal.put_superblock-requires-clause-of
put_superblock-requires-clause-of g c =
    subst (λ (f : Format). AreOf f c.args.limits.now) (sym (of-format c.args.limits.now c.requires.of)) c.requires.of

pub put_superblock-requires-clause-room : goal.put_superblock-requires-clause-room
put_superblock-requires-clause-room g c =
    subst (λ (f : Format). need_in f c.args.limits.now ≤ g.D.SectorDisk.size c.save_beside.new.disk)
    (sym (of-format c.args.limits.now c.requires.of)) (omega (arith, c.requires.room, c.save_beside.ensures.same.sectors))

pub returns-in_err-save_beside-clause-any_moment : goal.returns-in_err-save_beside-clause-any_moment
returns-in_err-save_beside-clause-any_moment g c = saved-stands g (goal.at.returns-in_err-save_beside-clause-any_moment g c).After-save_beside

pub returns-clause-ok : goal.returns-clause-ok
returns-clause-ok g c =
    let here = (goal.at.returns-clause-ok g c).In_ok-save_beside in
    on_ok_weaker c.put_superblock.result
    (λ ok old. ok c.args.engine.now.state (c.save_beside.ensures.same.honest.0 old.saved.matches.honest) (prepared g here old))
    c.put_superblock.ensures.ok

pub returns-clause-any_moment : goal.returns-clause-any_moment
returns-clause-any_moment g c = λ old.
    let mid : Medium = g.D.SectorDisk.medium c.save_beside.new.disk in
    let new : Medium = g.D.SectorDisk.medium c.put_superblock.new.disk in
    let limits : Limits = c.args.limits.now in
    let state = c.args.engine.now.state in
    let Either : Image → Type 0 = λ image. StandsForIn format_one c.args.engine.now.limits old.state image ⊎ StandsFor limits state image in
    let first = saved-stands g (goal.at.returns-clause-any_moment g c).After-save_beside old in
    let honest : IsHonest mid = c.save_beside.ensures.same.honest.0 old.saved.matches.honest in
    EachImageSince-join _ mid new Either first
    (EachImageSince-weaken mid new (λ image. mid.images_now image ⊎ StandsFor limits state image) Either
    (c.put_superblock.ensures.any_moment state honest (prepared g (goal.at.returns-clause-any_moment g c).In_ok-save_beside old))
    (λ image so. ⊎_elim (λ now. EachImageSince-now _ mid Either first honest image now) (λ stands. inr stands) so))

pub returns-clause-same : goal.returns-clause-same
returns-clause-same g c = IsSameDisk-then c.save_beside.ensures.same c.put_superblock.ensures.same

pub returns-clause-whole : goal.returns-clause-whole
returns-clause-whole g c =
    on_ok_weaker c.put_superblock.result (λ whole honest. whole (c.save_beside.ensures.same.honest.0 honest)) c.put_superblock.ensures.whole
