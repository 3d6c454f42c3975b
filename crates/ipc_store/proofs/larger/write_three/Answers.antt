-- The objects, the journal, and then the superblock.
use Rattle.std.proofs.Common.{◌≡◌, ◌⊎◌, inl, inr, ⊎_elim, ℕ, ◌+◌, ◌≤◌, [], length, refl, sym, ap, subst, ◌∙◌, arith}
use Rattle.std.proofs.lemmas.Result.{on_ok_weaker}
use Rattle.ipc_limits.specs.declared.limits.Limits.{Limits}
use Rattle.ipc_base.specs.Objects.{Fit, PlainObjects}
use Rattle.ipc_checkpoint.specs.declared.layout.Layout.{Layout}
use Rattle.ipc_checkpoint.specs.Checkpoint.{IsLaidOut, IsOwn, Holds as HoldsObjects}
use Rattle.ipc_checkpoint.specs.View.{epoch_of, layout_under}
use Rattle.ipc_checkpoint.proofs.CallerLemmas.{Holds-since}
use Rattle.ipc_disk.specs.Medium.{Image, Medium, IsHonest}
use Rattle.ipc_disk.specs.Range.{IsOutside}
use Rattle.ipc_journal.specs.Journal.{Holds}
use Rattle.ipc_journal.specs.declared.form.Form.TheVariants.{Tagged}
use Rattle.ipc_disk.specs.Since.{EachImageSince}
use Rattle.ipc_disk.proofs.CallerLemmas.{EachImageSince-join, EachImageSince-now, EachImageSince-weaken, IsSameDisk-then}
use Rattle.ipc_image.specs.declared.format.Format.{Format}
use Rattle.ipc_image.specs.Format.{device_form, format}
use Rattle.ipc_image.specs.Saved.{saved_in, StandForStateIn}
use Rattle.ipc_image.specs.Sizes.{need_in}
use Rattle.ipc_image.specs.Superblock.{AreOf}
use Rattle.ipc_image.proofs.CallerLemmas.{of-opened, saved-fits}
use Rattle.ipc_state.specs.State.{State}
use Rattle.ipc_store.specs.Image.{journal_range, layout_in, StandsFor}
use Rattle.ipc_store.specs.Larger.{larger, StandsBeside}
use Rattle.ipc_store.specs.Relations.Format.{EachNow, IsPrepared}
use Rattle.ipc_store.specs.Relations.Larger.{IsReadBeside}
use Rattle.ipc_store.specs.Relations.Upgrade.{HasOldIn}
use Rattle.ipc_store.proofs.Enlarging.{all-old, larger-known, larger-opened, larger-prepared, old-through}
use Rattle.ipc_store.proofs.Formatting.{laid-out}
use Rattle.ipc_store.proofs.larger.write_three.Given.{Over}
use Rattle.ipc_store.proofs.larger.write_three.Goals as goal
use Rattle.ipc_store.proofs.larger.write_three.Goals.{After-clear_journal, In_ok-clear_journal}

-- the same under the root of version 3
abbrev under : Layout → Layout
under layout = record { range = layout.range; root = larger.root; area = layout.area }

-- the form is that of the limits
form-of : (limits : Limits) → AreOf larger limits → device_form limits ≡ larger
form-of limits of = of-opened larger limits larger-opened of

pub save_three-requires-clause-laid_out : goal.save_three-requires-clause-laid_out
save_three-requires-clause-laid_out g c =
    let size = g.D.SectorDisk.size c.args.disk.now in
    subst (λ (l : Layout). IsLaidOut l size) (sym (ap under c.requires.layout))
    (laid-out larger larger-known c.args.limits.now size size c.requires.of c.requires.room (omega arith))

pub put_superblock-requires-clause-of : goal.put_superblock-requires-clause-of
put_superblock-requires-clause-of g c =
    subst (λ (f : Format). AreOf f c.args.limits.now) (sym (form-of c.args.limits.now c.requires.of)) c.requires.of

pub put_superblock-requires-clause-room : goal.put_superblock-requires-clause-room
put_superblock-requires-clause-room g c =
    subst (λ (f : Format). need_in f c.args.limits.now ≤ g.D.SectorDisk.size c.clear_journal.new.disk)
    (sym (form-of c.args.limits.now c.requires.of))
    (omega (arith, c.requires.room, c.save_three.ensures.same.sectors, c.clear_journal.ensures.same.sectors))

pub save_three-requires-clause-fits : goal.save_three-requires-clause-fits
save_three-requires-clause-fits g c =
    subst (λ (n : ℕ). Fit n (saved_in larger c.args.engine.now.state)) (sym (ap (λ (l : Layout). l.area) c.requires.layout))
    (saved-fits larger larger-opened c.args.limits.now c.args.engine.now.state c.requires.of c.requires.sound)

-- the journal's sectors are none of the objects'
outside : (layout : Layout) → layout.root ≡ 1 → layout.range.first ≡ 260 → (i : ℕ) → IsOwn layout i → IsOutside (journal_range larger) i
outside layout root first i (inl is) = inl (omega (arith, root, is))
outside layout root first i (inr inside) = inr (omega (arith, first, inside.0))

-- ---- the moments

pub returns-in_err-save_three-clause-any_moment : goal.returns-in_err-save_three-clause-any_moment
returns-in_err-save_three-clause-any_moment g c = λ own s read.
    all-old own c.args.limits.now s (epoch_of c.args.checkpoint) read.objects read.stand _ _ (c.save_three.ensures.any_moment own c.args.limits.now s read)

module _ (g : Over) (c : After-clear_journal g) (own : Limits) (s : State)
    (read : IsReadBeside own c.args.limits.now s (g.D.SectorDisk.medium c.args.disk.now) c.args.checkpoint c.args.engine.now) where
  abbrev old : Medium
  old = g.D.SectorDisk.medium c.args.disk.now

  abbrev mid : Medium
  mid = g.D.SectorDisk.medium c.save_three.new.disk

  abbrev cleared : Medium
  cleared = g.D.SectorDisk.medium c.clear_journal.new.disk

  abbrev epoch : ℕ
  epoch = epoch_of c.args.checkpoint

  abbrev Has : Image → Type 0
  Has = HasOldIn format own epoch read.objects []

  honest : IsHonest mid
  honest = c.save_three.ensures.same.honest.0 read.saved.matches.honest

  honest-then : IsHonest cleared
  honest-then = c.clear_journal.ensures.same.honest.0 honest

  saved : EachImageSince old mid Has
  saved = c.save_three.ensures.any_moment own c.args.limits.now s read

  has-now : EachNow mid Has
  has-now = EachImageSince-now old mid Has saved honest

  -- the objects of version 2 are there until the journal is cleared
  until-cleared : EachImageSince old cleared (StandsBeside own c.args.limits.now s)
  until-cleared =
      all-old own c.args.limits.now s epoch read.objects read.stand old cleared
      (EachImageSince-join old mid cleared Has saved
      (old-through own epoch read.objects mid cleared c.in_ok-save_three.ensures.durable has-now (c.clear_journal.ensures.others honest)
      (c.clear_journal.ensures.any_moment epoch read.some honest (λ image now. (has-now image now).journal))))

pub returns-in_err-clear_journal-clause-any_moment : goal.returns-in_err-clear_journal-clause-any_moment
returns-in_err-clear_journal-clause-any_moment g c = λ own s read.
    until-cleared g (goal.at.returns-in_err-clear_journal-clause-any_moment g c).After-clear_journal own s read

-- each image then is all but the superblock of the new device
prepared : (g : Over) (c : In_ok-clear_journal g) (own : Limits) (s : State)
    → IsReadBeside own c.args.limits.now s (g.D.SectorDisk.medium c.args.disk.now) c.args.checkpoint c.args.engine.now
    → EachNow (g.D.SectorDisk.medium c.clear_journal.new.disk) (IsPrepared c.args.limits.now c.args.engine.now.state)
prepared g c own s read image now =
    let limits : Limits = c.args.limits.now in
    let mid : Medium = g.D.SectorDisk.medium c.save_three.new.disk in
    let cleared : Medium = g.D.SectorDisk.medium c.clear_journal.new.disk in
    let honest : IsHonest mid = c.save_three.ensures.same.honest.0 read.saved.matches.honest in
    let layout : Layout = layout_under larger.root c.args.checkpoint in
    let next : ℕ = epoch_of c.args.checkpoint + 1 in
    let objects : PlainObjects = saved_in larger c.args.engine.now.state in
    let size : length image ≡ g.D.SectorDisk.size c.args.disk.now =
    (g.met.D.SectorDisk.shaped c.clear_journal.new.disk image now).count ∙ c.clear_journal.ensures.same.sectors ∙ c.save_three.ensures.same.sectors in
    let lies : layout ≡ layout_in larger limits (length image) = ap under c.requires.layout ∙ ap (layout_in larger limits) (sym size) in
    let there : HoldsObjects layout next objects image =
    EachImageSince-now mid cleared (HoldsObjects layout next objects)
    (Holds-since layout (IsOutside (journal_range larger)) next objects mid cleared
    (outside layout refl (ap (λ (l : Layout). l.range.first) c.requires.layout))
    (c.clear_journal.ensures.others honest) (c.in_ok-save_three.ensures.ok own limits s read))
    (c.clear_journal.ensures.same.honest.0 honest) image now in
    larger-prepared limits next objects c.args.engine.now.state image (form-of limits c.requires.of)
    (subst (λ (l : Layout). HoldsObjects l next objects image) lies there)
    (subst (λ (l : Limits). StandForStateIn larger l c.args.engine.now.state objects) c.requires.limits c.save_three.ensures.stand)
    (subst (λ (n : ℕ). Holds Tagged (journal_range larger) (n + 1) [] image) c.epoch-epoch.ensures
    (c.in_ok-clear_journal.ensures.empty honest image now))

pub returns-clause-ok : goal.returns-clause-ok
returns-clause-ok g c =
    let here = (goal.at.returns-clause-ok g c).In_ok-clear_journal in
    on_ok_weaker c.put_superblock.result
    (λ ok own s read image now. subst (λ (x : State). StandsFor c.args.limits.now x image) read.restarted
    (ok c.args.engine.now.state (c.clear_journal.ensures.same.honest.0 (c.save_three.ensures.same.honest.0 read.saved.matches.honest))
    (prepared g here own s read) image now))
    c.put_superblock.ensures.ok

pub returns-clause-any_moment : goal.returns-clause-any_moment
returns-clause-any_moment g c = λ own s read.
    let limits : Limits = c.args.limits.now in
    let mid : Medium = g.D.SectorDisk.medium c.clear_journal.new.disk in
    let new : Medium = g.D.SectorDisk.medium c.put_superblock.new.disk in
    let Each : Image → Type 0 = StandsBeside own limits s in
    let first = until-cleared g (goal.at.returns-clause-any_moment g c).After-clear_journal own s read in
    let honest : IsHonest mid = c.clear_journal.ensures.same.honest.0 (c.save_three.ensures.same.honest.0 read.saved.matches.honest) in
    EachImageSince-join _ mid new Each first
    (EachImageSince-weaken mid new (λ image. mid.images_now image ⊎ StandsFor limits c.args.engine.now.state image) Each
    (c.put_superblock.ensures.any_moment c.args.engine.now.state honest (prepared g (goal.at.returns-clause-any_moment g c).In_ok-clear_journal own s read))
    (λ image so. ⊎_elim (λ now. EachImageSince-now _ mid Each first honest image now)
    (λ stands. inr (subst (λ (x : State). StandsFor limits x image) read.restarted stands)) so))

pub returns-clause-whole : goal.returns-clause-whole
returns-clause-whole g c =
    on_ok_weaker c.put_superblock.result
    (λ whole honest. whole (c.clear_journal.ensures.same.honest.0 (c.save_three.ensures.same.honest.0 honest))) c.put_superblock.ensures.whole

pub returns-in_err-clear_journal-clause-same : goal.returns-in_err-clear_journal-clause-same
returns-in_err-clear_journal-clause-same g c = IsSameDisk-then c.save_three.ensures.same c.clear_journal.ensures.same

pub returns-clause-same : goal.returns-clause-same
returns-clause-same g c = IsSameDisk-then (IsSameDisk-then c.save_three.ensures.same c.clear_journal.ensures.same) c.put_superblock.ensures.same
