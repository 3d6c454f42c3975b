-- The objects of version 2 stay under their root, and those of version 3 are there under theirs.
use Rattle.std.proofs.Common.{◌≡◌, ℕ, ◌+◌, [], length, sym, ap, subst, ◌∙◌, arith}
use Rattle.ipc_base.specs.Objects.{PlainObjects}
use Rattle.ipc_checkpoint.specs.declared.layout.Layout.{Layout}
use Rattle.ipc_checkpoint.specs.Checkpoint.{IsElsewhere, Holds}
use Rattle.ipc_checkpoint.specs.Matches.{IsSavedUnder}
use Rattle.ipc_checkpoint.specs.View.{CheckpointView, epoch_of, layout_of, layout_under, with_next_root}
use Rattle.ipc_checkpoint.proofs.CallerLemmas.{CheckpointMatches-holds, IsSavedUnder-with_next_root}
use Rattle.ipc_disk.specs.declared.range.Range.{Range}
use Rattle.ipc_disk.specs.Medium.{Medium}
use Rattle.ipc_disk.specs.Range.{IsInside}
use Rattle.ipc_disk.specs.Since.{EachImageSince, LeavesAlone}
use Rattle.ipc_heap.specs.Matches.{StaysSaved}
use Rattle.ipc_image.specs.declared.format.Format.{Format}
use Rattle.ipc_image.specs.Format.{format}
use Rattle.ipc_image.specs.Saved.{saved_in}
use Rattle.ipc_image.proofs.CallerLemmas.{last-known}
use Rattle.ipc_limits.specs.declared.limits.Limits.{Limits}
use Rattle.ipc_state.specs.State.{State}
use Rattle.ipc_store.specs.Larger.{larger}
use Rattle.ipc_store.specs.Relations.Larger.{IsReadBeside}
use Rattle.ipc_store.specs.Relations.Upgrade.{HasOldIn}
use Rattle.ipc_store.proofs.Upgrading.{old-stays}
use Rattle.ipc_store.proofs.larger.save_three.Given.{Over}
use Rattle.ipc_store.proofs.larger.save_three.Goals as goal
use Rattle.ipc_store.proofs.larger.save_three.Goals.{After-save}

module _ (g : Over) (c : After-save g) (own limits : Limits) (s : State)
    (read : IsReadBeside own limits s (g.D.SectorDisk.medium c.args.disk.now) c.args.checkpoint c.args.engine.now) where
  abbrev old : Medium
  old = g.D.SectorDisk.medium c.args.disk.now

  abbrev new : Medium
  new = g.D.SectorDisk.medium c.save.new.disk

  abbrev layout : Layout
  layout = layout_under larger.root c.args.checkpoint

  -- the root of version 3 is named
  named : c.set_next_root.new.self ≡ with_next_root larger.root c.args.checkpoint
  named = c.set_next_root.ensures ∙ ap (λ (f : Format). with_next_root f.root c.args.checkpoint) c.three-form.ensures.is

  -- what was read is saved under the old root, also then
  saved-under : IsSavedUnder format.root c.set_next_root.new.self read.objects old
  saved-under =
      let here : IsSavedUnder format.root c.args.checkpoint read.objects old =
      subst (λ (r : ℕ). IsSavedUnder r c.args.checkpoint read.objects old) (sym read.saved.under ∙ c.requires.root) read.saved in
      subst (λ (v : CheckpointView). IsSavedUnder format.root v read.objects old) (sym named)
      (IsSavedUnder-with_next_root format.root c.args.checkpoint read.objects larger.root old here)

  -- the objects of version 2 are there at every moment
  old-kept : EachImageSince old new (HasOldIn format own (epoch_of c.args.checkpoint) read.objects [])
  old-kept =
      let size : length old.contents ≡ g.D.SectorDisk.size c.args.disk.now =
      (g.met.D.SectorDisk.shaped c.args.disk.now old.contents read.saved.matches.honest.reads).count in
      let alone : LeavesAlone (IsElsewhere layout) old new =
      subst (λ (v : CheckpointView). LeavesAlone (IsElsewhere (layout_of v)) old new) named
      (c.save.ensures.others read.saved.matches.honest) in
      let kept : StaysSaved layout.range format.root (epoch_of c.args.checkpoint) read.objects old new =
      subst (λ (v : CheckpointView). StaysSaved (layout_of v).range format.root (epoch_of v) read.objects old new) named
      (c.save.ensures.kept format.root read.objects saved-under
      (λ same. absurd (omega (arith, same, ap (λ v. v.heap.next_root) named)))) in
      old-stays format last-known own (epoch_of c.args.checkpoint) read.objects [] layout
      (ap (λ (r : Range). r.first) c.requires.range) (omega arith, omega arith) old new read.durable read.old
      (λ i inside. subst (λ (r : Range). IsInside r i) (sym c.requires.range) (inside.0, omega (arith, inside.1, read.old.device.whole, size)))
      alone kept

pub returns-in_err-save-clause-any_moment : goal.returns-in_err-save-clause-any_moment
returns-in_err-save-clause-any_moment g c = old-kept g (goal.at.returns-in_err-save-clause-any_moment g c).After-save

pub returns-clause-any_moment : goal.returns-clause-any_moment
returns-clause-any_moment g c = old-kept g (goal.at.returns-clause-any_moment g c).After-save

pub returns-clause-ok : goal.returns-clause-ok
returns-clause-ok g c = λ own limits s read image now.
    let here = (goal.at.returns-clause-ok g c).After-save in
    let state = c.args.engine.now.state in
    let objects : PlainObjects = saved_in larger state in
    let matches = c.in_ok-save.ensures.moved format.root read.objects (saved-under g here own limits s read)
    (λ i o there same. absurd cc) in
    let holds = CheckpointMatches-holds c.save.new.self _ (g.D.SectorDisk.medium c.save.new.disk) matches image now in
    let layout : layout_of c.save.new.self ≡ layout_under larger.root c.args.checkpoint =
    c.save.ensures.layout ∙ ap layout_of (named g here own limits s read) in
    let epoch : epoch_of c.save.new.self ≡ epoch_of c.args.checkpoint + 1 =
    c.in_ok-save.ensures.epoch ∙ ap (λ (n : ℕ). n + 1) (c.epoch-epoch.ensures ∙ ap epoch_of (named g here own limits s read)) in
    subst (λ (l : Layout). Holds l (epoch_of c.args.checkpoint + 1) objects image) layout
    (subst (λ (n : ℕ). Holds (layout_of c.save.new.self) n objects image) epoch
    (subst (λ (o : PlainObjects). Holds (layout_of c.save.new.self) (epoch_of c.save.new.self) o image)
    (c.objects_of.ensures.objects ∙ ap (λ (f : Format). saved_in f state) c.three-form.ensures.is) holds))
