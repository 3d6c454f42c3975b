-- The old objects stay under the old root, and the new ones are there under the new.
use Rattle.std.proofs.Common.{◌≡◌, ℕ, ◌+◌, Bool, length, refl, sym, ap, subst, ◌∙◌, arith}
use Rattle.ipc_base.specs.Objects.{PlainObjects, OthersAreThere}
use Rattle.ipc_checkpoint.specs.declared.layout.Layout.{Layout}
use Rattle.ipc_checkpoint.specs.Checkpoint.{IsElsewhere, Holds}
use Rattle.ipc_checkpoint.specs.Matches.{IsSavedUnder}
use Rattle.ipc_checkpoint.specs.View.{CheckpointView, epoch_of, layout_of, layout_under}
use Rattle.ipc_checkpoint.proofs.CallerLemmas.{CheckpointMatches-holds, IsSavedUnder-with_next_root}
use Rattle.ipc_disk.specs.declared.range.Range.{Range}
use Rattle.ipc_disk.specs.Medium.{Medium}
use Rattle.ipc_disk.specs.Range.{IsInside}
use Rattle.ipc_disk.specs.Since.{EachImageSince, LeavesAlone}
use Rattle.ipc_heap.specs.Matches.{StaysSaved}
use Rattle.ipc_image.specs.Changed.{differs_in}
use Rattle.ipc_image.specs.Format.{format, format_one}
use Rattle.ipc_image.specs.Saved.{saved}
use Rattle.ipc_image.proofs.CallerLemmas.{old-others-there, one-known}
use Rattle.ipc_store.specs.Relations.Upgrade.{HasOld, IsReadOld}
use Rattle.ipc_store.proofs.Upgrading.{old-stays}
use Rattle.ipc_store.proofs.upgrade.save_beside.Given.{Over}
use Rattle.ipc_store.proofs.upgrade.save_beside.Goals as goal
use Rattle.ipc_store.proofs.upgrade.save_beside.Goals.{After-save}

-- what was read is saved under the old root, also once the new one is named
saved-under : (g : Over) (c : After-save g) (old : IsReadOld (g.D.SectorDisk.medium c.args.disk.now) c.args.checkpoint c.args.engine.now)
    → IsSavedUnder format_one.root c.set_next_root.new.self old.objects (g.D.SectorDisk.medium c.args.disk.now)
saved-under g c old =
    let medium : Medium = g.D.SectorDisk.medium c.args.disk.now in
    let here : IsSavedUnder format_one.root c.args.checkpoint old.objects medium =
    subst (λ (r : ℕ). IsSavedUnder r c.args.checkpoint old.objects medium) (sym old.saved.under ∙ c.requires.root) old.saved in
    subst (λ (v : CheckpointView). IsSavedUnder format_one.root v old.objects medium) (sym c.set_next_root.ensures)
    (IsSavedUnder-with_next_root format_one.root c.args.checkpoint old.objects format.root medium here)

-- the old objects are there at every moment
old-kept : (g : Over) (c : After-save g) (old : IsReadOld (g.D.SectorDisk.medium c.args.disk.now) c.args.checkpoint c.args.engine.now)
    → EachImageSince (g.D.SectorDisk.medium c.args.disk.now) (g.D.SectorDisk.medium c.save.new.disk)
    (HasOld c.args.engine.now.limits (epoch_of c.args.checkpoint) old.objects old.batches)
old-kept g c old =
    let medium : Medium = g.D.SectorDisk.medium c.args.disk.now in
    let new : Medium = g.D.SectorDisk.medium c.save.new.disk in
    let layout : Layout = layout_under format.root c.args.checkpoint in
    let size : length medium.contents ≡ g.D.SectorDisk.size c.args.disk.now =
    (g.met.D.SectorDisk.shaped c.args.disk.now medium.contents old.saved.matches.honest.reads).count in
    let alone : LeavesAlone (IsElsewhere layout) medium new =
    subst (λ (v : CheckpointView). LeavesAlone (IsElsewhere (layout_of v)) medium new) c.set_next_root.ensures
    (c.save.ensures.others old.saved.matches.honest) in
    let kept : StaysSaved layout.range 1 (epoch_of c.args.checkpoint) old.objects medium new =
    subst (λ (v : CheckpointView). StaysSaved (layout_of v).range 1 (epoch_of v) old.objects medium new) c.set_next_root.ensures
    (c.save.ensures.kept format_one.root old.objects (saved-under g c old)
    (λ same. absurd (omega (arith, same, ap (λ v. v.heap.next_root) c.set_next_root.ensures)))) in
    old-stays format_one one-known c.args.engine.now.limits (epoch_of c.args.checkpoint) old.objects old.batches layout
    (ap (λ (r : Range). r.first) c.requires.range) (omega arith, omega arith) medium new old.durable old.old
    (λ i inside. subst (λ (r : Range). IsInside r i) (sym c.requires.range) (inside.0, omega (arith, inside.1, old.old.device.whole, size)))
    alone kept

pub returns-in_err-save-clause-any_moment : goal.returns-in_err-save-clause-any_moment
returns-in_err-save-clause-any_moment g c = old-kept g (goal.at.returns-in_err-save-clause-any_moment g c).After-save

pub returns-clause-any_moment : goal.returns-clause-any_moment
returns-clause-any_moment g c = old-kept g (goal.at.returns-clause-any_moment g c).After-save

pub returns-clause-ok : goal.returns-clause-ok
returns-clause-ok g c = λ old image now.
    let here = (goal.at.returns-clause-ok g c).After-save in
    let medium : Medium = g.D.SectorDisk.medium c.args.disk.now in
    let state = c.args.engine.now.state in
    let given = c.objects_of.ensures in
    let others : OthersAreThere (differs_in c.args.engine.now.changed (saved state)) (saved state) old.objects =
    subst (λ (o : PlainObjects). OthersAreThere (differs_in c.args.engine.now.changed (saved state)) (saved state) o) (sym old.stand.are)
    (old-others-there c.args.engine.now.limits c.args.engine.now.changed old.base state old.tracked given.stand) in
    let matches = c.in_ok-save.ensures.moved format_one.root old.objects (saved-under g here old)
    (subst (λ (p : (ℕ → Bool) × PlainObjects). OthersAreThere p.0 p.1 old.objects) (sym (λ i. (given.differs i, given.objects i))) others) in
    let holds = CheckpointMatches-holds c.save.new.self _ (g.D.SectorDisk.medium c.save.new.disk) matches image now in
    let layout : layout_of c.save.new.self ≡ layout_under format.root c.args.checkpoint =
    c.save.ensures.layout ∙ ap layout_of c.set_next_root.ensures in
    let epoch : epoch_of c.save.new.self ≡ epoch_of c.args.checkpoint + 1 =
    c.in_ok-save.ensures.epoch ∙ ap (λ (n : ℕ). n + 1) (c.epoch-epoch.ensures ∙ ap epoch_of c.set_next_root.ensures) in
    subst (λ (l : Layout). Holds l (epoch_of c.args.checkpoint + 1) (saved state) image) layout
    (subst (λ (n : ℕ). Holds (layout_of c.save.new.self) n (saved state) image) epoch
    (subst (λ (o : PlainObjects). Holds (layout_of c.save.new.self) (epoch_of c.save.new.self) o image) given.objects holds))
