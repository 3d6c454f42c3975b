-- The journal, and the objects: the first sector stays as it is.
use Rattle.std.proofs.Common.{◌≡◌, ◌∙◌, [], length, ap, sym, subst, arith}
use Rattle.ipc_disk.proofs.CallerLemmas.{EachImageSince-now, IsSameDisk-then}
use Rattle.ipc_disk.specs.Medium.{Image, IsHonest}
use Rattle.ipc_disk.specs.Range.{IsOutside}
use Rattle.ipc_disk.specs.Since.{SameAt, LeavesAlone}
use Rattle.ipc_disk.specs.declared.range.Range.{Range}
use Rattle.ipc_checkpoint.specs.declared.layout.Layout.{Layout}
use Rattle.ipc_checkpoint.specs.Checkpoint.{IsLaidOut, IsElsewhere, Holds as HoldsObjects}
use Rattle.ipc_journal.specs.Journal.{Holds}
use Rattle.ipc_journal.specs.declared.form.Form.{Form}
use Rattle.ipc_image.specs.declared.format.Format.{Format}
use Rattle.ipc_image.specs.Format.{device_form}
use Rattle.ipc_image.proofs.CallerLemmas.{form-known}
use Rattle.ipc_store.specs.Image.{journal_form, journal_range, layout_in, layout_of}
use Rattle.ipc_store.specs.Relations.Format.{IsErased, IsPrepared}
use Rattle.ipc_store.proofs.Formatting.{laid-out, journal-erased, stays-erased, is-prepared}
use Rattle.ipc_store.proofs.format.prepare.Given.{Over}
use Rattle.ipc_store.proofs.format.prepare.Goals as goal
use Rattle.ipc_store.proofs.format.prepare.Goals.{After-create}

-- where the journal stands
range-is : (g : Over) (c : After-create g) → c.journal_range.result ≡ journal_range (device_form c.args.limits.now)
range-is g c = c.journal_range.ensures ∙ ap journal_range c.of-form.ensures.is

form-is : (g : Over) (c : After-create g) → c.journal_form.result ≡ journal_form (device_form c.args.limits.now)
form-is g c = c.journal_form.ensures ∙ ap journal_form c.of-form.ensures.is

-- and the objects
layout-is : (g : Over) (c : After-create g) → c.layout_in-layout.result ≡ layout_of c.args.limits.now c.sectors.result
layout-is g c = c.layout_in-layout.ensures.exact ∙ ap (λ (f : Format). layout_in f c.args.limits.now c.sectors.result) c.of-form.ensures.is

-- the journal alone is touched by the first call
alone : (g : Over) (c : After-create g) → IsHonest (g.D.SectorDisk.medium c.args.disk.now)
    → LeavesAlone (IsOutside (journal_range (device_form c.args.limits.now))) (g.D.SectorDisk.medium c.args.disk.now)
    (g.D.SectorDisk.medium c.create.new.disk)
alone g c honest =
    subst (λ (r : Range). LeavesAlone (IsOutside r) (g.D.SectorDisk.medium c.args.disk.now) (g.D.SectorDisk.medium c.create.new.disk)) (range-is g c)
    (c.create.ensures.others honest)

pub returns-in_err-create-clause-any_moment : goal.returns-in_err-create-clause-any_moment
returns-in_err-create-clause-any_moment g c = λ honest erased.
    journal-erased (device_form c.args.limits.now) _ _ erased (alone g (goal.at.returns-in_err-create-clause-any_moment g c).After-create honest)

pub create-requires-2-clause-laid_out : goal.create-requires-2-clause-laid_out
create-requires-2-clause-laid_out g c =
    let size = g.D.SectorDisk.size c.args.disk.now in
    let limits = c.args.limits.now in
    let there : c.layout_in-layout.result ≡ layout_of limits size =
    layout-is g (goal.at.create-requires-2-clause-laid_out g c).After-create ∙ ap (layout_of limits) c.sectors.ensures in
    subst (λ (l : Layout). IsLaidOut l (g.D.SectorDisk.size c.create.new.disk)) (sym there)
    (subst (IsLaidOut (layout_of limits size)) (sym c.create.ensures.same.sectors)
    (laid-out (device_form limits) (form-known limits) limits size size c.requires.of c.requires.room (omega arith)))

pub returns-in_err-create-2-clause-any_moment : goal.returns-in_err-create-2-clause-any_moment
returns-in_err-create-2-clause-any_moment g c = λ honest erased.
    let here = (goal.at.returns-in_err-create-2-clause-any_moment g c).After-create in
    stays-erased c.args.limits.now c.sectors.result _ _ _ _ (layout-is g here) erased (alone g here honest)
    (c.create-2.ensures.others (c.create.ensures.same.honest.0 honest))

pub returns-clause-any_moment : goal.returns-clause-any_moment
returns-clause-any_moment g c = λ honest erased.
    let here = (goal.at.returns-clause-any_moment g c).After-create in
    stays-erased c.args.limits.now c.sectors.result _ _ _ _ (layout-is g here) erased (alone g here honest)
    (c.create-2.ensures.others (c.create.ensures.same.honest.0 honest))

-- a crash leaves what is read then, which has both
pub returns-clause-prepared : goal.returns-clause-prepared
returns-clause-prepared g c = λ s stand honest erased image now.
    let at = (goal.at.returns-clause-prepared g c).After-create in
    let limits = c.args.limits.now in
    let mid = (g.D.SectorDisk.medium c.create.new.disk).contents in
    let new = (g.D.SectorDisk.medium c.create-2.new.disk).contents in
    let kept = c.create.ensures.same.honest.0 honest in
    let run = c.create-2.ensures.others kept in
    let long = (g.met.D.SectorDisk.shaped c.create-2.new.disk new run.honest.reads).count in
    let there : c.layout_in-layout.result ≡ layout_of limits (length new) =
    layout-is g at ∙ ap (layout_of limits) (c.sectors.ensures ∙ sym (long ∙ c.create-2.ensures.same.sectors ∙ c.create.ensures.same.sectors)) in
    let empty : Holds (journal_form (device_form limits)) (journal_range (device_form limits)) 1 [] mid =
    subst (λ (r : Range). Holds (journal_form (device_form limits)) r 1 [] mid) (range-is g at)
    (subst (λ (f : Form). Holds f c.journal_range.result 1 [] mid) (form-is g at) (c.in_ok-create.ensures.empty honest)) in
    subst (λ (i : Image). IsErased i × IsPrepared limits s i) (sym (c.in_ok-create-2.ensures.durable image now)) (
      EachImageSince-now _ _ IsErased (returns-clause-any_moment g c honest erased) run.honest new run.honest.reads,
      is-prepared limits s _ mid new empty
          (subst (λ (l : Layout). SameAt (IsElsewhere l) mid new) there run.contents)
          (subst (λ (l : Layout). HoldsObjects l 1 (g.O.Objects.objects c.args.objects.now) new) there (c.in_ok-create-2.ensures.holds kept)) stand,
    )

pub returns-in_err-create-2-clause-same : goal.returns-in_err-create-2-clause-same
returns-in_err-create-2-clause-same g c = IsSameDisk-then c.create.ensures.same c.create-2.ensures.same

pub returns-clause-same : goal.returns-clause-same
returns-clause-same g c = IsSameDisk-then c.create.ensures.same c.create-2.ensures.same
