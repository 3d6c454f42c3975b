-- The journal of version 3, and a sync.
use Rattle.std.proofs.Common.{◌≡◌, ℕ, ◌<◌, [], sym, ap, subst, ◌∙◌}
use Rattle.std.proofs.lemmas.Result.{on_ok_weaker}
use Rattle.ipc_disk.specs.declared.range.Range.{Range}
use Rattle.ipc_disk.specs.Medium.{Image, Medium, IsHonest}
use Rattle.ipc_disk.specs.Range.{IsOutside}
use Rattle.ipc_disk.specs.Since.{EachImageSince, LeavesAlone}
use Rattle.ipc_disk.proofs.CallerLemmas.{EachImageSince-sync, LeavesAlone-stays, IsSameDisk-call, IsSameDisk-then}
use Rattle.ipc_journal.specs.Journal.{Holds}
use Rattle.ipc_journal.specs.declared.form.Form.{Form}
use Rattle.ipc_journal.specs.declared.form.Form.TheVariants.{Headed, Tagged}
use Rattle.ipc_store.specs.Image.{journal_form, journal_range}
use Rattle.ipc_store.specs.Larger.{larger}
use Rattle.ipc_store.specs.Relations.Format.{EachNow}
use Rattle.ipc_store.proofs.larger.clear_journal.Given.{Over}
use Rattle.ipc_store.proofs.larger.clear_journal.Goals as goal
use Rattle.ipc_store.proofs.larger.clear_journal.Goals.{After-create}

range-is : (g : Over) (c : After-create g) → c.journal_range.result ≡ journal_range larger
range-is g c = c.journal_range.ensures ∙ ap journal_range c.three-form.ensures.is

form-is : (g : Over) (c : After-create g) → c.journal_form.result ≡ Tagged
form-is g c = c.journal_form.ensures ∙ ap journal_form c.three-form.ensures.is

-- no sector but the journal's is touched
alone : (g : Over) (c : After-create g) → IsHonest (g.D.SectorDisk.medium c.args.disk.now)
    → LeavesAlone (IsOutside (journal_range larger)) (g.D.SectorDisk.medium c.args.disk.now) (g.D.SectorDisk.medium c.create.new.disk)
alone g c honest =
    subst (λ (r : Range). LeavesAlone (IsOutside r) (g.D.SectorDisk.medium c.args.disk.now) (g.D.SectorDisk.medium c.create.new.disk)) (range-is g c)
    (c.create.ensures.others honest)

-- where there is no batch, there is none at any moment
none : (g : Over) (c : After-create g) (other : ℕ) → 0 < other → IsHonest (g.D.SectorDisk.medium c.args.disk.now)
    → EachNow (g.D.SectorDisk.medium c.args.disk.now) (Holds Headed (journal_range larger) other [])
    → EachImageSince (g.D.SectorDisk.medium c.args.disk.now) (g.D.SectorDisk.medium c.create.new.disk) (Holds Headed (journal_range larger) other [])
none g c other some honest here =
    let old : Medium = g.D.SectorDisk.medium c.args.disk.now in
    let new : Medium = g.D.SectorDisk.medium c.create.new.disk in
    subst (λ (r : Range). EachImageSince old new (Holds Headed r other [])) (range-is g c)
    (c.create.ensures.any_moment (form-is g c) other some honest
    (λ image now. subst (λ (r : Range). Holds Headed r other [] image) (sym (range-is g c)) (here image now)))

pub returns-in_err-create-clause-others : goal.returns-in_err-create-clause-others
returns-in_err-create-clause-others g c = alone g (goal.at.returns-in_err-create-clause-others g c).After-create

pub returns-in_err-create-clause-any_moment : goal.returns-in_err-create-clause-any_moment
returns-in_err-create-clause-any_moment g c = none g (goal.at.returns-in_err-create-clause-any_moment g c).After-create

pub returns-clause-others : goal.returns-clause-others
returns-clause-others g c = λ honest.
    LeavesAlone-stays _ _ _ _ (alone g (goal.at.returns-clause-others g c).After-create honest) c.sync.ensures.medium

pub returns-clause-any_moment : goal.returns-clause-any_moment
returns-clause-any_moment g c = λ other some honest here.
    EachImageSince-sync _ _ _ _ (none g (goal.at.returns-clause-any_moment g c).After-create other some honest here)
    (c.create.ensures.same.honest.0 honest) c.sync.ensures.medium

pub returns-clause-empty : goal.returns-clause-empty
returns-clause-empty g c = on_ok_weaker c.sync.result
    (λ durable honest image now.
    let at = (goal.at.returns-clause-empty g c).After-create in
    let mid : Image = (g.D.SectorDisk.medium c.create.new.disk).contents in
    let empty : Holds Tagged (journal_range larger) c.args.epoch [] mid =
    subst (λ (r : Range). Holds Tagged r c.args.epoch [] mid) (range-is g at)
    (subst (λ (f : Form). Holds f c.journal_range.result c.args.epoch [] mid) (form-is g at) (c.in_ok-create.ensures.empty honest)) in
    subst (Holds Tagged (journal_range larger) c.args.epoch [])
    (sym (durable image now ∙ c.sync.ensures.medium.contents (c.create.ensures.same.honest.0 honest))) empty)
    c.sync.ensures.durable

pub returns-clause-same : goal.returns-clause-same
returns-clause-same g c = IsSameDisk-then c.create.ensures.same (IsSameDisk-call c.sync.ensures.call c.sync.ensures.medium.time)
