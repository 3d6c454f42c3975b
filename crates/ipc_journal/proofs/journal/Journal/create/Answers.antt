-- Sectors of zeros are of no epoch.
use Rattle.std.proofs.Common.{◌≡◌, ℕ, ◌+◌, ◌<◌, [], replicate, sym, subst, ap, ◌∙◌, arith}
use Rattle.std.proofs.lemmas.Result.{on_ok_weaker}
use Rattle.ipc_disk.specs.declared.range.Range.{Range}
use Rattle.ipc_disk.specs.Medium.{Image}
use Rattle.ipc_disk.specs.Standing.{sector_at}
use Rattle.ipc_journal.specs.Batch.{epoch_in}
use Rattle.ipc_journal.specs.Journal.{Holds, IsClear, IsOlder}
use Rattle.ipc_journal.specs.declared.form.Form.{Form}
use Rattle.ipc_journal.specs.declared.form.Form.TheVariants.{Headed, Tagged}
use Rattle.ipc_journal.proofs.CallerLemmas.{Holds-older, IsClear-older}
use Rattle.ipc_journal.proofs.Cleared.{epoch_in-zeros}
use Rattle.ipc_journal.proofs.journal.Journal.create.Goals as goal

older : (range : Range) (epoch : ℕ) (image : Image) → 0 < epoch
    → ((i : ℕ) → i < range.count → sector_at image (range.first + i) ≡ replicate 512 0) → IsOlder Tagged range epoch image
older range epoch image later zeros i lt = omega (arith, ap epoch_in (zeros i lt), epoch_in-zeros, later)

pub returns-in-Tagged-clause-empty : goal.returns-in-Tagged-clause-empty
returns-in-Tagged-clause-empty g c =
    on_ok_weaker c.erase.result
    (λ erased honest.
    let image = (g.D.SectorDisk.medium c.erase.new.disk).contents in
    subst (λ (f : Form). Holds f c.args.range c.args.epoch [] image) (sym c.in-Tagged.is)
    (Holds-older Tagged c.args.range c.args.epoch image (older c.args.range c.args.epoch image c.requires.later (erased honest))))
    c.erase.ensures.erased

pub returns-in-Tagged-clause-clear : goal.returns-in-Tagged-clause-clear
returns-in-Tagged-clause-clear g c =
    on_ok_weaker c.erase.result
    (λ erased honest.
    let image = (g.D.SectorDisk.medium c.erase.new.disk).contents in
    subst (λ (f : Form). IsClear f c.args.range c.args.epoch 0 image) (sym c.in-Tagged.is)
    (IsClear-older Tagged c.args.range c.args.epoch 0 image (older c.args.range c.args.epoch image c.requires.later (erased honest))))
    c.erase.ensures.erased

pub returns-in-Headed-clause-any_moment : goal.returns-in-Headed-clause-any_moment
returns-in-Headed-clause-any_moment g c = λ tagged.
    let not : Headed ≡ Tagged = sym c.in-Headed.is ∙ tagged in cc

pub returns-in-Tagged-clause-any_moment : goal.returns-in-Tagged-clause-any_moment
returns-in-Tagged-clause-any_moment g c = λ tagged. c.erase.ensures.headed
