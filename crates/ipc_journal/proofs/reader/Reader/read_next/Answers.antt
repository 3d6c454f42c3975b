-- The header counts more than was read.
use Rattle.std.proofs.Common.{◌≡◌, ◌⊎◌, ◌<◌, inr, ℕ, length, sym, subst, arith}
use Rattle.ipc_disk.specs.declared.range.Range.{Range}
use Rattle.ipc_disk.specs.Medium.{Image}
use Rattle.ipc_journal.specs.declared.form.Form.{Form}
use Rattle.ipc_journal.specs.Headed.{header_epoch, header_used, Counts}
use Rattle.ipc_journal.specs.Journal.{HasLater, HasMore, HasNone, IsEndRead}
use Rattle.ipc_journal.proofs.reader.Reader.read_next.Goals as goal

counted : (range : Range) (epoch used end : ℕ) (image : Image) → used < end → Counts range epoch end image
    → (header_epoch range image ≡ epoch) × (end ≡ header_used range image)
counted range epoch used end image more (Counts.Older older none) = absurd (omega (arith, more, none))
counted range epoch used end image more (Counts.Current current said within) = (current, omega (arith, said))

pub returns-in-Headed-clause-damaged : goal.returns-in-Headed-clause-damaged
returns-in-Headed-clause-damaged g c = λ sector is honest.
    let r = c.args.self.now in
    let image = (g.D.SectorDisk.medium c.args.disk.now).contents in
    subst (λ (f : Form). IsEndRead f r.range r.epoch r.end image
    → HasLater f r.range r.epoch r.used image ⊎ (HasMore f r.range r.epoch r.used r.batches image
    × HasNone f r.range r.epoch r.used r.batches (length c.args.into.now) image)) (sym c.in-Headed.is)
    (λ read.
    let more = c.read_next.ensures.more sector is in
    let header = counted r.range r.epoch r.used r.end image more read in
    inr (
      (header.0, omega (arith, more, header.1)),
      λ batch short next. c.read_next.ensures.damaged sector is honest batch next.0 short next.1 (omega (arith, next.3, header.1)),
    ))
