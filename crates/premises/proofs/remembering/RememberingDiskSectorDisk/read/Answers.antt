-- The last value is read.
use Rattle.std.proofs.Common.{Some, sym, ◌∙◌, ap}
use Rattle.std.proofs.lemmas.Option.{slice_get-get_or}
use Rattle.premises.specs.declared.remembering.Slot.{Slot}
use Rattle.premises.proofs.Sectors.{reads}
use Rattle.premises.proofs.remembering.RememberingDiskSectorDisk.read.Goals as goal

pub returns-clause-bytes : goal.returns-clause-bytes
returns-clause-bytes c = λ honest.
    let slot = c.index.result.now in
    let slots = c.args.self.now.slots.items in
    reads slots c.args.at slot (slice_get-get_or slots c.args.at slot c.requires ∙ ap (λ (s : Slot). Some s) (sym c.index.ensures))
