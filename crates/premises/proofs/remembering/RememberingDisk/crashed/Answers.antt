-- What is left is a choice of what was there at that moment.
use Rattle.std.proofs.Common.{length, sym, ◌∙◌, arith}
use Rattle.std.proofs.lemmas.List.{length-map}
use Rattle.premises.specs.Remembered.{slot_of, slots_of}
use Rattle.premises.proofs.Sectors.{durable-left, full-had, full-left, full-slots, may-left}
use Rattle.premises.proofs.remembering.RememberingDisk.crashed.Goals as goal

pub invariant_of-result-clause-whole : goal.invariant_of-result-clause-whole
invariant_of-result-clause-whole c =
    let disk = c.args.self in
    (full-left _ _ c.in-Ok.ensures (length disk.slots.items)
    (full-had _ _ _ _ c.args.at disk.were (full-slots disk.slots.items disk.whole) c.in-Some.ensures)).whole

pub invariant_of-result-clause-few : goal.invariant_of-result-clause-few
invariant_of-result-clause-few c =
    let disk = c.args.self in
    let full = full-left _ _ c.in-Ok.ensures (length disk.slots.items)
    (full-had _ _ _ _ c.args.at disk.were (full-slots disk.slots.items disk.whole) c.in-Some.ensures) in
    omega (arith, full.count, length-map c.in-Ok.slots.items slot_of, disk.few)

pub returns-clause-images : goal.returns-clause-images
returns-clause-images c = λ t image le may.
    (c.args.at, le, (slots_of c.in-Some.slots.now, c.in-Some.ensures, may-left _ _ c.in-Ok.ensures image may))

pub returns-clause-durable : goal.returns-clause-durable
returns-clause-durable c = durable-left _ _ c.in-Ok.ensures

pub returns-clause-size : goal.returns-clause-size
returns-clause-size c =
    let disk = c.args.self in
    sym (length-map c.in-Ok.slots.items slot_of)
    ∙ (full-left _ _ c.in-Ok.ensures (length disk.slots.items)
    (full-had _ _ _ _ c.args.at disk.were (full-slots disk.slots.items disk.whole) c.in-Some.ensures)).count
