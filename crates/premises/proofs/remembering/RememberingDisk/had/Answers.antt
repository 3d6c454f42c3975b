-- What was kept before a write or a sync.
use Rattle.std.proofs.Common.{◌≡◌, Vec, Global, List, ap, ◌∙◌, sym, subst, arith, Some}
use Rattle.std.specs.Prelude.{slice_get}
use Rattle.std.proofs.lemmas.Option.{slice_get-get_or}
use Rattle.premises.specs.declared.remembering.Slot.{Slot}
use Rattle.premises.specs.Remembered.{slots_of}
use Rattle.premises.proofs.Sectors.{had-before}
use Rattle.premises.proofs.remembering.RememberingDisk.had.Goals as goal

pub returns-in-Some : goal.returns-in-Some
returns-in-Some c =
    let slots = c.in-Some.slots.now in
    let found = c.in-Some.ensures.lookup in
    let here : slice_get c.deref-2.result.now c.args.at ≡ Some slots =
    slice_get-get_or c.deref-2.result.now c.args.at slots (omega arith) ∙ ap (λ (v : Vec Slot Global). Some v) (sym found.1) in
    had-before (λ (v : Vec Slot Global). v.items) c.args.self.now.past.items (slots_of c.args.self.now.slots.items) c.args.at slots
    (subst (λ (l : List (Vec Slot Global)). slice_get l c.args.at ≡ Some slots) c.deref-2.ensures.value here)
    ∙ ap (λ (l : List Slot). Some (slots_of l)) (sym c.deref-in-Some.ensures.value)
