use Rattle.std.proofs.Common.{ℕ, List, get_or, ◌∙◌, ◌++◌, ◌∷◌, [], map, ap}
use Rattle.std.proofs.lemmas.List.{map-append}
use Rattle.std.specs.Int.{w16, cast_signed, cast_unsigned}
use Rattle.ipc_base.specs.Numbers.{fields_bytes}
use Rattle.ipc_image.specs.declared.adjustments.Adjustment.{Adjustment as Read}
use Rattle.ipc_image.specs.Relations.Adjustments.{plain_of}
use Rattle.ipc_image.specs.Saved.{adjustment_sizes, adjustment_numbers}
use Rattle.ipc_image.proofs.Attaching.{read_row}
use Rattle.ipc_image.proofs.adjustments.AdjustmentSaved.take.Goals as goal

pub returns-in_err-numbers-clause-damaged : goal.returns-in_err-numbers-clause-damaged
returns-in_err-numbers-clause-damaged c is x rest fit =
    let none = rw c.in_err-numbers.ensures.ok_part at c.take_fields.ensures.none in
    none (adjustment_numbers x) rest fit.1

pub returns-clause-ok : goal.returns-clause-ok
returns-clause-ok c =
    let found = rw c.in_ok-numbers.ensures.ok_part at c.take_fields.ensures.some in
    let row = read_row c.in_ok-numbers.numbers c.cast_signed-adjustment.result found.0 c.cast_signed-adjustment.ensures c.if-adjustment-eq0.false
    c.if-adjustment.false in
    let ns = c.in_ok-numbers.numbers in
    let a = c.cast_signed-adjustment.result in
    let one : Read = record {
      pid = record { 0 = get_or ns 0 0 };
      row = record { set = record { 0 = get_or ns 1 0 }; num = get_or ns 2 0; adjustment = cast_signed w16 (cast_unsigned w16 a) };
    } in (
      plain_of one,
      row.0,
      found.1 ∙ ap (λ (l : List ℕ). fields_bytes adjustment_sizes l ++ c.in_ok-numbers.rest.now) row.1,
      ap (map plain_of) (c.push_reserved.ensures.items ∙ ap (λ (l : List Read). l ++ one ∷ []) c.reserve.ensures.items)
          ∙ map-append plain_of c.args.into.now.items (one ∷ []),
    )
