use Rattle.std.proofs.Common.{◌<◌, length, arith, sym, ap, ◌∙◌, true≢false}
use Rattle.std.proofs.lemmas.List.{get_or_default}
use Rattle.sem_undo.specs.Undo.{key_cmp, key_of, entry_of}
use Rattle.sem_undo.proofs.Sorted.{place-gap, place-at}
use Rattle.sem_undo.proofs.Tables.{key_total, key_apart}
use Rattle.sem_undo.proofs.rows.find_row.Goals as goal

pub returns-then-place-rows-clause-gap : goal.returns-then-place-rows-clause-gap
returns-then-place-rows-clause-gap c =
    let place = c.place_for-place in
    place-gap key_cmp key_total entry_of c.args.key c.args.rows.now c.requires place.result place.ensures.point place.ensures.within
    (λ d within. absurd (omega (arith, c.if-place-rows.true, within)))

pub returns-then-not-has_key-clause-gap : goal.returns-then-not-has_key-clause-gap
returns-then-not-has_key-clause-gap c =
    let place = c.place_for-place in
    place-gap key_cmp key_total entry_of c.args.key c.args.rows.now c.requires place.result place.ensures.point place.ensures.within (λ d within tied.
    let same = ap key_of (get_or_default c.args.rows.now place.result _ d within) ∙ key_apart _ _ tied in
    true≢false (sym (c.has_key.ensures.1 same) ∙ c.if-not-has_key.true))

pub returns-clause-at : goal.returns-clause-at
returns-clause-at c =
    let rows = c.args.rows.now in
    let i = c.place_for-place.result in
    let within : i < length rows = omega (arith, c.place_for-place.ensures.within, c.if-place-rows.false) in
    place-at key_cmp key_total entry_of c.args.key rows c.requires i c.place_for-place.ensures.point within (λ d.
    ap key_of (get_or_default rows i d _ within) ∙ c.has_key.ensures.0 c.if-not-has_key.false)
