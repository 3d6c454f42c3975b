-- A sector more, or the walk stops.
use Rattle.std.proofs.Common.{◌≡◌, ◌≤◌, true, false, ℕ, ◌+◌, ◌-◌, ◌++◌, List, inl, inr, length, take, drop, get_or, refl, sym, ap, ◌∙◌, subst, arith}
use Rattle.std.specs.Prelude.{IsTrue, Contains}
use Rattle.std.proofs.lemmas.List.{get_or-drop, length-drop, length-set}
use Rattle.ipc_disk.specs.Range.{IsInside}
use Rattle.ipc_heap.specs.declared.uses.Use.{Use}
use Rattle.ipc_heap.specs.Relations.Opening.{AreNoted}
use Rattle.ipc_heap.proofs.Opens.{noted-next, stops-at}
use Rattle.ipc_heap.proofs.opening.note_sectors.Goals as goal

-- nothing uses it
abbrev none : Use
none = record { saved = false; next = false }

pub returns-then-not-is_inside-clause-damaged : goal.returns-then-not-is_inside-clause-damaged
returns-then-not-is_inside-clause-damaged c sector err used noted =
    let from : List ℕ = drop (c.args.at + 4) c.args.words.now in
    let s : ℕ = get_or c.args.words.now (c.args.at + 4 + c.loop-k.k) 0 in
    let fits : c.args.sectors ≤ length from = omega (arith, length-drop (c.args.at + 4) c.args.words.now, c.requires.whole) in
    let outside : IsInside c.args.range s → ⊥ = λ inside. (let t : IsTrue false = c.if-not-is_inside.ensures.1 inside in absurd cc) in
    let same : c.sector_of_word.result ≡ sector = cc in
    stops-at c.args.range used c.args.table.now from c.loop-k.uses c.loop-k.k c.args.sectors s (c.loop-k.invariant.noted used noted) c.loop-k-test.true fits
    (sym (get_or-drop (c.args.at + 4) c.args.words.now c.loop-k.k 0)) (length c.args.words.now) c.args.at sector
    (inr (outside, sym same ∙ c.sector_of_word.ensures))

pub returns-then-of-clause-damaged : goal.returns-then-of-clause-damaged
returns-then-of-clause-damaged c sector err used noted =
    let from : List ℕ = drop (c.args.at + 4) c.args.words.now in
    let s : ℕ = get_or c.args.words.now (c.args.at + 4 + c.loop-k.k) 0 in
    let place : ℕ = s - c.args.range.first in
    let fits : c.args.sectors ≤ length from = omega (arith, length-drop (c.args.at + 4) c.args.words.now, c.requires.whole) in
    let inside : IsInside c.args.range s = c.if-not-is_inside.ensures.0 refl in
    let so_far = c.loop-k.invariant.noted used noted in
    let here : c.args.range.first + place ≡ s = omega (arith, inside) in
    let has : Contains ((used ++ take c.loop-k.k from) ++ c.args.table.now) s =
    subst (Contains ((used ++ take c.loop-k.k from) ++ c.args.table.now)) here ((so_far.saved place c.of.result c.of.ensures).0 c.if-of.true) in
    let same : c.sector_of_word-then-of.result ≡ sector = cc in
    stops-at c.args.range used c.args.table.now from c.loop-k.uses c.loop-k.k c.args.sectors s so_far c.loop-k-test.true fits
    (sym (get_or-drop (c.args.at + 4) c.args.words.now c.loop-k.k 0)) (length c.args.words.now) c.args.at sector
    (inl (inside, has, sym same ∙ c.sector_of_word-then-of.ensures))

pub loop-k-preserved : goal.loop-k-preserved
loop-k-preserved c =
    let from : List ℕ = drop (c.args.at + 4) c.args.words.now in
    let s : ℕ = get_or c.args.words.now (c.args.at + 4 + c.loop-k.k) 0 in
    let by : Use = record { saved = true; next = true } in
    let fits : c.args.sectors ≤ length from = omega (arith, length-drop (c.args.at + 4) c.args.words.now, c.requires.whole) in
    record {
      all = ap length c.note.ensures ∙ length-set c.loop-k.uses (s - c.args.range.first) by ∙ c.loop-k.invariant.all;
      noted = λ used noted.
          subst (AreNoted c.args.range (used ++ take (c.loop-k.k + 1) from) c.args.table.now) (sym c.note.ensures)
          (noted-next c.args.range used c.args.table.now from c.loop-k.uses c.loop-k.k c.args.sectors s (c.loop-k.invariant.noted used noted)
          c.loop-k-test.true fits (sym (get_or-drop (c.args.at + 4) c.args.words.now c.loop-k.k 0)) c.of.result (c.if-not-is_inside.ensures.0 refl)
          c.of.ensures c.if-of.false);
    }
