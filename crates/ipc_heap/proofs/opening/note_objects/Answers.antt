-- An object more, or the damage that is seen.
use Rattle.std.proofs.Common.{◌≡◌, ◌<◌, false, true, ℕ, ◌+◌, length, inl, inr, Some, Err, refl, sym, ap, ◌∙◌, subst, arith}
use Rattle.std.specs.Prelude.{Bool, Option, MatchBool, nat_eq, zero, suc, ◌⊎◌}
use Rattle.ipc_base.proofs.CallerLemmas.{other_key}
use Rattle.ipc_disk.specs.Range.{IsInside}
use Rattle.ipc_heap.specs.declared.error.OpenError.TheVariants.{Damaged}
use Rattle.ipc_heap.specs.Heap.{object_sectors}
use Rattle.ipc_heap.proofs.Opens.{AreGone, gone-more, damaged-object, damaged-sector, passed_on, stops-inside, word-inside}
use Rattle.ipc_heap.proofs.opening.note_objects.Goals as goal
use Rattle.ipc_heap.proofs.opening.note_objects.Goals.{then-some_empty, else-some_empty}

pub returns-in_default-clause-named : goal.returns-in_default-clause-named
returns-in_default-clause-named c sector err root image is words =
    let same : c.sector_of_word-begin.result ≡ sector = cc in
    damaged-object c.loop.invariant c.loop-test.true is words sector (sym same ∙ c.sector_of_word-begin.ensures)
    (rw c.in_default.is at c.sectors_of.ensures)

pub returns-in_err-note_sectors-clause-named : goal.returns-in_err-note_sectors-clause-named
returns-in_err-note_sectors-clause-named c sector err root image is words =
    let same : c.in_err-note_sectors.field-0.0 ≡ Damaged sector =
    passed_on c.from_residual.result c.in_err-note_sectors.field-0.0 (Damaged sector) c.from_residual.ensures.1 err in
    damaged-sector c.loop.invariant c.loop-test.true is words c.in-Some.sectors sector c.in-Some.ensures
    (c.in_err-note_sectors.ensures.damaged sector (ap Err same) (object_sectors c.loop.invariant.placed) c.loop.invariant.noted)

by_zero : (was : Bool) (n : ℕ) → was ≡ false → MatchBool (nat_eq n 0) ((was ≡ true) ⊎ (n ≡ 0)) ((was ≡ false) × (0 < n))
by_zero was zero is = inr refl
by_zero was (suc n) is =
    let some : nat_eq (suc n) 0 ≡ false = other_key (suc n) 0 (λ same. omega (arith, same)) in
    rw some (is, omega arith)

pub loop-preserved : goal.loop-preserved
loop-preserved c =
    let either : MatchBool c.if-some_empty.some_empty ((c.loop.some_empty ≡ true) ⊎ (c.in-Some.sectors ≡ 0))
    ((c.loop.some_empty ≡ false) × (0 < c.in-Some.sectors)) =
    elim c.if-some_empty.branch [
      | then-some_empty w ↦
          subst (λ (b : Bool). MatchBool b ((c.loop.some_empty ≡ true) ⊎ (c.in-Some.sectors ≡ 0)) ((c.loop.some_empty ≡ false) × (0 < c.in-Some.sectors)))
          (sym (w.some_empty-is ∙ w.if-some_empty.true)) (inl w.if-some_empty.true)
      | else-some_empty w ↦
          subst (λ (b : Bool). MatchBool b ((c.loop.some_empty ≡ true) ⊎ (c.in-Some.sectors ≡ 0)) ((c.loop.some_empty ≡ false) × (0 < c.in-Some.sectors)))
          (sym w.some_empty-is) (by_zero c.loop.some_empty c.in-Some.sectors w.if-some_empty.false)
    ] in
    subst (λ (o : Option ℕ). AreGone c.args.range c.args.table.now c.args.words.now c.note_sectors.new.uses (c.loop.counter + 1)
    (c.loop.at + (4 + c.in-Some.sectors)) o c.if-some_empty.some_empty) (ap (λ (n : ℕ). Some n) (sym c.u64_at.ensures))
    (gone-more c.loop.invariant c.in-Some.sectors c.in-Some.ensures c.note_sectors.new.uses c.if-some_empty.some_empty (λ i. omega (arith, c.type_inv.words i))
    (c.in_ok-note_sectors.ensures.noted (object_sectors c.loop.invariant.placed) c.loop.invariant.noted) either)

pub returns-in_default-clause-own : goal.returns-in_default-clause-own
returns-in_default-clause-own c sector err =
    let same : c.sector_of_word-begin.result ≡ sector = cc in
    subst (IsInside c.args.range) (sym c.sector_of_word-begin.ensures ∙ same)
    (word-inside c.args.range (object_sectors c.loop.invariant.placed) c.args.table.now (length c.args.words.now) c.loop.at c.loop.invariant.noted.inside
    c.requires.some c.requires.fits)

pub returns-in_err-note_sectors-clause-own : goal.returns-in_err-note_sectors-clause-own
returns-in_err-note_sectors-clause-own c sector err =
    let same : c.in_err-note_sectors.field-0.0 ≡ Damaged sector =
    passed_on c.from_residual.result c.in_err-note_sectors.field-0.0 (Damaged sector) c.from_residual.ensures.1 err in
    stops-inside c.args.range (object_sectors c.loop.invariant.placed) c.args.table.now _ (length c.args.words.now) c.loop.at sector
    c.loop.invariant.noted.inside c.requires.some c.requires.fits
    (c.in_err-note_sectors.ensures.damaged sector (ap Err same) (object_sectors c.loop.invariant.placed) c.loop.invariant.noted)
