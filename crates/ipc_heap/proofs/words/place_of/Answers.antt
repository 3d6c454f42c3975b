-- An object is next while words are left, and each way out is a place.
use Rattle.std.proofs.Common.{◌+◌, ◌∙◌, sym, subst, arith, ℕ}
use Rattle.ipc_heap.specs.Relations.Words.{placed_in, IsPlace}
use Rattle.ipc_heap.proofs.Placed.{ArePassed, next-there, passed-more, place-here, place-before, place-end, passed-none}
use Rattle.ipc_heap.proofs.words.place_of.Goals as goal

pub objects-init : goal.objects-init
objects-init c = passed-none (placed_in c.args.words.now) c.args.number

pub u64_at-there-requires : goal.u64_at-there-requires
u64_at-there-requires c = let next = next-there c.requires c.objects.invariant c.objects-test.true in omega (arith, next.within)

pub object_len-len-requires : goal.object_len-len-requires
object_len-len-requires c = let next = next-there c.requires c.objects.invariant c.objects-test.true in omega (arith, next.within)

pub object_len-at-requires : goal.object_len-at-requires
object_len-at-requires c = let next = next-there c.requires c.objects.invariant c.objects-test.true in omega (arith, next.within)

pub overflow_add-at : goal.overflow_add-at
overflow_add-at c = let next = next-there c.requires c.objects.invariant c.objects-test.true in omega (arith, next.within, c.object_len-at.ensures)

pub returns-then-there-number : goal.returns-then-there-number
returns-then-there-number c =
    let next = next-there c.requires c.objects.invariant c.objects-test.true in
    subst (λ (n : ℕ). IsPlace (placed_in c.args.words.now) c.args.number (record { at = c.objects.at; len = n })) (sym c.object_len-len.ensures)
    (place-here c.requires next (sym c.u64_at-there.ensures ∙ c.if-there-number.true))

pub objects-preserved : goal.objects-preserved
objects-preserved c =
    let next = next-there c.requires c.objects.invariant c.objects-test.true in
    subst (λ (n : ℕ). ArePassed (placed_in c.args.words.now) c.args.number (c.objects.at + n)) (sym c.object_len-at.ensures)
    (passed-more c.requires next
    (omega (arith, c.u64_at-there.ensures, c.if-there-number.false, c.if-there-number-2.false)))

pub returns-after-objects : goal.returns-after-objects
returns-after-objects c = place-end c.requires c.objects.invariant c.objects-test.false

pub returns-then-there-number-2 : goal.returns-then-there-number-2
returns-then-there-number-2 c =
    let next = next-there c.requires c.objects.invariant c.objects-test.true in
    place-before c.requires next
    (omega (arith, c.u64_at-there.ensures, c.if-there-number-2.true))
