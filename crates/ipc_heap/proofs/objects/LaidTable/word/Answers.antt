-- The word is one of the object that it falls into.
use Rattle.std.proofs.Common.{◌≡◌, ℕ, ◌+◌, ◌/◌, ◌<◌, List, [], length, sym, ap, ◌∙◌, take, arith}
use Rattle.std.specs.Prelude.{slice_index}
use Rattle.std.proofs.lemmas.List.{take_all}
use Rattle.std.proofs.lemmas.List.Sums.{sum_by_more, sum_by_more_le}
use Rattle.ipc_base.specs.Objects.{PlainObjects}
use Rattle.ipc_heap.specs.Heap.{table_words}
use Rattle.ipc_heap.specs.Relations.Table.{object_at, placed_after}
use Rattle.ipc_heap.proofs.Placed.{mapped-at, words_for}
use Rattle.ipc_heap.proofs.Runs.{length-after, word-in, words-step}
use Rattle.ipc_heap.proofs.objects.LaidTable.word.Goals as goal

pub returns-then-i-eq0 : goal.returns-then-i-eq0
returns-then-i-eq0 g c =
    let os = g.O.Objects.objects c.args.self.now.objects.now in
    let first = c.args.self.now.first in
    c.count.ensures.count ∙ sym (length-after first os) ∙ ap (λ (n : ℕ). slice_index (table_words (placed_after first os)) n) (sym c.if-i-eq0.true)

pub word_of-requires-clause-there : goal.word_of-requires-clause-there
word_of-requires-clause-there g c =
    let os = g.O.Objects.objects c.args.self.now.objects.now in
    let first = c.args.self.now.first in
    let o : ℕ × List ℕ = object_at os c.loop-k.k in
    let less : c.loop-k.k < length os = omega (arith, c.loop-k-test.true, c.count-k-end.ensures.count) in
    let long : length o.1 ≡ c.len.result = mapped-at (λ (x : ℕ × List ℕ). length x.1) os c.loop-k.k (0, []) c.len.result less c.len.ensures in
    omega (arith, long, c.div_ceil-count.ensures, c.if-i-at.true, c.loop-k.invariant.passed)

pub word_of-requires-clause-fits : goal.word_of-requires-clause-fits
word_of-requires-clause-fits g c =
    let os = g.O.Objects.objects c.args.self.now.objects.now in
    let first = c.args.self.now.first in
    let o : ℕ × List ℕ = object_at os c.loop-k.k in
    let less : c.loop-k.k < length os = omega (arith, c.loop-k-test.true, c.count-k-end.ensures.count) in
    let long : length o.1 ≡ c.len.result = mapped-at (λ (x : ℕ × List ℕ). length x.1) os c.loop-k.k (0, []) c.len.result less c.len.ensures in
    let most = sum_by_more_le (λ (x : ℕ × List ℕ). (length x.1 + 511) / 512) os c.loop-k.k (0, []) less in
    omega (arith, most, c.loop-k.invariant.stands, c.requires.sound.last, c.requires.sound.fit)

pub overflow_cast-sector : goal.overflow_cast-sector
overflow_cast-sector g c =
    let os = g.O.Objects.objects c.args.self.now.objects.now in
    let first = c.args.self.now.first in
    let o : ℕ × List ℕ = object_at os c.loop-k.k in
    let less : c.loop-k.k < length os = omega (arith, c.loop-k-test.true, c.count-k-end.ensures.count) in
    let long : length o.1 ≡ c.len.result = mapped-at (λ (x : ℕ × List ℕ). length x.1) os c.loop-k.k (0, []) c.len.result less c.len.ensures in
    let most = sum_by_more_le (λ (x : ℕ × List ℕ). (length x.1 + 511) / 512) os c.loop-k.k (0, []) less in
    omega (arith, most, long, c.div_ceil-count.ensures, c.loop-k.invariant.stands, c.requires.sound.last, c.requires.sound.fit)

pub overflow_add-sector : goal.overflow_add-sector
overflow_add-sector g c =
    let os = g.O.Objects.objects c.args.self.now.objects.now in
    let first = c.args.self.now.first in
    let o : ℕ × List ℕ = object_at os c.loop-k.k in
    let less : c.loop-k.k < length os = omega (arith, c.loop-k-test.true, c.count-k-end.ensures.count) in
    let long : length o.1 ≡ c.len.result = mapped-at (λ (x : ℕ × List ℕ). length x.1) os c.loop-k.k (0, []) c.len.result less c.len.ensures in
    let most = sum_by_more_le (λ (x : ℕ × List ℕ). (length x.1 + 511) / 512) os c.loop-k.k (0, []) less in
    omega (arith, most, long, c.div_ceil-count.ensures, c.loop-k.invariant.stands, c.requires.sound.last, c.requires.sound.fit)

pub returns-then-i-at : goal.returns-then-i-at
returns-then-i-at g c =
    let os = g.O.Objects.objects c.args.self.now.objects.now in
    let first = c.args.self.now.first in
    let o : ℕ × List ℕ = object_at os c.loop-k.k in
    let less : c.loop-k.k < length os = omega (arith, c.loop-k-test.true, c.count-k-end.ensures.count) in
    let long : length o.1 ≡ c.len.result = mapped-at (λ (x : ℕ × List ℕ). length x.1) os c.loop-k.k (0, []) c.len.result less c.len.ensures in
    c.word_of.ensures ∙ word-in first os c.loop-k.k less c.loop-k.at c.loop-k.sector c.args.i c.loop-k.invariant.place c.loop-k.invariant.stands
    c.loop-k.invariant.passed (omega (arith, long, c.div_ceil-count.ensures, c.if-i-at.true))

pub loop-k-preserved : goal.loop-k-preserved
loop-k-preserved g c =
    let os = g.O.Objects.objects c.args.self.now.objects.now in
    let first = c.args.self.now.first in
    let o : ℕ × List ℕ = object_at os c.loop-k.k in
    let less : c.loop-k.k < length os = omega (arith, c.loop-k-test.true, c.count-k-end.ensures.count) in
    let long : length o.1 ≡ c.len.result = mapped-at (λ (x : ℕ × List ℕ). length x.1) os c.loop-k.k (0, []) c.len.result less c.len.ensures in
    record {
      place = omega (arith, words-step first os c.loop-k.k less, long, c.div_ceil-count.ensures, c.loop-k.invariant.place);
      stands = omega (
        arith,
        sum_by_more (λ (x : ℕ × List ℕ). (length x.1 + 511) / 512) os c.loop-k.k (0, []) less,
        long,
        c.div_ceil-count.ensures,
        c.loop-k.invariant.stands,
      );
      passed = omega (arith, c.if-i-at.false);
    }

pub returns : goal.returns
returns g c =
    let os = g.O.Objects.objects c.args.self.now.objects.now in
    let first = c.args.self.now.first in
    let all : take c.loop-k.k os ≡ os = take_all c.loop-k.k os (omega (arith, c.loop-k-test.false, c.count-k-end.ensures.count)) in
    absurd (omega (
      arith,
      c.requires.there,
      c.loop-k.invariant.passed,
      c.loop-k.invariant.place,
      ap (λ (l : PlainObjects). words_for (placed_after first l)) all,
    ))
