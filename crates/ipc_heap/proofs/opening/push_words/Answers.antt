-- A word more, and at the end as many as there is room for, or all.
use Rattle.std.proofs.Common.{ℕ, ◌-◌, ◌++◌, ◌∷◌, [], List, length, take, drop, sym, ap, ◌∙◌, append_assoc, arith}
use Rattle.ipc_heap.specs.Heap.{words_in}
use Rattle.ipc_heap.proofs.Opens.{words-more, words-some}
use Rattle.ipc_heap.proofs.opening.push_words.Goals as goal

pub loop-k-preserved : goal.loop-k-preserved
loop-k-preserved c =
    let sector : List ℕ = c.args.sector.now in
    let old : List ℕ = c.args.words.now.items in
    let more = words-more c.loop-k.k c.read_u32.result sector c.told-sector (omega (arith, c.loop-k-test.true, c.min-k-end.ensures)) c.read_u32.ensures in (
      c.push_reserved.ensures.items ∙ ap (λ (l : List ℕ). l ++ c.read_u32.result ∷ []) c.loop-k.invariant.0
          ∙ append_assoc old (take c.loop-k.k (words_in (drop 4 sector))) (c.read_u32.result ∷ []) ∙ ap (λ (l : List ℕ). old ++ l) (sym more),
      c.push_reserved.ensures.capacity ∙ c.loop-k.invariant.1,
    )

pub returns-clause-items : goal.returns-clause-items
returns-clause-items c =
    let old : List ℕ = c.args.words.now.items in
    c.loop-k.invariant.0
    ∙ ap (λ (l : List ℕ). old ++ l)
    (words-some c.loop-k.k (c.args.most - length old) c.args.sector.now c.told-sector
    (omega (arith, c.loop-k-test.false, c.loop-k.auto.k-end, c.min-k-end.ensures, c.len.ensures, c.args.words.now.ok.0)))
