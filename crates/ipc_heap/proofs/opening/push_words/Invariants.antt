use Rattle.std.proofs.Common.{◌≡◌, ◌++◌, take, drop}
use Rattle.std.specs.Prelude.{vec_capacity}
use Rattle.ipc_heap.specs.Heap.{words_in}
use Rattle.ipc_heap.proofs.opening.push_words.Given as goal

-- so many words were added
abbrev pub invariant-loop-k : goal.invariant-loop-k
invariant-loop-k l = (l.words.items ≡ l.fn.words.items ++ take l.k (words_in (drop 4 l.sector))) × (vec_capacity l.words ≡ vec_capacity l.fn.words)
