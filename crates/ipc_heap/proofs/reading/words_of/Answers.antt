-- The words at the place of its number.
use Rattle.std.proofs.Common.{◌≡◌, ℕ, ◌+◌, ◌-◌, take, drop, subst, sym, arith}
use Rattle.ipc_heap.specs.Relations.Found.{IsFound}
use Rattle.ipc_heap.specs.Relations.Words.{placed_in}
use Rattle.ipc_heap.proofs.Stands.{found-at}
use Rattle.ipc_heap.proofs.reading.words_of.Goals as goal

pub returns : goal.returns
returns c =
    let found = found-at c.args.words.now
    (placed_in c.args.words.now) c.args.number c.place_of-place.result c.requires.words c.place_of-place.ensures c.requires.there in
    let long : c.place_of-place.result.at + c.place_of-place.result.len - c.place_of-place.result.at ≡ c.place_of-place.result.len = omega arith in
    subst (λ (n : ℕ). IsFound (placed_in c.args.words.now) c.args.number (take n (drop c.place_of-place.result.at c.args.words.now))) (sym long) found.0
