-- What is saved in a part of a range stays there.
use Rattle.std.proofs.Common.{◌≡◌, ℕ, subst}
use Rattle.std.specs.Prelude.{All}
use Rattle.std.proofs.lemmas.List.Elements.{All-weaker}
use Rattle.ipc_base.specs.Objects.{PlainObjects}
use Rattle.ipc_disk.specs.declared.range.Range.{Range}
use Rattle.ipc_disk.specs.Medium.{Image, Medium}
use Rattle.ipc_disk.specs.Range.{IsInside}
use Rattle.ipc_disk.specs.Since.{EachImageSince}
use Rattle.ipc_disk.proofs.CallerLemmas.{EachImageSince-weaken}
use Rattle.ipc_heap.specs.Heap.{Allocation, Holds, HoldsIn, used}
use Rattle.ipc_heap.specs.Matches.{HeapMatches, StaysSaved}
use Rattle.ipc_heap.specs.View.{HeapView}
use Rattle.ipc_heap.proofs.Damages.{HoldsIn-one}

-- another range has it too, if that has all sectors that are used
pub HoldsIn-within : (range other : Range) (root epoch : ℕ) (a : Allocation) (objects : PlainObjects) (image : Image) → All (IsInside other) (used a)
    → HoldsIn range root epoch a objects image → HoldsIn other root epoch a objects image
HoldsIn-within range other root epoch a objects image inside h = record {
  are = h.are;
  positive = h.positive;
  allocated = record {
    numbers = h.allocated.numbers;
    sizes = h.allocated.sizes;
    table = h.allocated.table;
    inside = inside;
    once = h.allocated.once;
  };
  current = h.current;
  first = h.first;
  long = h.long;
  chained = h.chained;
  table = h.table;
  stand = h.stand;
}

pub Holds-wider : (range wide : Range) (root epoch : ℕ) (objects : PlainObjects) (image : Image) → ((i : ℕ) → IsInside range i → IsInside wide i)
    → Holds range root epoch objects image → Holds wide root epoch objects image
Holds-wider range wide root epoch objects image wider holds = record {
  allocation = holds.allocation;
  there = HoldsIn-within range wide root epoch holds.allocation objects image
      (All-weaker (IsInside range) (IsInside wide) wider (used holds.allocation) holds.there.allocated.inside) holds.there;
}

-- in these sectors it is there on each image since
pub stays-saved : (heap : HeapView) (saved : PlainObjects) (old new : Medium) (matches : HeapMatches heap saved old)
    → EachImageSince old new (HoldsIn heap.range heap.root heap.epoch matches.there saved) → StaysSaved heap.range heap.root heap.epoch saved old new
stays-saved heap saved old new matches since part within now =
    let here : Holds part heap.root heap.epoch saved old.contents = now old.contents matches.honest.reads in
    let same : here.allocation ≡ matches.there =
    HoldsIn-one heap.range heap.root heap.epoch heap.epoch here.allocation matches.there saved saved old.contents
    (HoldsIn-within part heap.range heap.root heap.epoch here.allocation saved old.contents
    (All-weaker (IsInside part) (IsInside heap.range) within (used here.allocation) here.there.allocated.inside) here.there)
    (matches.images old.contents matches.honest.reads) in
    let inside : All (IsInside part) (used matches.there) =
    subst (λ (a : Allocation). All (IsInside part) (used a)) same here.there.allocated.inside in
    EachImageSince-weaken old new (HoldsIn heap.range heap.root heap.epoch matches.there saved) (Holds part heap.root heap.epoch saved) since
    (λ image holds. record {
      allocation = matches.there;
      there = HoldsIn-within heap.range part heap.root heap.epoch matches.there saved image inside holds;
    })
