-- The object is there, and its sectors are those of the range.
use Rattle.std.proofs.Common.{◌≡◌, ◌<◌, ℕ, List, Option, take, get_or, Some, sym, ◌∙◌, ap, subst, arith}
use Rattle.std.specs.Prelude.{All, Contains, flat_map, is_some, option_map}
use Rattle.std.proofs.lemmas.List.Elements.{All-contains}
use Rattle.std.proofs.lemmas.Result.{on_ok_weaker}
use Rattle.ipc_base.specs.Objects.{window}
use Rattle.ipc_disk.specs.Medium.{Image}
use Rattle.ipc_disk.specs.Range.{IsInside}
use Rattle.ipc_disk.specs.Standing.{sector_at}
use Rattle.ipc_heap.specs.Heap.{Placed, object_sectors}
use Rattle.ipc_heap.specs.View.{HeapView}
use Rattle.ipc_heap.specs.Relations.Found.{seen_at}
use Rattle.ipc_heap.specs.Relations.Words.{placed_in}
use Rattle.ipc_heap.proofs.Stands.{seen-any, sectors-of, len-of}
use Rattle.ipc_heap.proofs.heap.Heap.read.Goals as goal

-- its bytes, on an image
abbrev bytes_on : Image → Placed → List ℕ
bytes_on image p = take p.len (flat_map (sector_at image) p.sectors)

pub words_of-words-requires-clause-there : goal.words_of-words-requires-clause-there
words_of-words-requires-clause-there g c =
    let image = (g.D.SectorDisk.medium c.args.disk.now).contents in
    let same : placed_in c.deref.result.now ≡ c.args.self.now.placed = ap placed_in c.deref.ensures.value ∙ ap (λ (h : HeapView). h.placed) c.self.view_is in
    ap (λ (l : List Placed). is_some (seen_at (λ p. p.sectors) l c.args.object)) same
    ∙ seen-any (λ p. p.sectors) (λ p. take p.len (flat_map (sector_at image) p.sectors)) c.args.self.now.placed c.args.object ∙ c.requires.object

pub read_window-requires-clause-within : goal.read_window-requires-clause-within
read_window-requires-clause-within g c =
    let words : List ℕ = c.words_of-words.result.now in
    let found = c.words_of-words.ensures in
    let range = c.args.self.now.range in
    let inside : All (IsInside range) (object_sectors (placed_in c.self.inside.words.items)) =
    subst (λ (h : HeapView). All (IsInside h.range) (object_sectors (placed_in c.self.inside.words.items))) c.self.view_is c.self.invariant.inside in
    subst (All (λ (i : ℕ). i < g.D.SectorDisk.size c.args.disk.now)) (sym (sectors-of words found.object found.are))
    (λ k d lt.
    let at : ℕ = get_or found.object.sectors k d in
    let one : IsInside range at = All-contains (IsInside range) (object_sectors (placed_in c.self.inside.words.items)) at inside
    (subst (λ (l : List ℕ). Contains (object_sectors (placed_in l)) at) c.deref.ensures.value (found.among k d lt)) in
    omega (arith, one, c.requires.laid_out.within))

pub returns-clause-bytes : goal.returns-clause-bytes
returns-clause-bytes g c = on_ok_weaker c.read_window.result
    (λ read honest.
    let image = (g.D.SectorDisk.medium c.args.disk.now).contents in
    let words : List ℕ = c.words_of-words.result.now in
    let found = c.words_of-words.ensures in
    let p : Placed = found.object in
    let same : placed_in c.deref.result.now ≡ c.args.self.now.placed = ap placed_in c.deref.ensures.value ∙ ap (λ (h : HeapView). h.placed) c.self.view_is in
    let there : seen_at (bytes_on image) c.args.self.now.placed c.args.object ≡ Some (bytes_on image p) =
    subst (λ (l : List Placed). seen_at (bytes_on image) l c.args.object ≡ Some (bytes_on image p)) same (found.seen (bytes_on image)) in
    ap (λ (o : Option (List ℕ)). option_map (window c.args.place) o) there
    ∙ ap (λ (l : List ℕ). Some (window c.args.place l))
    (ap (λ (n : ℕ). take n (flat_map (sector_at image) p.sectors)) (sym (c.u64_at.ensures ∙ len-of words p found.are))
    ∙ ap (λ (l : List ℕ). take c.u64_at.result (flat_map (sector_at image) l)) (sym (sectors-of words p found.are)))
    ∙ ap (λ (l : List ℕ). Some l) (sym (read honest)))
    c.read_window.ensures.bytes
