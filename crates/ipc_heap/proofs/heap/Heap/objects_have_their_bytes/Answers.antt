-- What holds of every heap, and of an honest disk.
use Rattle.std.proofs.Common.{◌≡◌, length, subst}
use Rattle.ipc_base.specs.Table.{seen_as}
use Rattle.ipc_disk.specs.Medium.{IsHonest}
use Rattle.ipc_heap.specs.Heap.{IsLaidOut}
use Rattle.ipc_heap.specs.View.{ArePlaced, HeapView, map_of, sizes_of}
use Rattle.ipc_heap.specs.Relations.Words.{placed_in}
use Rattle.ipc_heap.proofs.Stands.{bytes-on, sizes-on}
use Rattle.ipc_heap.proofs.heap.Heap.objects_have_their_bytes.Goals as goal

pub returns-clause-placed : goal.returns-clause-placed
returns-clause-placed g c =
    let h = c.self.invariant in
    subst (λ (v : HeapView). ArePlaced v.range v.placed) c.self.view_is
    (record { numbers = h.numbers; sizes = h.sizes; inside = h.inside; once = h.once })

pub returns-clause-bytes : goal.returns-clause-bytes
returns-clause-bytes g c =
    let medium = g.D.SectorDisk.medium c.args.disk.now in
    let size = g.D.SectorDisk.size c.args.disk.now in
    let h = c.self.invariant in
    let i = c.self.inside in
    subst (λ (v : HeapView). IsLaidOut v.range v.next_root size → IsHonest medium
    → sizes_of v ≡ seen_as (λ bytes. length bytes) (map_of v medium)) c.self.view_is
    (λ laid honest. sizes-on medium.contents (placed_in i.words.items)
    (bytes-on i.range medium.contents size (g.met.D.SectorDisk.shaped c.args.disk.now medium.contents honest.reads) laid.within
    (placed_in i.words.items) h.inside h.sizes)) c.requires
