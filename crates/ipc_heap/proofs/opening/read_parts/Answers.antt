-- What is left over is damage of the root.
use Rattle.std.proofs.Common.{◌≡◌, ◌/◌, ℕ, List, take, inl, inr, sym, ap, ◌∙◌, subst}
use Rattle.std.specs.Prelude.{flat_map}
use Rattle.ipc_disk.specs.Standing.{sector_at}
use Rattle.ipc_heap.specs.Damage.{IsFirstDamage, words_of_table}
use Rattle.ipc_heap.specs.Heap.{len_in, words_at}
use Rattle.ipc_heap.specs.Relations.Opening.{AreAllNoted}
use Rattle.ipc_heap.proofs.Opened.{damaged-rest}
use Rattle.ipc_heap.proofs.opening.read_parts.Goals as goal
use Rattle.ipc_heap.proofs.opening.read_parts.Goals.{then-not-is_map-via-then-not-is_map}
use Rattle.ipc_heap.proofs.opening.read_parts.Goals.{then-not-is_map-via-else-not-is_map+then-root-ne0}

pub returns-then-not-is_map-clause-named : goal.returns-then-not-is_map-clause-named
returns-then-not-is_map-clause-named g c sector err honest read =
    let image = (g.D.SectorDisk.medium c.args.disk.now).contents in
    let same : c.args.at ≡ sector = cc in
    let table = c.read_table.new.table.items in
    let words = c.read_table.new.words.items in
    let is = c.in_ok-read_table.ensures.table honest c.args.at read in
    let count : c.args.root.len / 4 ≡ len_in (sector_at image c.args.at) / 4 = ap (λ (n : ℕ). n / 4) (sym read.len) in
    let are : words ≡ words_of_table c.args.at image table =
    c.in_ok-read_table.ensures.words honest ∙ ap (λ (n : ℕ). take n (flat_map (words_at image) table)) count in
    let noted : AreAllNoted c.args.range table words c.note_objects.new.uses c.in_ok-is_map.is_map =
    subst (λ (l : List ℕ). AreAllNoted c.args.range l words c.note_objects.new.uses c.in_ok-is_map.is_map) c.deref-2.ensures.value
    (subst (λ (l : List ℕ). AreAllNoted c.args.range c.deref-2.result.now l c.note_objects.new.uses c.in_ok-is_map.is_map) c.deref.ensures.value
    c.in_ok-is_map.ensures.noted) in
    subst (IsFirstDamage c.args.range c.args.at image) same
    (damaged-rest c.args.range c.args.at image c.args.root table words c.note_objects.new.uses c.in_ok-is_map.is_map read is are noted
    (elim c.then-not-is_map.branch [
      | then-not-is_map-via-then-not-is_map w ↦ inl w.if-not-is_map.true
      | then-not-is_map-via-else-not-is_map+then-root-ne0 w ↦ inr w.if-root-ne0.true
    ]))
