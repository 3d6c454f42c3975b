-- A sector more of the table, or the damage that is seen in it.
use Rattle.std.proofs.Common.{◌≡◌, ◌<◌, false, ℕ, ◌+◌, ◌-◌, ◌/◌, ◌++◌, ◌∷◌, [], List, ⊎_elim}
use Rattle.std.proofs.Common.{length, take, drop, get_or, Some, sym, ap, ◌∙◌, subst, eq-eqb, arith}
use Rattle.std.specs.Prelude.{Contains, slice_get}
use Rattle.std.proofs.lemmas.Bool.{cases_eq, ne_eqb}
use Rattle.std.proofs.lemmas.List.{length_push}
use Rattle.std.proofs.lemmas.Option.{get_or_from_slice_get, slice_get-get_or}
use Rattle.ipc_disk.specs.Calls.{OnlyReads}
use Rattle.ipc_disk.specs.Medium.{Image, IsHonest}
use Rattle.ipc_disk.specs.Range.{IsInside}
use Rattle.ipc_disk.proofs.CallerLemmas.{OnlyReads-as}
use Rattle.ipc_heap.specs.declared.uses.Use.{Use}
use Rattle.ipc_heap.specs.Damage.{IsFirstDamage, chain_for}
use Rattle.ipc_heap.specs.Heap.{next_in, words_in}
use Rattle.ipc_heap.specs.Relations.Opening.{AreNoted}
use Rattle.ipc_heap.proofs.Opens.{AreRead, AreHops, read-more, noted-more, hops-more, table-read, damaged-next, damaged-last, reads-more}
use Rattle.ipc_heap.proofs.opening.read_table.Given.{Over}
use Rattle.ipc_heap.proofs.opening.read_table.Goals as goal
use Rattle.ipc_heap.proofs.opening.read_table.Goals.{After-can_follow}

-- nothing uses it
abbrev none : Use
none = record { saved = false; next = false }

module _ (g : Over) (c : After-can_follow g) where
  abbrev image : Image
  image = (g.D.SectorDisk.medium c.args.disk.now).contents

  abbrev more-words : List ℕ
  more-words = c.loop-j.words.items ++ take (c.args.root.len / 4 - length c.loop-j.words.items) (words_in (drop 4 c.read.new.into))

  abbrev more-table : List ℕ
  more-table = c.loop-j.table.items ++ c.loop-j.at ∷ []

  abbrev place : ℕ
  place = c.loop-j.at - c.args.range.first

  abbrev more-uses : List Use
  more-uses = c.note.new.self

  chain : c.div_ceil-count.result ≡ chain_for c.args.root.len
  chain = omega (arith, c.div_ceil-count.ensures)

  less : c.loop-j.j < chain_for c.args.root.len
  less = omega (arith, c.loop-j-test.true, chain)

  -- the sector that was read is the image's, and names the next one
  hops : IsHonest (g.D.SectorDisk.medium c.args.disk.now) → AreHops c.args.root image more-table more-words c.read_u32-next.result
  unfolding next_in
  hops honest =
      let so_far = c.loop-j.invariant in
      let bytes = c.in_ok-read.ensures.bytes (so_far.reads.same.honest.0 honest) in
      let stands : slice_get image c.loop-j.at ≡ Some c.read.new.into =
      ap (λ (i : Image). slice_get i c.loop-j.at) (sym ((so_far.reads.stays honest).contents honest)) ∙ bytes in
      hops-more (so_far.hops honest) (get_or_from_slice_get image c.loop-j.at c.read.new.into [] stands) (sym c.read_u32-next.ensures)

  noted : AreNoted c.args.range [] more-table more-uses
  noted =
      let so_far = c.loop-j.invariant.read in
      subst (AreNoted c.args.range [] more-table) (sym c.note.ensures)
      (noted-more so_far (get_or c.loop-j.uses place none) less
      (slice_get-get_or c.loop-j.uses place none (omega (arith, (so_far.next less).0, so_far.noted.all))))

  read : (c.loop-j.j + 1 ≡ chain_for c.args.root.len → c.read_u32-next.result ≡ 0)
      → (c.loop-j.j + 1 < chain_for c.args.root.len → IsInside c.args.range c.read_u32-next.result × (Contains more-table c.read_u32-next.result → ⊥))
      → AreRead c.args.range c.args.root more-table more-words more-uses (c.loop-j.j + 1) c.read_u32-next.result
  read = read-more c.loop-j.invariant.read c.read.new.into c.read.array_long noted

  reads : OnlyReads g.D.SectorDisk.size g.D.SectorDisk.medium g.D.SectorDisk.counts ⊥ c.args.disk.now c.read.new.self
  reads = reads-more c.loop-j.invariant.reads c.in_ok-read.ensures.call.sectors c.in_ok-read.ensures.call.ok c.read.ensures.medium

pub returns-then-not-can_follow-clause-reads : goal.returns-then-not-can_follow-clause-reads
returns-then-not-can_follow-clause-reads g c =
    OnlyReads-as (λ never. absurd never) (λ bad. cc) (reads g (goal.at.returns-then-not-can_follow-clause-reads g c).After-can_follow)

pub returns-then-not-can_follow-clause-named : goal.returns-then-not-can_follow-clause-named
returns-then-not-can_follow-clause-named g c sector err honest at is =
    let here = (goal.at.returns-then-not-can_follow-clause-named g c).After-can_follow in
    let same : c.loop-j.at ≡ sector = cc in
    let long : length (more-table g here) ≡ c.loop-j.j + 1 = omega (arith, length_push c.loop-j.table.items c.loop-j.at, c.loop-j.invariant.read.all) in
    subst (IsFirstDamage c.args.range at (image g here)) same
    (⊎_elim
    (λ (last : c.loop-j.j + 1 ≡ c.div_ceil-count.result).
    damaged-last (image g here) at is c.requires.sound c.loop-j.table.items c.loop-j.at (noted g here) (hops g here honest)
    (long ∙ last ∙ chain g here) (c.if-not-can_follow.ensures.last (eq-eqb _ _ last)))
    (λ (more : c.loop-j.j + 1 ≡ c.div_ceil-count.result → ⊥).
    damaged-next (image g here) at is c.requires.sound c.loop-j.table.items c.loop-j.at (noted g here) (hops g here honest)
    (omega (arith, long, less g here, chain g here, more)) (c.if-not-can_follow.ensures.more (ne_eqb _ _ more) (more-table g here) (noted g here)))
    (cases_eq (c.loop-j.j + 1) c.div_ceil-count.result))

pub loop-j-preserved : goal.loop-j-preserved
loop-j-preserved g c =
    let here = (goal.at.loop-j-preserved g c).After-can_follow in
    let now : AreRead c.args.range c.args.root (more-table g here) (more-words g here) (more-uses g here) (c.loop-j.j + 1) c.read_u32-next.result =
    read g here
    (λ last. c.if-not-can_follow.ensures.last (eq-eqb (c.loop-j.j + 1) c.div_ceil-count.result (omega (arith, last, chain g here))))
    (λ more. c.if-not-can_follow.ensures.more (ne_eqb (c.loop-j.j + 1) c.div_ceil-count.result (λ last. omega (arith, last, more, chain g here)))
    (more-table g here) (noted g here)) in
    let table : more-table g here ≡ c.push_reserved.new.self.items = sym c.push_reserved.ensures.items in
    let words : more-words g here ≡ c.push_words.new.words.items = sym c.push_words.ensures.items in
    record {
      read = subst (λ (l : List ℕ).
          AreRead c.args.range c.args.root l c.push_words.new.words.items (more-uses g here) (c.loop-j.j + 1) c.read_u32-next.result) table
          (subst (λ (l : List ℕ). AreRead c.args.range c.args.root (more-table g here) l (more-uses g here) (c.loop-j.j + 1) c.read_u32-next.result) words now);
      hops = λ honest. subst (λ (l : List ℕ). AreHops c.args.root (image g here) l c.push_words.new.words.items c.read_u32-next.result) table
          (subst (λ (l : List ℕ). AreHops c.args.root (image g here) (more-table g here) l c.read_u32-next.result) words (hops g here honest));
      reads = reads g here;
      room = c.push_reserved.ensures.capacity ∙ c.loop-j.invariant.room;
      words_room = c.push_words.ensures.capacity ∙ c.loop-j.invariant.words_room;
    }

pub returns-clause-table : goal.returns-clause-table
returns-clause-table g c honest at read =
    let image = (g.D.SectorDisk.medium c.args.disk.now).contents in
    let so_far = c.loop-j.invariant in
    let all : c.loop-j.j ≡ chain_for c.args.root.len = omega (arith, c.loop-j.auto.j-end, c.loop-j-test.false, c.div_ceil-count.ensures) in
    table-read image at read c.requires.sound
    (subst (λ (n : ℕ). AreRead c.args.range c.args.root c.loop-j.table.items c.loop-j.words.items c.loop-j.uses n c.loop-j.at) all so_far.read)
    (so_far.hops honest)

pub returns-then-not-can_follow-clause-own : goal.returns-then-not-can_follow-clause-own
returns-then-not-can_follow-clause-own g c sector err =
    let here = (goal.at.returns-then-not-can_follow-clause-own g c).After-can_follow in
    let same : c.loop-j.at ≡ sector = cc in
    subst (IsInside c.args.range) same (c.loop-j.invariant.read.next (less g here)).0
