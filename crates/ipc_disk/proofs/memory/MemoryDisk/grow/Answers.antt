-- A disk that has grown: zeros stand after the sectors that there were.
use Rattle.std.proofs.Common.{◌≡◌, ℕ, ◌-◌, ◌≤◌, ◌++◌, List, length, replicate, take, ap, sym, subst, ◌∙◌, Bool, true, false, ◌<◌, arith}
use Rattle.std.specs.Prelude.{All, if◌then◌else◌, is_ok}
use Rattle.std.proofs.lemmas.List.{take_all}
use Rattle.std.proofs.lemmas.List.Elements.{All-append, All-replicate, All-take, All-weaker}
use Rattle.ipc_disk.specs.declared.memory.Slot.{Slot}
use Rattle.ipc_disk.specs.declared.memory.TheConstants.{ZEROS}
use Rattle.ipc_disk.proofs.SlotsLemmas.{whole-grown, contents-grown, synced-grown, moment-grown}
use Rattle.ipc_disk.proofs.memory.MemoryDisk.grow.Goals as goal

-- the slots, of which there were fewer
slots-after : (old new : List Slot) (sectors len : ℕ) → len ≡ length old → len ≤ sectors
    → new ≡ take sectors old ++ replicate (sectors - len) ZEROS → new ≡ old ++ replicate (sectors - length old) ZEROS
slots-after old new sectors len all fewer is =
    is ∙ ap (λ (l : List Slot). l ++ replicate (sectors - len) ZEROS) (take_all sectors old (omega (arith, all, fewer)))
    ∙ ap (λ (n : ℕ). old ++ replicate (sectors - n) ZEROS) all

pub invariant_of-self-2-clause-whole : goal.invariant_of-self-2-clause-whole
invariant_of-self-2-clause-whole c =
    let slots = c.args.self.now.slots in
    whole-grown slots.items _ (c.args.sectors - length slots.items)
    (slots-after slots.items _ c.args.sectors slots.len slots.ok.0 (omega (arith, c.len.ensures, c.if-sectors-len.false)) c.in_ok-resize.ensures.items)
    c.args.self.now.whole

-- the list is filled up with the first sector
filled-up : (ok : Bool) (n more size : ℕ) (old new : List ℕ) → new ≡ (if ok then take n old ++ replicate more 0 else old) → 0 < size
    → All (λ i. i < size) old → All (λ i. i < size) new
filled-up true n more size old new is some places =
    subst (All (λ i. i < size)) (sym is)
    (All-append (λ i. i < size) (take n old) (replicate more 0) (All-take (λ i. i < size) n old places) (All-replicate (λ i. i < size) more 0 some))
filled-up false n more size old new is some places = subst (All (λ i. i < size)) (sym is) places

pub invariant_of-self-2-clause-places : goal.invariant_of-self-2-clause-places
invariant_of-self-2-clause-places c =
    let disk = c.args.self.now in
    let long : length c.resize.new.self.items ≡ c.args.sectors = sym c.resize.new.self.ok.0 ∙ c.in_ok-resize.ensures.len in
    let fewer : length disk.slots.items < length c.resize.new.self.items = omega (arith, long, disk.slots.ok.0, c.len.ensures, c.if-sectors-len.false) in
    filled-up (is_ok c.resize-2.result) c.args.sectors _ (length c.resize.new.self.items) c.reserve.new.self.items _
    c.resize-2.ensures.items (omega (arith, fewer))
    (subst (All (λ i. i < length c.resize.new.self.items)) (sym c.reserve.ensures.items)
    (All-weaker (λ i. i < length disk.slots.items) (λ i. i < length c.resize.new.self.items)
    (λ i lt. omega (arith, lt, fewer)) disk.unsynced.items disk.places))

pub returns-clause-contents : goal.returns-clause-contents
returns-clause-contents c =
    let slots = c.args.self.now.slots in
    contents-grown slots.items _ (c.args.sectors - length slots.items)
    (slots-after slots.items _ c.args.sectors slots.len slots.ok.0 (omega (arith, c.len.ensures, c.if-sectors-len.false)) c.in_ok-resize.ensures.items)

pub returns-clause-synced : goal.returns-clause-synced
returns-clause-synced c =
    let slots = c.args.self.now.slots in
    synced-grown slots.items _ (c.args.sectors - length slots.items)
    (slots-after slots.items _ c.args.sectors slots.len slots.ok.0 (omega (arith, c.len.ensures, c.if-sectors-len.false)) c.in_ok-resize.ensures.items)

pub returns-clause-any_moment : goal.returns-clause-any_moment
returns-clause-any_moment c =
    let slots = c.args.self.now.slots in
    moment-grown slots.items _ (c.args.sectors - length slots.items)
    (slots-after slots.items _ c.args.sectors slots.len slots.ok.0 (omega (arith, c.len.ensures, c.if-sectors-len.false)) c.in_ok-resize.ensures.items)
