-- Those of later kinds as objects: how many there are, how long they are, and the sectors that they take.
use Rattle.std.proofs.Common.{◌≡◌, ◌≤◌, ◌<◌, ◌+◌, ◌*◌, ◌^◌, ℕ, true, List, [], ◌∷◌, length, map, subst, arith}
use Rattle.std.specs.Prelude.{All, sum_by}
use Rattle.std.proofs.lemmas.List.{append-nil, length-append, length-map}
use Rattle.std.proofs.lemmas.List.Elements.{All-append, All-cons, All-head, All-map, All-nil, All-tail, All-weaker}
use Rattle.std.proofs.lemmas.List.Sums.{sum_by-cons}
use Rattle.std.proofs.lemmas.Nat.{mul-le}
use Rattle.ipc_limits.specs.declared.limits.Limits.{Limits}
use Rattle.ipc_limits.specs.Limits.{ArePassed}
use Rattle.ipc_base.specs.Objects.{PlainObjects}
use Rattle.ipc_base.specs.Table.{keys_of, IsRising}
use Rattle.ipc_base.proofs.CallerLemmas.{rising-lower}
use Rattle.ipc_limits.proofs.CallerLemmas.{passed-bounds}
use Rattle.ipc_keys.specs.declared.check.NameKind.{NameKind}
use Rattle.ipc_keys.specs.declared.check.NameKind.TheVariants as names
use Rattle.ipc_keys.specs.Names.{most_bytes}
use Rattle.posix_mq.specs.Queue.{Queue as Mq}
use Rattle.shm_segment.specs.Segment.{Segment}
use Rattle.shm_segment.specs.SysSegment.{SysSegment}
use Rattle.ipc_state.specs.declared.processes.Process.{Process}
use Rattle.ipc_state.specs.declared.parked.ObjectKind.TheVariants as kinds
use Rattle.ipc_state.specs.Kinds.{Content, EntryOf, Those}
use Rattle.ipc_state.specs.Keyed.{KeyedEntry}
use Rattle.ipc_state.specs.Named.{NamedEntry, is_named_so}
use Rattle.ipc_state.specs.Numbered.{AreNumbered}
use Rattle.ipc_state.specs.Sound.{AreSound, IsSoundContent, most_of}
use Rattle.ipc_state.specs.State.{State, named_of}
use Rattle.ipc_engine.specs.Sound.{IsSound}
use Rattle.ipc_image.specs.Saved.{mq_bytes, mq_object, psem_bytes, psem_object, segment_bytes, pshm_object, shm_bytes, shm_object}
use Rattle.ipc_image.specs.Saved.{LaterObjects, later_in, later_objects}
use Rattle.ipc_image.specs.SavedParts.{IsSmallNamed}
use Rattle.ipc_image.specs.Sizes.{sectors}
use Rattle.ipc_image.proofs.KindSizes.{objects-rise}
use Rattle.ipc_image.proofs.MqObjects.{formed-parts, mq-long, mq-short, name-short}
use Rattle.ipc_image.proofs.LaterObjects.{from_psems, from_pshms}

-- ---- how many

abbrev pub later_count : LaterObjects → ℕ
later_count o = length o.mq.entries + (length o.psem.entries + (length o.pshm.entries + length o.shm.entries))

pub later-counted : (o : LaterObjects) → length (later_objects o) ≡ later_count o
later-counted o =
    omega (
      arith,
      length-append (map mq_object o.mq.entries) (from_psems o),
      length-append (map psem_object o.psem.entries) (from_pshms o),
      length-append (map pshm_object o.pshm.entries) (map shm_object o.shm.entries),
      length-map o.mq.entries mq_object,
      length-map o.psem.entries psem_object,
      length-map o.pshm.entries pshm_object,
      length-map o.shm.entries shm_object,
    )

-- ---- how long

-- what holds of what is sound and has such a name holds of each object of a kind
pub each-held : (limits : Limits) (kind : NameKind) (processes : List (ℕ × Process)) (o : Those (kinds.Named kind))
    (P : ℕ × EntryOf (kinds.Named kind) → Type 0)
    → ((e : ℕ × EntryOf (kinds.Named kind)) → IsSoundContent limits (kinds.Named kind) e.1.object → is_named_so kind e ≡ true → P e)
    → AreSound limits processes (kinds.Named kind) o → All P o.entries
each-held limits kind processes o P from sound = both o.entries sound.held.bound.each sound.held.forms
  where
    Good : ℕ × EntryOf (kinds.Named kind) → Type 0
    Good f = IsSoundContent limits (kinds.Named kind) f.1.object

    Formed : ℕ × EntryOf (kinds.Named kind) → Type 0
    Formed f = is_named_so kind f ≡ true

    both : (es : List (ℕ × EntryOf (kinds.Named kind))) → All Good es → All Formed es → All P es
    both [] each formed = All-nil P
    both (e ∷ es) each formed =
        All-cons P e es (from e (All-head Good e es each) (All-head Formed e es formed)) (both es (All-tail Good e es each) (All-tail Formed e es formed))

-- no name is longer than this
few-bytes : (kind : NameKind) → most_bytes kind ≤ 255
few-bytes names.Mq = omega arith
few-bytes names.Psem = omega arith
few-bytes names.Pshm = omega arith

pub psem-long : (e : NamedEntry ℕ) → length (psem_bytes e) ≡ 20 + length e.bound
psem-long e = omega arith

pub segment-long : (e : NamedEntry Segment) → length (segment_bytes e) ≡ 24 + length e.bound + length e.object.bytes
segment-long e = omega (arith, length-append e.bound e.object.bytes)

pub shm-long : (e : KeyedEntry SysSegment) → length (shm_bytes e) ≡ 64 + length e.object.memory.bytes
shm-long e = omega arith

abbrev pub of : ℕ × List ℕ → ℕ
of o = sectors (length o.1)

-- its name is no longer than this
abbrev pub HasName : {X : Type 0} → ℕ → ℕ × NamedEntry X → Type 0
HasName most e = length e.1.bound ≤ most

-- segments of either kind, of which each has so many bytes, and an object with no more than 279 beside them
module _ {X : Type 0} (size : ℕ × X → ℕ) (object : ℕ × X → ℕ × List ℕ) where
  abbrev pub IsAround : ℕ × X → Type 0
  IsAround e = length (object e).1 ≤ 279 + size e

  -- one has no more bytes than this
  abbrev IsWithin : ℕ → ℕ × X → Type 0
  IsWithin most e = size e ≤ most

  -- the sectors of segments: two for each that are not full of its bytes
  pub segment-sectors : (es : List (ℕ × X)) → All IsAround es → 512 * sum_by of (map object es) ≤ sum_by size es + 790 * length es
  segment-sectors [] short = omega arith
  segment-sectors (e ∷ es) short =
      omega (
        arith,
        All-head IsAround e es short,
        segment-sectors es (All-tail IsAround e es short),
        sum_by-cons of (object e) (map object es),
        sum_by-cons size e es,
      )

  -- each segment has no more bytes than all
  segment-within : (es : List (ℕ × X)) (most : ℕ) → sum_by size es ≤ most → All (IsWithin most) es
  segment-within [] most all = All-nil _
  segment-within (e ∷ es) most all =
      let more = sum_by-cons size e es in
      All-cons (IsWithin most) e es (omega (arith, all, more)) (segment-within es most (omega (arith, all, more)))

  -- their bytes can be counted
  segments-few : (es : List (ℕ × X)) (most : ℕ) → most ≤ 536870912 → sum_by size es ≤ most → All IsAround es → All (λ e. length (object e).1 < 2 ^ 64) es
  segments-few es most few all around = both es (segment-within es most all) around
    where
      both : (ds : List (ℕ × X)) → All (IsWithin most) ds → All IsAround ds → All (λ e. length (object e).1 < 2 ^ 64) ds
      both [] within around = All-nil _
      both (d ∷ ds) within around =
          All-cons (λ (e : ℕ × X). length (object e).1 < 2 ^ 64) d ds
          (omega (arith, few, All-head (IsWithin most) d ds within, All-head IsAround d ds around))
          (both ds (All-tail (IsWithin most) d ds within) (All-tail IsAround d ds around))

-- how many bytes each has
abbrev pub pshm_size : ℕ × NamedEntry Segment → ℕ
pshm_size e = length e.1.object.bytes

abbrev pub shm_size : ℕ × KeyedEntry SysSegment → ℕ
shm_size e = length e.1.object.memory.bytes

pub shms-around : (es : List (ℕ × KeyedEntry SysSegment)) → All (IsAround shm_size shm_object) es
shms-around [] = All-nil _
shms-around (e ∷ es) = All-cons (IsAround shm_size shm_object) e es (omega (arith, shm-long e.1)) (shms-around es)

-- what holds of the object of each holds of the objects
objects-have : {X : Type 0} (P : ℕ × List ℕ → Type 0) (object : ℕ × X → ℕ × List ℕ) (Q : ℕ × X → Type 0) → ((e : ℕ × X) → Q e → P (object e))
    → (es : List (ℕ × X)) → All Q es → All P (map object es)
objects-have P object Q from es each = All-map P object es (All-weaker Q (λ e. P (object e)) from es each)

-- and those of the four kinds
later-have : (P : ℕ × List ℕ → Type 0) (o : LaterObjects) → All P (map mq_object o.mq.entries) → All P (map psem_object o.psem.entries)
    → All P (map pshm_object o.pshm.entries) → All P (map shm_object o.shm.entries) → All P (later_objects o)
later-have P o mqs sems segments shms =
    All-append P (map mq_object o.mq.entries) (from_psems o) mqs
    (All-append P (map psem_object o.psem.entries) (from_pshms o) sems
    (All-append P (map pshm_object o.pshm.entries) (map shm_object o.shm.entries) segments shms))

-- the most that a POSIX queue takes
abbrev pub most_mq : Limits → ℕ
most_mq limits = 299 + limits.maxmsg * (8 + limits.msgsize)

-- what holds of the bytes of each
pub record AreBytes (objects : PlainObjects) : Type 0 where
  pub some : All (λ o. 0 < length o.1) objects
  pub few : All (λ o. length o.1 < 2 ^ 64) objects

module _ (limits : Limits) (s : State) where
  abbrev o : LaterObjects
  o = later_in s

  module _ (sound : IsSound limits s) where
    -- the numbers of those of a kind
    pub numbered : (kind : NameKind) → AreNumbered (most_of limits (kinds.Named kind)) (named_of s kind)
    numbered kind = (sound.parts.named kind).held.bound.numbered

    pub shms-numbered : AreNumbered limits.shmmni s.shm
    shms-numbered = sound.parts.shm.held.bound.numbered

    pub later-few : later_count o ≤ limits.queues + limits.named_semaphores + limits.segments + limits.shmmni
    later-few =
        omega (
          arith,
          (numbered names.Mq).count,
          (numbered names.Psem).count,
          (numbered names.Pshm).count,
          shms-numbered.count,
        )

    -- their numbers rise
    pub later-rise : IsRising (3 * 2 ^ 32 + 1) (keys_of (later_objects o)) (2 ^ 64)
    later-rise =
        let shms : PlainObjects = map shm_object o.shm.entries in
        let last : IsRising (6 * 2 ^ 32 + 1) (keys_of shms) (2 ^ 64) =
        subst (λ (os : PlainObjects). IsRising (6 * 2 ^ 32 + 1) (keys_of os) (2 ^ 64)) (append-nil shms)
        (objects-rise (6 * 2 ^ 32) shm_bytes 1 o.shm.next (2 ^ 64) o.shm.entries [] shms-numbered.numbers (omega (arith, shms-numbered.next))) in
        let segments : IsRising (5 * 2 ^ 32 + 1) (keys_of (from_pshms o)) (2 ^ 64) =
        objects-rise (5 * 2 ^ 32) segment_bytes 1 o.pshm.next (2 ^ 64) o.pshm.entries shms (numbered names.Pshm).numbers
        (rising-lower (5 * 2 ^ 32 + o.pshm.next) (6 * 2 ^ 32 + 1) (keys_of shms) (2 ^ 64) (omega (arith, (numbered names.Pshm).next)) last) in
        let sems : IsRising (4 * 2 ^ 32 + 1) (keys_of (from_psems o)) (2 ^ 64) =
        objects-rise (4 * 2 ^ 32) psem_bytes 1 o.psem.next (2 ^ 64) o.psem.entries (from_pshms o) (numbered names.Psem).numbers
        (rising-lower (4 * 2 ^ 32 + o.psem.next) (5 * 2 ^ 32 + 1) (keys_of (from_pshms o)) (2 ^ 64) (omega (arith, (numbered names.Psem).next)) segments) in
        objects-rise (3 * 2 ^ 32) mq_bytes 1 o.mq.next (2 ^ 64) o.mq.entries (from_psems o) (numbered names.Mq).numbers
        (rising-lower (3 * 2 ^ 32 + o.mq.next) (4 * 2 ^ 32 + 1) (keys_of (from_psems o)) (2 ^ 64) (omega (arith, (numbered names.Mq).next)) sems)

    pub names-short : (kind : NameKind) → All (HasName (most_bytes kind)) (named_of s kind).entries
    names-short kind =
        All-weaker (λ (e : ℕ × EntryOf (kinds.Named kind)). is_named_so kind e ≡ true) (HasName (most_bytes kind))
        (λ e formed. name-short kind e formed) (named_of s kind).entries (sound.parts.named kind).held.forms

    pub mqs-short : All (λ e. length (mq_bytes e.1) ≤ most_mq limits) o.mq.entries
    mqs-short =
        each-held limits names.Mq s.processes.entries s.mq (λ e. length (mq_bytes e.1) ≤ most_mq limits)
        (λ e good formed. mq-short limits e.0 e.1 good formed) (sound.parts.named names.Mq)

    pub segments-around : All (IsAround pshm_size pshm_object) o.pshm.entries
    segments-around =
        All-weaker (HasName 255) (IsAround pshm_size pshm_object) (λ e less. omega (arith, less, segment-long e.1)) o.pshm.entries
        (names-short names.Pshm)

    -- they have some bytes, and not too many to be counted
    pub later-are : ArePassed limits → AreBytes (later_objects o)
    later-are passed =
        let b = passed-bounds limits passed in
        let most : most_mq limits < 2 ^ 64 = omega (arith, mul-le limits.maxmsg (8 + limits.msgsize) 10 65544 b.maxmsg (omega (arith, b.msgsize))) in
        let Some-bytes : ℕ × List ℕ → Type 0 = λ x. 0 < length x.1 in
        let Few-bytes : ℕ × List ℕ → Type 0 = λ x. length x.1 < 2 ^ 64 in
        let Short : ℕ × NamedEntry Mq → Type 0 = λ e. length (mq_bytes e.1) ≤ most_mq limits in
        record {
          some = later-have Some-bytes o (objects-have Some-bytes mq_object Short (λ e short. omega (arith, mq-long e.1)) o.mq.entries mqs-short)
              (objects-have Some-bytes psem_object (HasName 251) (λ e short. omega (arith, psem-long e.1)) o.psem.entries (names-short names.Psem))
              (objects-have Some-bytes pshm_object (HasName 255) (λ e short. omega (arith, segment-long e.1)) o.pshm.entries (names-short names.Pshm))
              (objects-have Some-bytes shm_object (IsAround shm_size shm_object) (λ e short. omega (arith, shm-long e.1)) o.shm.entries
              (shms-around o.shm.entries));
          few = later-have Few-bytes o (objects-have Few-bytes mq_object Short (λ e short. omega (arith, short, most)) o.mq.entries mqs-short)
              (objects-have Few-bytes psem_object (HasName 251) (λ e short. omega (arith, short, psem-long e.1)) o.psem.entries (names-short names.Psem))
              (All-map Few-bytes pshm_object o.pshm.entries
              (segments-few pshm_size pshm_object o.pshm.entries limits.segment_bytes (omega (arith, b.segment_bytes)) (sound.parts.named names.Pshm).together
              segments-around))
              (All-map Few-bytes shm_object o.shm.entries
              (segments-few shm_size shm_object o.shm.entries limits.shmall b.shmall sound.parts.shm.together (shms-around o.shm.entries)));
        }

    -- the sizes of those of a kind
    pub named-small : (kind : NameKind) (IsSmallObject : Content (kinds.Named kind) → Type 0)
        → ((x : Content (kinds.Named kind)) → IsSoundContent limits (kinds.Named kind) x → IsSmallObject x)
        → All (λ e. IsSmallNamed IsSmallObject e.1) (named_of s kind).entries
    named-small kind IsSmallObject small =
        each-held limits kind s.processes.entries (named_of s kind) (λ e. IsSmallNamed IsSmallObject e.1)
        (λ e good formed. record {
          own = (formed-parts kind e formed).1;
          name = omega (arith, name-short kind e formed, few-bytes kind);
          object = small e.1.object good;
        }) (sound.parts.named kind)
