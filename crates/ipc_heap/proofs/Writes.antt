-- Writes of sectors one after another: what they leave alone, what they count, and what stands there.
use Rattle.std.proofs.Common.{◌≡◌, ◌⊎◌, inl, inr, ⊎_elim, ℕ, zero, suc, ◌+◌, ◌-◌, ◌<◌, ◌≤◌, List, [], ◌∷◌, ◌++◌, length, get_or, take, drop, refl, sym, ap}
use Rattle.std.proofs.Common.{subst, ◌∙◌, append_assoc, arith}
use Rattle.std.specs.Prelude.{Contains, nat_eq, slice_set, flat_map, count_by}
use Rattle.std.specs.List.{IsDistinct}
use Rattle.std.proofs.lemmas.Bool.{both_ways}
use Rattle.std.proofs.lemmas.Option.{same_Some, slice_get_within}
use Rattle.std.proofs.lemmas.List.{append-nil, length-append, drop_at, length_push, get_or_append_left, get_or_default, get_or_at, take-append-drop, drop_more}
use Rattle.std.proofs.lemmas.List.Elements.{Contains-get_or}
use Rattle.ipc_disk.specs.Calls.{IsSameDisk}
use Rattle.ipc_disk.specs.Counts.{Counts, InRange, with_calls, with_write}
use Rattle.ipc_disk.specs.Medium.{Image, Medium, IsHonest, Writes}
use Rattle.ipc_disk.specs.Since.{LeavesAlone}
use Rattle.ipc_disk.specs.Standing.{sector_at, sectors_for}
use Rattle.ipc_disk.proofs.CallerLemmas.{IsSameDisk-then, LeavesAlone-fewer, LeavesAlone-join, LeavesAlone-start, LeavesAlone-writes, counts-calls}
use Rattle.ipc_disk.proofs.CallerLemmas.{honest-join, sector_at-set_same, sector_at-set_other}
use Rattle.ipc_disk.specs.declared.range.Range.{Range}
use Rattle.ipc_heap.specs.declared.uses.Use.{Use}
use Rattle.ipc_heap.specs.View.{is_free}
use Rattle.ipc_heap.specs.Relations.Uses.{IsTaken, AreTaken, WasFree, IsNotFree}
use Rattle.ipc_heap.specs.Heap.{next_in, words_in, words_at, table_sectors_for}
use Rattle.ipc_heap.specs.Relations.Table.{IsTableSector, IsTableOn, padded_part}
use Rattle.ipc_heap.proofs.Parts.{parts-join}
use Rattle.ipc_heap.proofs.Placed.{all-at}
use Rattle.ipc_heap.proofs.Sectors.{distinct-apart, in-first, taken-none, taken-push}

-- so many writes, each of which was Ok, of sectors that are none of these places
pub record Wrote {D : Type 0} (size : D → ℕ) (medium : D → Medium) (counts : D → Counts) (places : ℕ → Type 0) (writes : ℕ) (old new : D) : Type 0 where
  pub same : IsSameDisk size medium old new
  pub count : counts new ≡ with_calls writes 0 (counts old)
  pub others : IsHonest (medium old) → LeavesAlone places (medium old) (medium new)

module _ {D : Type 0} (size : D → ℕ) (medium : D → Medium) (counts : D → Counts) (places : ℕ → Type 0) where
  pub wrote-none : (disk : D) → InRange (counts disk)
      → ((image : Image) → (medium disk).images_since (medium disk).moment image → (medium disk).images_now image)
      → Wrote size medium counts places 0 disk disk
  wrote-none disk range law = record {
    same = record { sectors = refl; honest = (λ h. h, λ h. h) };
    count = counts-calls (counts disk) (counts disk) 0 0 refl (omega (arith, range.writes_fit)) (omega (arith, range.syncs_fit));
    others = λ honest. LeavesAlone-start places (medium disk) honest law;
  }

module _ {D : Type 0} {size : D → ℕ} {medium : D → Medium} {counts : D → Counts} {places : ℕ → Type 0} {n : ℕ} {old mid : D}
    (range : InRange (counts old)) (so_far : Wrote size medium counts places n old mid) (new : D) where
  -- one more
  pub wrote-more : {at : ℕ} {bytes : List ℕ} → (places at → ⊥) → Writes at bytes (medium mid) (medium new)
      → size new ≡ size mid → counts new ≡ with_write (counts mid) → Wrote size medium counts places (n + 1) old new
  wrote-more {at} {bytes} elsewhere call sectors count = record {
    same = record {
      sectors = sectors ∙ so_far.same.sectors;
      honest = honest-join (medium old) (medium mid) (medium new) so_far.same.honest call.time.honest;
    };
    count = rw (count, so_far.count) (counts-calls _ _ _ _ refl (omega arith) (omega (arith, range.syncs_fit)));
    others = λ honest. LeavesAlone-writes places (medium old) (medium mid) (medium new) at bytes (so_far.others honest) elsewhere call;
  }

  -- or so many, of which fewer sectors are none
  pub wrote-then : {fewer : ℕ → Type 0} (m : ℕ) → ((i : ℕ) → places i → fewer i) → IsSameDisk size medium mid new
      → counts new ≡ with_calls m 0 (counts mid) → (IsHonest (medium mid) → LeavesAlone fewer (medium mid) (medium new))
      → Wrote size medium counts places (n + m) old new
  wrote-then {fewer} m sub same count others = record {
    same = IsSameDisk-then so_far.same same;
    count = rw (count, so_far.count) (counts-calls _ _ _ _ refl (omega arith) (omega (arith, range.syncs_fit)));
    others = λ honest.
        let run = so_far.others honest in
        LeavesAlone-join places (medium old) (medium mid) (medium new) run
        (LeavesAlone-fewer places fewer (medium mid) (medium new) sub (others run.honest));
  }

-- ---- what stands in sectors, one after another

abbrev pub StandsIn : (ℕ → List ℕ → Type 0) → List ℕ → Image → Type 0
StandsIn P ss image = (k : ℕ) → k < length ss → P k (sector_at image (get_or ss k 0))

-- one more is written
pub stands-push : (P : ℕ → List ℕ → Type 0) (ss : List ℕ) (at : ℕ) (bytes : List ℕ) (image : Image) → (Contains ss at → ⊥) → at < length image
    → P (length ss) bytes → StandsIn P ss image → StandsIn P (ss ++ at ∷ []) (slice_set image at bytes)
stands-push P ss at bytes image apart within here so_far k less = ⊎_elim
    (λ last. subst (λ (n : ℕ). P n (sector_at (slice_set image at bytes) (get_or (ss ++ at ∷ []) n 0))) (sym last)
    (subst (λ (n : ℕ). P (length ss) (sector_at (slice_set image at bytes) n)) (sym (get_or_at ss at [] 0 (length ss) refl))
    (subst (P (length ss)) (sym (sector_at-set_same image at bytes within)) here)))
    (λ before. subst (λ (n : ℕ). P k (sector_at (slice_set image at bytes) n)) (sym (get_or_append_left ss (at ∷ []) 0 k before))
    (subst (P k) (sym (sector_at-set_other image at (get_or ss k 0) bytes (λ same. apart (subst (Contains ss) same (Contains-get_or ss k 0 before)))))
    (so_far k before)))
    (last_or_before k (length ss) (omega (arith, less, length_push ss at)))
  where
    last_or_before : (i n : ℕ) → i < n + 1 → (i ≡ n) ⊎ (i < n)
    last_or_before zero zero lt = inl refl
    last_or_before zero (suc n) lt = inr (omega arith)
    last_or_before (suc i) zero lt = absurd (omega arith)
    last_or_before (suc i) (suc n) lt = ⊎_elim (λ same. inl (ap suc same)) (λ less. inr (omega (arith, less))) (last_or_before i n (omega (arith, lt)))

-- the next of sectors of which none is twice is none of those before it
pub next-apart : (ss : List ℕ) (j : ℕ) → IsDistinct nat_eq ss → j < length ss → Contains (take j ss) (get_or ss j 0) → ⊥
next-apart ss j once less there =
    let split : ss ≡ take j ss ++ get_or ss j 0 ∷ drop (j + 1) ss =
    sym (take-append-drop j ss) ∙ ap (λ (l : List ℕ). take j ss ++ l) (drop_more ss j 0 less) in
    distinct-apart (take j ss) (get_or ss j 0 ∷ drop (j + 1) ss) (subst (IsDistinct nat_eq) split once) (get_or ss j 0) there
    (in-first (get_or ss j 0) (drop (j + 1) ss))

-- ---- a table

-- what stands in the k-th sector of a table
abbrev pub TableSector : List ℕ → List ℕ → ℕ → List ℕ → Type 0
TableSector words ss k sector = IsTableSector words k (get_or ss (k + 1) 0) sector

front-of : (s rest : List ℕ) (next : ℕ) → words_in s ≡ next ∷ rest → (next_in s ≡ next) × (words_in (drop 4 s) ≡ rest)
unfolding words_in next_in
front-of (a ∷ b ∷ c ∷ d ∷ s) rest next is = (cc, cc)
front-of [] rest next is = cc
front-of (a ∷ []) rest next is = cc
front-of (a ∷ b ∷ []) rest next is = cc
front-of (a ∷ b ∷ c ∷ []) rest next is = cc

pub table-stands : (words ss : List ℕ) (image : Image) → length ss ≡ table_sectors_for (length words) → StandsIn (TableSector words ss) ss image
    → IsTableOn words ss image
table-stands words ss image all stands = record {
  chained = λ k less. (front-of (sector_at image (get_or ss k 0)) _ (get_or ss (k + 1) 0) (stands k less)).0;
  words_there = parts-join 127 (words_at image) ss words
      (λ k d less. ap (λ (s : ℕ). words_at image s) (get_or_default ss k d 0 less)
      ∙ (front-of (sector_at image (get_or ss k 0)) _ (get_or ss (k + 1) 0) (stands k less)).1)
      (omega (arith, all));
}

-- ---- an object

-- a sector that was free is one that may be written
pub free-open : (range : Range) (uses : List Use) (s : ℕ) → length uses ≡ range.count → WasFree range.first uses s → IsNotFree range uses s → ⊥
free-open range uses s long (low, u, at, free) (inl (inl out)) = omega (arith, low, out)
free-open range uses s long (low, u, at, free) (inl (inr out)) =
    let less = slice_get_within uses (s - range.first) u at in omega (arith, less, long, out, low)
free-open range uses s long (low, u, at, free) (inr (v, also, kept)) =
    let same : u ≡ v = same_Some u v (sym at ∙ also) in
    both_ways (is_free v) kept (ap is_free (sym same) ∙ free)

-- a part of an object's bytes stands in a sector
abbrev pub ObjectSector : List ℕ → ℕ → List ℕ → Type 0
ObjectSector bytes k sector = sector ≡ padded_part 512 k bytes

-- so many sectors of an object are taken and written, and they are added to the words
pub record ObjectSoFar {D : Type 0} (size : D → ℕ) (medium : D → Medium) (counts : D → Counts) (range : Range) (bytes : List ℕ) (k : ℕ) (old new : D)
    (old_uses uses : List Use) (old_words words : List ℕ) : Type 0 where
  pub sectors : List ℕ
  pub added : words ≡ old_words ++ sectors
  pub long : length sectors ≡ k
  pub taken : AreTaken range.first old_uses sectors uses
  pub wrote : Wrote size medium counts (IsNotFree range old_uses) k old new
  pub stands : IsHonest (medium old) → StandsIn (ObjectSector bytes) sectors (medium new).contents

module _ {D : Type 0} (size : D → ℕ) (medium : D → Medium) (counts : D → Counts) (range : Range) (bytes : List ℕ) where
  pub object-none : (disk : D) (uses : List Use) (words : List ℕ) → InRange (counts disk)
      → ((image : Image) → (medium disk).images_since (medium disk).moment image → (medium disk).images_now image)
      → ObjectSoFar size medium counts range bytes 0 disk disk uses uses words words
  object-none disk uses words in_range law = record {
    sectors = [];
    added = sym (append-nil words);
    long = refl;
    taken = taken-none range.first uses;
    wrote = wrote-none size medium counts (IsNotFree range uses) disk in_range law;
    stands = λ honest k less. absurd (omega (arith, less));
  }

module _ {D : Type 0} {size : D → ℕ} {medium : D → Medium} {counts : D → Counts} {range : Range} {bytes : List ℕ} {k : ℕ} {old mid : D}
    {old_uses uses : List Use} {old_words words : List ℕ}
    (so_far : ObjectSoFar size medium counts range bytes k old mid old_uses uses old_words words) where
  -- the sectors are what was added
  pub object-added : drop (length old_words) words ≡ so_far.sectors
  object-added = ap (drop (length old_words)) so_far.added ∙ drop_at old_words so_far.sectors (length old_words) refl

  -- all of them
  pub object-stands : IsHonest (medium old) → k ≡ sectors_for (length bytes)
      → take (length bytes) (flat_map (sector_at (medium mid).contents) (drop (length old_words) words)) ≡ bytes
  object-stands honest all =
      ap (λ (l : List ℕ). take (length bytes) (flat_map (sector_at (medium mid).contents) l)) object-added
      ∙ parts-join 512 (sector_at (medium mid).contents) so_far.sectors bytes
      (λ j d less. ap (sector_at (medium mid).contents) (get_or_default so_far.sectors j d 0 less) ∙ so_far.stands honest j less)
      (omega (arith, so_far.long, all))

  module _ {i : ℕ} {new_uses : List Use} (one : IsTaken uses i new_uses) (all : length old_uses ≡ range.count) where
    pub taken-now : AreTaken range.first old_uses (so_far.sectors ++ (range.first + i) ∷ []) new_uses
    taken-now = taken-push range.first old_uses uses new_uses so_far.sectors so_far.taken i one

    -- the sector may be written
    pub taken-open : IsNotFree range old_uses (range.first + i) → ⊥
    taken-open =
        free-open range old_uses (range.first + i) all
        (all-at (WasFree range.first old_uses) so_far.sectors (range.first + i) [] taken-now.were_free)

    pub taken-inside : range.first + i < range.first + range.count
    taken-inside = omega (arith, slice_get_within uses i one.was one.there, so_far.taken.long, all)

    taken-apart : Contains so_far.sectors (range.first + i) → ⊥
    taken-apart there =
        distinct-apart so_far.sectors ((range.first + i) ∷ []) taken-now.once (range.first + i) there (in-first (range.first + i) [])

    pub words-now : words ++ (range.first + i) ∷ [] ≡ old_words ++ (so_far.sectors ++ (range.first + i) ∷ [])
    words-now = ap (λ (l : List ℕ). l ++ (range.first + i) ∷ []) so_far.added ∙ append_assoc old_words so_far.sectors ((range.first + i) ∷ [])

    module _ (new_words : List ℕ) (push : new_words ≡ words ++ (range.first + i) ∷ []) where
      added-now : drop (length old_words) new_words ≡ so_far.sectors ++ (range.first + i) ∷ []
      added-now =
          ap (drop (length old_words)) (push ∙ words-now)
          ∙ drop_at old_words (so_far.sectors ++ (range.first + i) ∷ []) (length old_words) refl

      pub pushed-words : new_words ≡ old_words ++ drop (length old_words) new_words
      pushed-words = push ∙ words-now ∙ ap (λ (l : List ℕ). old_words ++ l) (sym added-now)

      pub pushed-taken : AreTaken range.first old_uses (drop (length old_words) new_words) new_uses
      pushed-taken = subst (λ (l : List ℕ). AreTaken range.first old_uses l new_uses) (sym added-now) taken-now

    pub room-now : (room : ℕ) → length old_words + count_by is_free old_uses ≤ room → length words < room
    room-now room fits =
        omega (arith, fits, taken-now.left, length_push so_far.sectors (range.first + i), ap length so_far.added, length-append old_words so_far.sectors)

    -- one more is written
    pub object-more : (new : D) (sector new_words : List ℕ) → InRange (counts old) → Writes (range.first + i) sector (medium mid) (medium new)
        → size new ≡ size mid → counts new ≡ with_write (counts mid) → new_words ≡ words ++ (range.first + i) ∷ []
        → (IsHonest (medium mid) → (medium new).contents ≡ slice_set (medium mid).contents (range.first + i) sector)
        → (IsHonest (medium mid) → range.first + i < length (medium mid).contents)
        → sector ≡ padded_part 512 k bytes
        → ObjectSoFar size medium counts range bytes (k + 1) old new old_uses new_uses old_words new_words
    object-more new sector new_words in_range call sectors count push set within is = record {
      sectors = so_far.sectors ++ (range.first + i) ∷ [];
      added = push ∙ words-now;
      long = omega (arith, length_push so_far.sectors (range.first + i), so_far.long);
      taken = taken-now;
      wrote = wrote-more in_range so_far.wrote new taken-open call sectors count;
      stands = λ honest.
          let here = (so_far.wrote.others honest).honest in
          subst (StandsIn (ObjectSector bytes) (so_far.sectors ++ (range.first + i) ∷ [])) (sym (set here))
          (stands-push (ObjectSector bytes) so_far.sectors (range.first + i) sector (medium mid).contents taken-apart (within here)
          (is ∙ ap (λ (n : ℕ). padded_part 512 n bytes) (sym so_far.long)) (so_far.stands honest));
    }
