-- Objects are put into a heap, one after another: what the map is then, and what that has cost.
use Rattle.std.proofs.Common.{◌≡◌, ◌≢◌, ◌⊎◌, inl, inr, ⊎_elim, ℕ, zero, suc, ◌+◌, ◌^◌, ◌<◌, ◌≤◌, Bool, true, false, List, [], ◌∷◌}
use Rattle.std.proofs.Common.{length, get_or, take, Option, Some, refl, sym, ap, subst, ◌∙◌, arith}
use Rattle.std.specs.Prelude.{Err, IsErrOf, IfSome, if◌then◌else◌, nat_eq, is_some, option_map, slice_get}
use Rattle.std.proofs.lemmas.Bool.{cases_eq}
use Rattle.std.proofs.lemmas.List.{length-map}
use Rattle.std.proofs.lemmas.List.Sums.{sum_by_more}
use Rattle.std.proofs.lemmas.Option.{get_or_from_slice_get, slice_get_within, slice_get-get_or, slice_get-map}
use Rattle.ipc_base.specs.Objects.{PlainObjects, AreObjects, object_sectors}
use Rattle.ipc_base.specs.Table.{IsRising, keys_of, seen_as, value_at}
use Rattle.ipc_base.proofs.CallerLemmas.{at-map, keys-map, same_keys, test_cases}
use Rattle.ipc_disk.specs.Calls.{IsSameDisk}
use Rattle.ipc_disk.specs.Counts.{Counts, InRange, with_calls}
use Rattle.ipc_disk.specs.declared.range.Range.{Range}
use Rattle.ipc_disk.specs.Medium.{Image, Medium, IsHonest}
use Rattle.ipc_disk.specs.Range.{IsOutside}
use Rattle.ipc_disk.specs.Since.{LeavesAlone}
use Rattle.ipc_disk.specs.Standing.{sectors_for}
use Rattle.ipc_disk.proofs.CallerLemmas.{EachImageSince-join, EachImageSince-now, EachImageSince-start, IsSameDisk-then, LeavesAlone-fewer}
use Rattle.ipc_disk.proofs.CallerLemmas.{LeavesAlone-join, LeavesAlone-start}
use Rattle.ipc_disk.proofs.CallerLemmas.{counts-calls}
use Rattle.ipc_heap.specs.Heap.{Holds, object_on}
use Rattle.ipc_heap.specs.Matches.{HeapMatches, IsKept, StaysSaved}
use Rattle.ipc_heap.specs.Meanwhile.{EachLater, KeepsUsed}
use Rattle.ipc_heap.specs.View.{ArePlaced, HeapView, StaysInPlace, free, map_of, sizes_of, with_object}
use Rattle.ipc_heap.proofs.CallerLemmas.{EachLater-join, EachLater-start, KeepsUsed-refl, KeepsUsed-then, later-used}
use Rattle.ipc_checkpoint.specs.Matches.{changed_sectors}
use Rattle.ipc_checkpoint.specs.Saving.{AreThere, HasNoOthers}
use Rattle.ipc_heap.specs.declared.error.HeapError.{HeapError}
use Rattle.ipc_heap.specs.declared.error.HeapError.TheVariants.{Device, Full}
use Rattle.ipc_checkpoint.proofs.Keeping.{in-place, stays-then}
use Rattle.ipc_checkpoint.proofs.Loads.{keys-seen, seen-known}
use Rattle.ipc_checkpoint.proofs.Tables.{rising-at, rising-same, value-place, with-at, with-other}

-- ---- objects and their numbers

-- an object has a value at its number, and no other one
pub own-value : (os : PlainObjects) → AreObjects os → (i : ℕ) (o : ℕ × List ℕ) → slice_get os i ≡ Some o → value_at nat_eq os o.0 ≡ Some o.1
own-value os are i o is =
    subst (λ (p : ℕ × List ℕ). value_at nat_eq os p.0 ≡ Some p.1) (get_or_from_slice_get os i o (0, []) is)
    (rising-at 0 os (2 ^ 64) i (0, []) are.numbers (slice_get_within os i o is))

one-value : (os : PlainObjects) → AreObjects os → (i k : ℕ) (a o : ℕ × List ℕ) → slice_get os i ≡ Some a → slice_get os k ≡ Some o → o.0 ≡ a.0 → o.1 ≡ a.1
one-value os are i k a o at there same =
    let both : Some o.1 ≡ Some a.1 = sym (own-value os are k o there) ∙ ap (value_at nat_eq os) same ∙ own-value os are i a at in cc

-- what is said of an element that is there
pub if-some : {X : Type 0} (P : X → Type 0) (r : Option X) (x : X) → r ≡ Some x → IfSome r P → P x
if-some {X} P r x is holds = subst (λ (s : Option X). IfSome s P) is holds

-- ---- counts

pub calls-none : (c : Counts) → InRange c → c ≡ with_calls 0 0 c
calls-none c range = counts-calls c c 0 0 refl (omega (arith, range.writes_fit)) (omega (arith, range.syncs_fit))

pub calls-more : (n m s : ℕ) (old mid new : Counts) → InRange old → mid ≡ with_calls n 0 old → new ≡ with_calls m s mid → new ≡ with_calls (n + m) s old
calls-more n m s old mid new range first next =
    rw (next, first) (counts-calls _ _ _ _ refl (omega arith) (omega (arith, range.syncs_fit)))

-- an error that is not for want of sectors is the disk's
pub device : (e : HeapError) → (IsErrOf {T = Unit {0}} (Err e) Full → ⊥) → IsErrOf {T = Unit {0}} (Err e) Device
device Device some = refl
device Full some = absurd (some refl)

changed-more : (differs : ℕ → Bool) (os : PlainObjects) (i j : ℕ) (d : ℕ × List ℕ) → j ≡ i + 1 → i < length os
    → changed_sectors differs (take j os) ≡ changed_sectors differs (take i os) + (if differs i then sectors_for (length (get_or os i d).1) else 0)
changed-more differs [] i j d is less = absurd (omega (arith, less))
changed-more differs (o ∷ os) i zero d is less = absurd (omega (arith, is))
changed-more differs (o ∷ os) zero (suc j) d is less =
    let none : j ≡ 0 = omega (arith, is) in rw none (omega arith)
changed-more differs (o ∷ os) (suc i) (suc j) d is less =
    let next : i + 1 ≡ suc i = omega arith in
    let rest = rw next at (changed-more (λ k. differs (k + 1)) os i j d (omega (arith, is)) (omega (arith, less))) in
    omega (arith, rest)

-- ---- so many of them were looked at

pub record PutSoFar {D : Type 0} (size : D → ℕ) (medium : D → Medium) (counts : D → Counts) (os : PlainObjects) (differs : ℕ → Bool) (begin : HeapView)
    (old : D) (i : ℕ) (now : HeapView) (disk : D) : Type 0 where
  pub stays : StaysInPlace begin now
  pub placed : ArePlaced now.range now.placed
  pub bytes : IsHonest (medium disk) → sizes_of now ≡ seen_as (λ b. length b) (map_of now (medium disk))
  pub no_others : HasNoOthers (sizes_of now) os
  pub there : (k : ℕ) (o : ℕ × List ℕ) → k < i → slice_get os k ≡ Some o → value_at nat_eq (sizes_of now) o.0 ≡ Some (length o.1)
  pub matches : (saved : PlainObjects) → HeapMatches begin saved (medium old) → HeapMatches now saved (medium disk)
  pub map : (saved : PlainObjects) → HeapMatches begin saved (medium old) → AreThere differs os (map_of begin (medium old))
      → (k : ℕ) (o : ℕ × List ℕ) → slice_get os k ≡ Some o → (k < i) ⊎ (differs k ≡ false) → value_at nat_eq (map_of now (medium disk)) o.0 ≡ Some o.1
  pub moment : (saved : PlainObjects) → HeapMatches begin saved (medium old)
      → StaysSaved begin.range begin.root begin.epoch saved (medium old) (medium disk)
  pub meanwhile : (saved : PlainObjects) → HeapMatches begin saved (medium old)
      → EachLater (KeepsUsed begin.range begin.root) (medium old) (medium disk)
  pub others : IsHonest (medium old) → LeavesAlone (IsOutside begin.range) (medium old) (medium disk)
  pub same : IsSameDisk size medium old disk
  pub spent : ℕ
  pub spent_most : spent ≤ object_sectors (take i os)
  pub spent_free : free begin ≤ free now + spent
  pub spent_counts : counts disk ≡ with_calls spent 0 (counts old)
  pub spent_changed : (saved : PlainObjects) → HeapMatches begin saved (medium old) → AreThere differs os (map_of begin (medium old))
      → spent ≡ changed_sectors differs (take i os)

module _ {D : Type 0} {size : D → ℕ} {medium : D → Medium} {counts : D → Counts} {os : PlainObjects} {differs : ℕ → Bool} {begin : HeapView} {old : D} where
  pub put-none : ArePlaced begin.range begin.placed → (IsHonest (medium old) → sizes_of begin ≡ seen_as (λ b. length b) (map_of begin (medium old)))
      → HasNoOthers (sizes_of begin) os → InRange (counts old)
      → ((image : Image) → (medium old).images_since (medium old).moment image → (medium old).images_now image)
      → PutSoFar size medium counts os differs begin old 0 begin old
  put-none placed bytes no_others range law = record {
    stays = record { range = refl; root = refl; next_root = refl; epoch = refl; table = refl };
    placed = placed;
    bytes = bytes;
    no_others = no_others;
    there = λ k o never. absurd (omega (arith, never));
    matches = λ saved at. at;
    map = λ saved at there k o is either. ⊎_elim (λ never. absurd (omega (arith, never))) (λ off. there k o is off) either;
    moment = λ saved at part within now. EachImageSince-start (medium old) (Holds part begin.root begin.epoch saved) law now;
    meanwhile = λ saved at. EachLater-start (KeepsUsed begin.range begin.root) (medium old) law (KeepsUsed-refl begin.range begin.root);
    others = λ honest. LeavesAlone-start (IsOutside begin.range) (medium old) honest law;
    same = record { sectors = refl; honest = (λ h. h, λ h. h) };
    spent = 0;
    spent_most = omega arith;
    spent_free = omega arith;
    spent_counts = calls-none (counts old) range;
    spent_changed = λ saved at there. refl;
  }

  module _ (are : AreObjects os) {i : ℕ} {now : HeapView} {disk : D} (so_far : PutSoFar size medium counts os differs begin old i now disk)
      {o : ℕ × List ℕ} (at : slice_get os i ≡ Some o) where
    less : i < length os
    less = slice_get_within os i o at

    its : get_or os i (0, []) ≡ o
    its = get_or_from_slice_get os i o (0, []) at

    most : object_sectors (take (i + 1) os) ≡ object_sectors (take i os) + sectors_for (length o.1)
    most =
        sum_by_more (λ (p : ℕ × List ℕ). sectors_for (length p.1)) os i (0, []) less
        ∙ ap (λ (p : ℕ × List ℕ). object_sectors (take i os) + sectors_for (length p.1)) its

    changed : (b : Bool) → differs i ≡ b
        → changed_sectors differs (take (i + 1) os) ≡ changed_sectors differs (take i os) + (if b then sectors_for (length o.1) else 0)
    changed b is =
        changed-more differs os i (i + 1) (0, []) refl less
        ∙ ap (λ (p : ℕ × List ℕ). changed_sectors differs (take i os) + (if differs i then sectors_for (length p.1) else 0)) its
        ∙ ap (λ (c : Bool). changed_sectors differs (take i os) + (if c then sectors_for (length o.1) else 0)) is

    -- it is kept
    pub put-kept : differs i ≡ false → value_at nat_eq (sizes_of now) o.0 ≡ Some (length o.1)
        → PutSoFar size medium counts os differs begin old (i + 1) now disk
    put-kept off is = record {
      stays = so_far.stays;
      placed = so_far.placed;
      bytes = so_far.bytes;
      no_others = so_far.no_others;
      there = λ k p lt there. ⊎_elim
          (λ (here : k ≡ i).
          let both : Some p ≡ Some o = sym there ∙ ap (slice_get os) here ∙ at in
          let one : p ≡ o = cc in
          subst (λ (q : ℕ × List ℕ). value_at nat_eq (sizes_of now) q.0 ≡ Some (length q.1)) (sym one) is)
          (λ (other : k ≡ i → ⊥). so_far.there k p (omega (arith, lt, other)) there) (cases_eq k i);
      matches = so_far.matches;
      map = λ saved begins were k p there either. so_far.map saved begins were k p there (⊎_elim
          (λ (lt : k < i + 1). ⊎_elim (λ (here : k ≡ i). inr (ap differs here ∙ off)) (λ (other : k ≡ i → ⊥). inl (omega (arith, lt, other))) (cases_eq k i))
          inr either);
      moment = so_far.moment;
      meanwhile = so_far.meanwhile;
      others = so_far.others;
      same = so_far.same;
      spent = so_far.spent;
      spent_most = omega (arith, so_far.spent_most, most);
      spent_free = so_far.spent_free;
      spent_counts = so_far.spent_counts;
      spent_changed = λ saved begins were. so_far.spent_changed saved begins were ∙ omega (arith, changed false off);
    }

    -- an object that did not differ was there
    was-there : (saved : PlainObjects) → HeapMatches begin saved (medium old) → AreThere differs os (map_of begin (medium old)) → differs i ≡ false
        → value_at nat_eq (sizes_of now) o.0 ≡ Some (length o.1)
    was-there saved begins were off =
        let here = so_far.map saved begins were i o at (inr off) in
        ap (λ (t : List (ℕ × ℕ)). value_at nat_eq t o.0) (so_far.bytes (so_far.matches saved begins).honest)
        ∙ at-map (λ (b : List ℕ). length b) (map_of now (medium disk)) o.0
        ∙ ap (λ (r : Option (List ℕ)). option_map (λ b. length b) r) here

    -- the images while it is put in, whether or not that goes well
    module _ {next : D} (moment : (saved : PlainObjects) → HeapMatches now saved (medium disk)
        → StaysSaved now.range now.root now.epoch saved (medium disk) (medium next))
        (others : IsHonest (medium disk) → LeavesAlone (IsKept now) (medium disk) (medium next)) where
      pub put-moment : (saved : PlainObjects) → HeapMatches begin saved (medium old)
          → StaysSaved begin.range begin.root begin.epoch saved (medium old) (medium next)
      put-moment saved begins part within here =
          let P : Image → Type 0 = Holds part begin.root begin.epoch saved in
          let at = so_far.matches saved begins in
          let before = so_far.moment saved begins part within here in
          EachImageSince-join (medium old) (medium disk) (medium next) P before
          (in-place (λ r n m e. StaysSaved r n e saved (medium disk) (medium next)) so_far.stays (moment saved at) part within
          (EachImageSince-now (medium old) (medium disk) P before at.honest))

      pub put-meanwhile : (saved : PlainObjects) → HeapMatches begin saved (medium old)
          → EachLater (KeepsUsed begin.range begin.root) (medium old) (medium next)
      put-meanwhile saved begins =
          let at = so_far.matches saved begins in
          let R : Image → Image → Type 0 = KeepsUsed begin.range begin.root in
          EachLater-join R R (medium old) (medium disk) (medium next) (λ a b keeps. keeps)
          (λ a b c first after. KeepsUsed-then begin.range begin.root begins.apart a b first c after) at.honest (so_far.meanwhile saved begins)
          (in-place (λ r n m e. EachLater (KeepsUsed r n) (medium disk) (medium next)) so_far.stays
          (later-used now saved (medium disk) at (medium next) (others at.honest)))

      pub put-others : IsHonest (medium old) → LeavesAlone (IsOutside begin.range) (medium old) (medium next)
      put-others honest =
          let run = so_far.others honest in
          LeavesAlone-join (IsOutside begin.range) (medium old) (medium disk) (medium next) run
          (LeavesAlone-fewer (IsOutside begin.range) (IsKept now) (medium disk) (medium next)
          (λ s out. inl (subst (λ (r : Range). IsOutside r s) (sym so_far.stays.range) out))
          (others run.honest))

      -- it is put in
      module _ {new : HeapView} (stays : StaysInPlace now new) (placed : ArePlaced new.range new.placed)
          (bytes : IsHonest (medium next) → sizes_of new ≡ seen_as (λ b. length b) (map_of new (medium next)))
          (sizes : sizes_of new ≡ with_object (sizes_of now) o.0 (length o.1))
          (matches : (saved : PlainObjects) → HeapMatches now saved (medium disk) → HeapMatches new saved (medium next))
          (maps : (saved : PlainObjects) → HeapMatches now saved (medium disk) → map_of new (medium next) ≡ with_object (map_of now (medium disk)) o.0 o.1)
          (same : IsSameDisk size medium disk next) (range : InRange (counts old))
          (spends : free now ≤ free new + sectors_for (length o.1)) (calls : counts next ≡ with_calls (sectors_for (length o.1)) 0 (counts disk))
          (why : differs i ≡ false → value_at nat_eq (sizes_of now) o.0 ≢ Some (length o.1)) where
        rising : IsRising 0 (keys_of (sizes_of now)) (2 ^ 64)
        rising = subst (λ (ks : List ℕ). IsRising 0 ks (2 ^ 64)) (sym (keys-seen (λ p. p.len) now.placed)) so_far.placed.numbers

        pub put-more : PutSoFar size medium counts os differs begin old (i + 1) new next
        put-more = record {
          stays = stays-then so_far.stays stays;
          placed = placed;
          bytes = bytes;
          no_others = λ n some. ⊎_elim
              (λ (here : n ≡ o.0). ap (λ (k : ℕ). is_some (value_at nat_eq os k)) here ∙ ap (λ (r : Option (List ℕ)). is_some r) (own-value os are i o at))
              (λ (other : n ≡ o.0 → ⊥). so_far.no_others n
              (ap (λ (r : Option ℕ). is_some r) (sym (with-other (sizes_of now) o.0 n (length o.1) other))
              ∙ ap (λ (t : List (ℕ × ℕ)). is_some (value_at nat_eq t n)) (sym sizes) ∙ some)) (cases_eq n o.0);
          there = λ k p lt there.
              ap (λ (t : List (ℕ × ℕ)). value_at nat_eq t p.0) sizes
              ∙ ⊎_elim
              (λ (here : p.0 ≡ o.0).
              ap (value_at nat_eq (with_object (sizes_of now) o.0 (length o.1))) here
              ∙ with-at 0 (sizes_of now) (2 ^ 64) o.0 (length o.1) rising
              ∙ ap (λ (b : List ℕ). Some (length b)) (sym (one-value os are i k o p at there here)))
              (λ (other : p.0 ≡ o.0 → ⊥). with-other (sizes_of now) o.0 p.0 (length o.1) other
              ∙ so_far.there k p (before k p lt there other) there) (cases_eq p.0 o.0);
          matches = λ saved begins. matches saved (so_far.matches saved begins);
          map = λ saved begins were k p there either.
              let here = so_far.matches saved begins in
              ap (λ (t : PlainObjects). value_at nat_eq t p.0) (maps saved here)
              ∙ ⊎_elim
              (λ (same : p.0 ≡ o.0).
              ap (value_at nat_eq (with_object (map_of now (medium disk)) o.0 o.1)) same
              ∙ with-at 0 (map_of now (medium disk)) (2 ^ 64) o.0 o.1 here.are.numbers
              ∙ ap (λ (b : List ℕ). Some b) (sym (one-value os are i k o p at there same)))
              (λ (other : p.0 ≡ o.0 → ⊥). with-other (map_of now (medium disk)) o.0 p.0 o.1 other
              ∙ so_far.map saved begins were k p there (⊎_elim (λ lt. inl (before k p lt there other)) inr either)) (cases_eq p.0 o.0);
          moment = put-moment;
          meanwhile = put-meanwhile;
          others = put-others;
          same = IsSameDisk-then so_far.same same;
          spent = so_far.spent + sectors_for (length o.1);
          spent_most = omega (arith, so_far.spent_most, most);
          spent_free = omega (arith, so_far.spent_free, spends);
          spent_counts = calls-more so_far.spent (sectors_for (length o.1)) 0 (counts old) (counts disk) (counts next) range so_far.spent_counts calls;
          spent_changed = λ saved begins were. elim (test_cases (differs i)) [
            | inl on ↦ ap (λ (n : ℕ). n + sectors_for (length o.1)) (so_far.spent_changed saved begins were) ∙ sym (changed true on)
            | inr off ↦ absurd (why off (was-there saved begins were off))
          ];
        }
          where
            before : (k : ℕ) (p : ℕ × List ℕ) → k < i + 1 → slice_get os k ≡ Some p → (p.0 ≡ o.0 → ⊥) → k < i
            before k p lt there other = ⊎_elim
                (λ (here : k ≡ i).
                let both : Some p ≡ Some o = sym there ∙ ap (slice_get os) here ∙ at in
                let one : p ≡ o = cc in
                absurd (other (ap (λ (q : ℕ × List ℕ). q.0) one)))
                (λ (apart : k ≡ i → ⊥). omega (arith, lt, apart)) (cases_eq k i)

  -- all of them were looked at
  module _ (are : AreObjects os) {i : ℕ} {now : HeapView} {disk : D} (so_far : PutSoFar size medium counts os differs begin old i now disk)
      (all : length os ≤ i) where
    lengths-at : (k n : ℕ) → value_at nat_eq (seen_as (λ (b : List ℕ). length b) os) k ≡ Some n → value_at nat_eq (sizes_of now) k ≡ Some n
    lengths-at k n is =
        let place = value-place (seen_as (λ (b : List ℕ). length b) os) k n is in
        let f : ℕ × List ℕ → ℕ × ℕ = λ o. (o.0, length o.1) in
        let less : place.0 < length os = omega (arith, place.1, length-map os f) in
        let o : ℕ × List ℕ = get_or os place.0 (0, []) in
        let at = slice_get-get_or os place.0 (0, []) less in
        let seen : f o ≡ (k, n) =
        sym (get_or_from_slice_get (seen_as (λ (b : List ℕ). length b) os) place.0 (f o) (0, 0)
        (slice_get-map f os place.0 ∙ ap (option_map f) at)) ∙ place.2 (0, 0) in
        subst (λ (e : ℕ × ℕ). value_at nat_eq (sizes_of now) e.0 ≡ Some e.1) seen (so_far.there place.0 o (omega (arith, less, all)) at)

    pub put-sizes : sizes_of now ≡ seen_as (λ b. length b) os
    put-sizes =
        let keys = keys-map (λ (b : List ℕ). length b) os in
        rising-same 0 (sizes_of now) (seen_as (λ (b : List ℕ). length b) os) (2 ^ 64)
        (subst (λ (ks : List ℕ). IsRising 0 ks (2 ^ 64)) (sym (keys-seen (λ p. p.len) now.placed)) so_far.placed.numbers)
        (subst (λ (ks : List ℕ). IsRising 0 ks (2 ^ 64)) (sym keys) are.numbers) lengths-at
        (λ n some. same_keys (seen_as (λ (b : List ℕ). length b) os) os n keys ∙ so_far.no_others n some)

    pub put-map : (saved : PlainObjects) → HeapMatches begin saved (medium old) → AreThere differs os (map_of begin (medium old))
        → map_of now (medium disk) ≡ os
    put-map saved begins were =
        let here = so_far.matches saved begins in
        rising-same 0 (map_of now (medium disk)) os (2 ^ 64) here.are.numbers are.numbers
        (λ k x is.
        let place = value-place os k x is in
        let at : slice_get os place.0 ≡ Some (k, x) = slice_get-get_or os place.0 (0, []) place.1 ∙ ap (λ (e : ℕ × List ℕ). Some e) (place.2 (0, [])) in
        so_far.map saved begins were place.0 (k, x) at (inl (omega (arith, place.1, all))))
        (λ n some. so_far.no_others n
        (seen-known (λ p. p.len) (λ p. (object_on (medium disk).contents p).1) now.placed n ∙ some))
