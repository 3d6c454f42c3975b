-- What the crates above cite of runs of calls: how what holds of each image since goes on over the next call, and from
-- one run of calls to the next; and of bytes that stand on a disk.
use Rattle.std.specs.Prelude.{◌≡◌, ◌≢◌, ◌⊎◌, ◌↔◌, ℕ, zero, suc, ◌+◌, ◌-◌, ◌*◌, ◌<◌, ◌≤◌, List, [], ◌∷◌, ◌++◌, length, take, drop, replicate}
use Rattle.std.specs.Prelude.{slice_get, slice_set, slice_index_or, map, All, refl, Result}
use Rattle.std.specs.Option.{unwrap_or}
use Rattle.std.proofs.Common.{inl, inr, ⊎_elim, sym, ◌∙◌, ap, subst, arith, take-append-drop}
use Rattle.std.proofs.lemmas.List.{get_or-set_same, get_or-set_other, get_or_append_left, length-set, take_at, take_all, take-take, drop-take}
use Rattle.std.proofs.lemmas.List.{length-take, length-drop}
use Rattle.std.proofs.lemmas.List.Elements.{All-map}
use Rattle.std.proofs.lemmas.Option.{unwrap_or-slice_get}
use Rattle.ipc_disk.specs.declared.memory.Slot.{Slot}
use Rattle.ipc_disk.specs.declared.range.Range.{Range}
use Rattle.ipc_disk.specs.Calls.{IsSameDisk, IsOneCall, OnlyReads}
use Rattle.ipc_disk.specs.Counts.{Counts, counted, with_calls, with_failure}
use Rattle.ipc_disk.specs.Growth.{with_zeros}
use Rattle.ipc_disk.specs.Medium.{Image, Medium, IsHonest, IsDurable, Elapses, SetOrNot, Stays, Writes}
use Rattle.ipc_disk.specs.Range.{IsOutside}
use Rattle.ipc_disk.specs.Since.{EachImageSince, SameAt, LeavesAlone}
use Rattle.ipc_disk.specs.Slots.{MayLeave, last_values}
use Rattle.ipc_disk.specs.Relations.Slots.{IsWhole, flushed}
use Rattle.ipc_disk.specs.Standing.{sectors_for, sector_at, piece, StandsAt, IsWrittenAt}

-- no call yet
pub Stays-start : (old : Medium) → Stays old old
Stays-start old = record {
  contents = λ honest. refl;
  images = λ image now. now;
  time = record { later = omega arith; nothing_else = λ t image le left. inl left; honest = (λ h. h, λ h. h) };
}

-- a read or a sync more of an honest disk
pub Stays-join : (old mid new : Medium) → IsHonest old → Stays old mid → Stays mid new → Stays old new
Stays-join old mid new honest first next = record {
  contents = λ h. next.contents (first.time.honest.0 h) ∙ first.contents h;
  images = λ image now. first.images image (next.images image now);
  time = record {
    later = omega (arith, first.time.later, next.time.later);
    nothing_else = λ t image le left. ⊎_elim
        (λ since. ⊎_elim inl (λ here. inl (honest.since t image le (first.images image here)))
        (first.time.nothing_else t image le since))
        inr
        (next.time.nothing_else t image (omega (arith, le, first.time.later)) left);
    honest = (λ h. next.time.honest.0 (first.time.honest.0 h), λ h. first.time.honest.1 (next.time.honest.1 h));
  };
}

-- honesty is kept both ways over a run of calls, and then another
pub honest-join : (old mid new : Medium) → IsHonest old ↔ IsHonest mid → IsHonest mid ↔ IsHonest new → IsHonest old ↔ IsHonest new
honest-join old mid new first next = (λ h. next.0 (first.0 h), λ h. first.1 (next.1 h))

-- calls, and then more of them
pub IsSameDisk-then : {D : Type 0} {size : D → ℕ} {medium : D → Medium} {old mid new : D} → IsSameDisk size medium old mid
    → IsSameDisk size medium mid new → IsSameDisk size medium old new
IsSameDisk-then {D} {size} {medium} {old} {mid} {new} first next = record {
  sectors = next.sectors ∙ first.sectors;
  honest = honest-join (medium old) (medium mid) (medium new) first.honest next.honest;
}

pub IsSameDisk-call : {D T E : Type 0} {size : D → ℕ} {medium : D → Medium} {counts : D → Counts} {result : Result T E} {call : Counts → Counts}
    {old new : D} → IsOneCall size counts result call old new → Elapses (medium old) (medium new) → IsSameDisk size medium old new
IsSameDisk-call {D} {T} {E} {size} {medium} {counts} {result} {call} {old} {new} one time = record { sectors = one.sectors; honest = time.honest }

-- no read yet
pub OnlyReads-start : {D : Type 0} {size : D → ℕ} {medium : D → Medium} {counts : D → Counts} (disk : D) → OnlyReads size medium counts ⊥ disk disk
OnlyReads-start {D} {size} {medium} {counts} disk = record {
  same = record { sectors = refl; honest = (λ h. h, λ h. h) };
  stays = λ honest. Stays-start (medium disk);
  failure = λ never. absurd never;
  no_failure = inr refl;
}

-- reads none of which failed, and then more of them
pub OnlyReads-then : {D : Type 0} {size : D → ℕ} {medium : D → Medium} {counts : D → Counts} {failed : Type 0} {old mid new : D}
    → OnlyReads size medium counts ⊥ old mid → OnlyReads size medium counts failed mid new → OnlyReads size medium counts failed old new
OnlyReads-then {D} {size} {medium} {counts} {failed} {old} {mid} {new} first next =
    let same : counts mid ≡ counts old = ⊎_elim (λ never. absurd never) (λ kept. kept) first.no_failure in
    record {
      same = IsSameDisk-then first.same next.same;
      stays = λ honest. Stays-join (medium old) (medium mid) (medium new) honest (first.stays honest) (next.stays (first.same.honest.0 honest));
      failure = λ bad. next.failure bad ∙ ap with_failure same;
      no_failure = ⊎_elim inl (λ kept. inr (kept ∙ same)) next.no_failure;
    }

-- the same reads, where failed means the same
pub OnlyReads-as : {D : Type 0} {size : D → ℕ} {medium : D → Medium} {counts : D → Counts} {failed other : Type 0} {old new : D} → (failed → other)
    → (other → failed) → OnlyReads size medium counts failed old new → OnlyReads size medium counts other old new
OnlyReads-as {D} {size} {medium} {counts} {failed} {other} {old} {new} to from reads = record {
  same = reads.same;
  stays = reads.stays;
  failure = λ bad. reads.failure (from bad);
  no_failure = ⊎_elim (λ bad. inl (to bad)) inr reads.no_failure;
}

-- reads that went well
pub OnlyReads-ok : {D : Type 0} {size : D → ℕ} {medium : D → Medium} {counts : D → Counts} {failed : Type 0} {old new : D} → (failed → ⊥)
    → OnlyReads size medium counts failed old new → OnlyReads size medium counts ⊥ old new
OnlyReads-ok ok reads = OnlyReads-as ok (λ never. absurd never) reads

-- before the first call; the law is the trait's `only_now`
pub EachImageSince-start : (old : Medium) (P : Image → Type 0)
    → ((image : Image) → old.images_since old.moment image → old.images_now image)
    → ((image : Image) → old.images_now image → P image) → EachImageSince old old P
EachImageSince-start old P law here = record {
  later = omega arith;
  each = λ image left. here image (law image left);
  earlier = λ t image le left. inl left;
}

-- one call more, after which each image now has P
pub EachImageSince-step : (old mid new : Medium) (P : Image → Type 0) → EachImageSince old mid P → Elapses mid new
    → ((image : Image) → new.images_now image → P image) → EachImageSince old new P
EachImageSince-step old mid new P so_far time here = record {
  later = omega (arith, so_far.later, time.later);
  each = λ image left. ⊎_elim (so_far.each image) (here image) (time.nothing_else old.moment image so_far.later left);
  earlier = λ t image le left. ⊎_elim (so_far.earlier t image le) (λ now. inr (here image now))
      (time.nothing_else t image (omega (arith, le, so_far.later)) left);
}

-- a run of calls, and then another
pub EachImageSince-join : (old mid new : Medium) (P : Image → Type 0) → EachImageSince old mid P
    → EachImageSince mid new P
    → EachImageSince old new P
EachImageSince-join old mid new P first next = record {
  later = omega (arith, first.later, next.later);
  each = λ image left. ⊎_elim (first.each image) (λ here. here) (next.earlier old.moment image first.later left);
  earlier = λ t image le left. ⊎_elim (first.earlier t image le) inr
      (next.earlier t image (omega (arith, le, first.later)) left);
}

-- what follows from P holds too
pub EachImageSince-weaken : (old new : Medium) (P Q : Image → Type 0) → EachImageSince old new P
    → ((image : Image) → P image → Q image) → EachImageSince old new Q
EachImageSince-weaken old new P Q run weaker = record {
  later = run.later;
  each = λ image left. weaker image (run.each image left);
  earlier = λ t image le left. ⊎_elim inl (λ p. inr (weaker image p)) (run.earlier t image le left);
}

-- what holds of each image, and what holds of each too
pub EachImageSince-both : (old new : Medium) (P Q : Image → Type 0) → EachImageSince old new P → EachImageSince old new Q
    → EachImageSince old new (λ image. P image × Q image)
EachImageSince-both old new P Q one other = record {
  later = one.later;
  each = λ image left. (one.each image left, other.each image left);
  earlier = λ t image le left. ⊎_elim inl (λ p. ⊎_elim inl (λ q. inr (p, q)) (other.earlier t image le left))
      (one.earlier t image le left);
}

-- a first call, a write
pub EachImageSince-writes : (old new : Medium) (at : ℕ) (bytes : List ℕ)
    → ((image : Image) → old.images_since old.moment image → old.images_now image)
    → Writes at bytes old new → EachImageSince old new (SetOrNot at bytes old)
EachImageSince-writes old new at bytes law call =
    EachImageSince-step old old new (SetOrNot at bytes old)
    (EachImageSince-start old (SetOrNot at bytes old) law (λ image now. (image, now, inl refl))) call.time call.images

-- a run that writes one sector or not: what each image of then has, and has with that sector
pub EachImageSince-set : (old new : Medium) (at : ℕ) (bytes : List ℕ) (P : Image → Type 0)
    → EachImageSince old new (SetOrNot at bytes old)
    → ((image : Image) → old.images_now image → P image)
    → ((image : Image) → old.images_now image → P (slice_set image at bytes)) → EachImageSince old new P
EachImageSince-set old new at bytes P run same set =
    EachImageSince-weaken old new (SetOrNot at bytes old) P run
    (λ image from. ⊎_elim (λ is. subst P (sym is) (same from.0 from.1)) (λ is. subst P (sym is) (set from.0 from.1))
    from.2)

-- and of a disk that is durable then
pub EachImageSince-durable : (old new : Medium) (at : ℕ) (bytes : List ℕ) (P : Image → Type 0) → IsDurable old → P old.contents
    → P (slice_set old.contents at bytes) → EachImageSince old new (SetOrNot at bytes old) → EachImageSince old new P
EachImageSince-durable old new at bytes P durable same set run =
    EachImageSince-set old new at bytes P run (λ image now. subst P (sym (durable image now)) same)
    (λ image now. subst (λ (c : Image). P (slice_set c at bytes)) (sym (durable image now)) set)

-- on an honest disk it holds of each image now
pub EachImageSince-now : (old new : Medium) (P : Image → Type 0) → EachImageSince old new P → IsHonest new
    → (image : Image) → new.images_now image → P image
EachImageSince-now old new P run honest image now = run.each image (honest.since old.moment image run.later now)

-- the other sectors stay
pub slice_get-set_other : (image : Image) (at i : ℕ) (bytes : List ℕ) → i ≢ at
    → slice_get (slice_set image at bytes) i ≡ slice_get image i
slice_get-set_other [] at i bytes other = refl
slice_get-set_other (x ∷ xs) zero zero bytes other = absurd (other refl)
slice_get-set_other (x ∷ xs) zero (suc i) bytes other = refl
slice_get-set_other (x ∷ xs) (suc at) zero bytes other = refl
slice_get-set_other (x ∷ xs) (suc at) (suc i) bytes other =
    slice_get-set_other xs at i bytes (λ same. other (ap (λ (n : ℕ). suc n) same))

-- a write elsewhere leaves these places
pub SameAt-set : (places : ℕ → Type 0) (image : Image) (at : ℕ) (bytes : List ℕ) → (places at → ⊥)
    → SameAt places image (slice_set image at bytes)
SameAt-set places image at bytes elsewhere = record {
  count = sym (length-set image at bytes);
  sectors = λ i here. sym (slice_get-set_other image at i bytes (λ same. elsewhere (subst places same here)));
}

-- the same image, and one that is the same as one that is the same
SameAt-refl : (places : ℕ → Type 0) (image : Image) → SameAt places image image
SameAt-refl places image = record { count = refl; sectors = λ i here. refl }

SameAt-trans : (places : ℕ → Type 0) (a b c : Image) → SameAt places a b → SameAt places b c → SameAt places a c
SameAt-trans places a b c first next =
    record { count = first.count ∙ next.count; sectors = λ i here. first.sectors i here ∙ next.sectors i here }

-- a write elsewhere, or none
SameAt-change : (places : ℕ → Type 0) (a b c : Image) (at : ℕ) (bytes : List ℕ) → (places at → ⊥) → SameAt places a b
    → (c ≡ b) ⊎ (c ≡ slice_set b at bytes) → SameAt places a c
SameAt-change places a b c at bytes elsewhere so_far (inl same) = subst (SameAt places a) (sym same) so_far
SameAt-change places a b c at bytes elsewhere so_far (inr set) =
    subst (SameAt places a) (sym set) (SameAt-trans places a b (slice_set b at bytes) so_far (SameAt-set places b at bytes elsewhere))

-- before the first call
pub LeavesAlone-start : (places : ℕ → Type 0) (old : Medium) → IsHonest old
    → ((image : Image) → old.images_since old.moment image → old.images_now image) → LeavesAlone places old old
LeavesAlone-start places old honest law = record {
  images = EachImageSince-start old (λ image. (before : Image) × old.images_now before × SameAt places before image) law
      (λ image now. (image, now, SameAt-refl places image));
  contents = SameAt-refl places old.contents;
  honest = honest;
}

-- a read or a sync more
pub LeavesAlone-stays : (places : ℕ → Type 0) (old mid new : Medium) → LeavesAlone places old mid → Stays mid new
    → LeavesAlone places old new
LeavesAlone-stays places old mid new so_far call =
    let P : Image → Type 0 = λ image. (before : Image) × old.images_now before × SameAt places before image in
    record {
      images = EachImageSince-step old mid new P so_far.images call.time
          (λ image now. EachImageSince-now old mid P so_far.images so_far.honest image (call.images image now));
      contents = subst (SameAt places old.contents) (sym (call.contents so_far.honest)) so_far.contents;
      honest = call.time.honest.0 so_far.honest;
    }

-- a write of another sector more
pub LeavesAlone-writes : (places : ℕ → Type 0) (old mid new : Medium) (at : ℕ) (bytes : List ℕ)
    → LeavesAlone places old mid → (places at → ⊥) → Writes at bytes mid new → LeavesAlone places old new
LeavesAlone-writes places old mid new at bytes so_far elsewhere call =
    record {
      images = EachImageSince-step old mid new P so_far.images call.time
          (λ image now. from_mid image (call.images image now));
      contents = SameAt-change places old.contents mid.contents new.contents at bytes elsewhere so_far.contents (call.contents so_far.honest);
      honest = call.time.honest.0 so_far.honest;
    }
  where
    P : Image → Type 0
    P image = (before : Image) × old.images_now before × SameAt places before image

    from_mid : (image : Image) → SetOrNot at bytes mid image → P image
    from_mid image (before, now, change) =
        let was = EachImageSince-now old mid P so_far.images so_far.honest before now in
        (was.0, was.1, SameAt-change places was.0 before image at bytes elsewhere was.2 change)

-- a run of calls, and then another
pub LeavesAlone-join : (places : ℕ → Type 0) (old mid new : Medium) → LeavesAlone places old mid
    → LeavesAlone places mid new → LeavesAlone places old new
LeavesAlone-join places old mid new first next =
    record {
      images = EachImageSince-join old mid new P first.images (EachImageSince-weaken mid new Q P next.images back);
      contents = SameAt-trans places old.contents mid.contents new.contents first.contents next.contents;
      honest = next.honest;
    }
  where
    P : Image → Type 0
    P image = (before : Image) × old.images_now before × SameAt places before image

    Q : Image → Type 0
    Q image = (before : Image) × mid.images_now before × SameAt places before image

    back : (image : Image) → Q image → P image
    back image (between, now, same) =
        let was = EachImageSince-now old mid P first.images first.honest between now in
        (was.0, was.1, SameAt-trans places was.0 between image was.2 same)

-- what these places alone decide, and each image of then had, each image since has
pub LeavesAlone-keeps : (places : ℕ → Type 0) (old new : Medium) (P : Image → Type 0) → LeavesAlone places old new
    → ((image : Image) → old.images_now image → P image)
    → ((a b : Image) → SameAt places a b → P a → P b) → EachImageSince old new P
LeavesAlone-keeps places old new P run here decides =
    EachImageSince-weaken old new (λ image. (before : Image) × old.images_now before × SameAt places before image) P
    run.images
    (λ image from. decides from.0 image from.2 (here from.0 from.1))

-- ---- bytes that stand from a sector on

-- a sector that two images share
pub sector_at-same : (places : ℕ → Type 0) (a b : Image) (i : ℕ) → SameAt places a b → places i
    → sector_at a i ≡ sector_at b i
sector_at-same places a b i same here =
    sym (unwrap_or-slice_get a i []) ∙ ap (λ o. unwrap_or o []) (same.sectors i here) ∙ unwrap_or-slice_get b i []

-- the sector that was written
pub sector_at-set_same : (image : Image) (at : ℕ) (bytes : List ℕ) → at < length image → sector_at (slice_set image at bytes) at ≡ bytes
sector_at-set_same image at bytes lt = get_or-set_same image at bytes [] lt

-- another one
pub sector_at-set_other : (image : Image) (at i : ℕ) (bytes : List ℕ) → i ≢ at → sector_at (slice_set image at bytes) i ≡ sector_at image i
sector_at-set_other image at i bytes other = get_or-set_other image at i bytes [] other

-- one that there was before the disk grew
pub sector_at-grown : (more : ℕ) (image : Image) (i : ℕ) → i < length image → sector_at (with_zeros more image) i ≡ sector_at image i
sector_at-grown more image i lt = get_or_append_left image (replicate more (replicate 512 0)) [] i lt

SameAt-fewer : (fewer places : ℕ → Type 0) (a b : Image) → ((i : ℕ) → fewer i → places i) → SameAt places a b → SameAt fewer a b
SameAt-fewer fewer places a b sub same = record { count = same.count; sectors = λ i here. same.sectors i (sub i here) }

-- fewer places are left alone too
pub LeavesAlone-fewer : (fewer places : ℕ → Type 0) (old new : Medium) → ((i : ℕ) → fewer i → places i) → LeavesAlone places old new → LeavesAlone fewer old new
LeavesAlone-fewer fewer places old new sub run = record {
  images = EachImageSince-weaken old new (λ image. (before : Image) × old.images_now before × SameAt places before image)
      (λ image. (before : Image) × old.images_now before × SameAt fewer before image) run.images
      (λ image from. (from.0, from.1, SameAt-fewer fewer places from.0 image sub from.2));
  contents = SameAt-fewer fewer places old.contents new.contents sub run.contents;
  honest = run.honest;
}

-- what is left alone outside a part of a range is left alone outside the range
pub LeavesAlone-part : (part range : Range) (old new : Medium) → range.first ≤ part.first
    → part.first + part.count ≤ range.first + range.count → LeavesAlone (IsOutside part) old new → LeavesAlone (IsOutside range) old new
LeavesAlone-part part range old new low high run =
    LeavesAlone-fewer (IsOutside range) (IsOutside part) old new
    (λ i out. ⊎_elim (λ before. inl (omega (arith, before))) (λ after. inr (omega (arith, after))) out) run

-- a sync goes on with what each image has
pub EachImageSince-sync : (old mid new : Medium) (P : Image → Type 0) → EachImageSince old mid P → IsHonest mid → Stays mid new → EachImageSince old new P
EachImageSince-sync old mid new P so_far honest call =
    EachImageSince-step old mid new P so_far call.time (λ image now. EachImageSince-now old mid P so_far honest image (call.images image now))

-- what is written there stands there
pub StandsAt-written : (at : ℕ) (bytes : List ℕ) (image : Image) → IsWrittenAt at bytes image → StandsAt at bytes image
StandsAt-written at bytes image written i lt =
    ap (λ (s : List ℕ). take (length (piece i bytes)) s) (written i lt)
    ∙ take_at (piece i bytes) (replicate (512 - length (piece i bytes)) 0) (length (piece i bytes)) refl

-- another sector is written, and they are as they were
pub IsWrittenAt-under : (first at : ℕ) (bytes sector : List ℕ) (old new : Image) → first < at → new ≡ slice_set old first sector
    → IsWrittenAt at bytes old → IsWrittenAt at bytes new
IsWrittenAt-under first at bytes sector old new lt set written i less =
    ap (λ (c : Image). sector_at c (at + i)) set ∙ sector_at-set_other old first (at + i) sector (λ same. absurd (omega (arith, same, lt))) ∙ written i less

take_pieces : (n : ℕ) (xs : List ℕ) → take (512 * n + 512) xs ≡ take (512 * n) xs ++ piece n xs
take_pieces n xs =
    sym (take-append-drop (512 * n) (take (512 * n + 512) xs))
    ∙ ap (λ (l : List ℕ). l ++ drop (512 * n) (take (512 * n + 512) xs)) (take-take (512 * n) (512 * n + 512) xs (omega arith))
    ∙ ap (λ (l : List ℕ). take (512 * n) xs ++ l) (drop-take (512 * n) 512 xs)

length-piece : (i : ℕ) (xs ys : List ℕ) → length xs ≡ length ys → length (piece i xs) ≡ length (piece i ys)
length-piece i xs ys same =
    omega (arith, length-take 512 (drop (512 * i) xs), length-take 512 (drop (512 * i) ys), length-drop (512 * i) xs, length-drop (512 * i) ys)

-- what stands in the same sectors, and is as long, is the same
module _ (at : ℕ) (xs ys : List ℕ) (image : Image) (same : length xs ≡ length ys) (first : StandsAt at xs image) (second : StandsAt at ys image) where
  fronts : (n : ℕ) → n ≤ sectors_for (length xs) → take (512 * n) xs ≡ take (512 * n) ys
  fronts zero le = refl
  fronts (suc n) le =
      let here : piece n xs ≡ piece n ys =
      sym (first n (omega arith)) ∙ ap (λ (k : ℕ). take k (sector_at image (at + n))) (length-piece n xs ys same) ∙ second n (omega arith) in
      let before = fronts n (omega arith) in
      let bound : 512 * suc n ≡ 512 * n + 512 = omega arith in
      ap (λ (k : ℕ). take k xs) bound ∙ take_pieces n xs
      ∙ ap (λ (l : List ℕ). l ++ piece n xs) before ∙ ap (λ (l : List ℕ). take (512 * n) ys ++ l) here
      ∙ sym (take_pieces n ys) ∙ ap (λ (k : ℕ). take k ys) (sym bound)

  pub stands-same : xs ≡ ys
  stands-same =
      sym (take_all (512 * sectors_for (length xs)) xs (omega arith)) ∙ fronts (sectors_for (length xs)) (omega arith)
      ∙ take_all (512 * sectors_for (length xs)) ys (omega arith)

-- the first sector begins with the first of the bytes
pub StandsAt-front : (at : ℕ) (bytes : List ℕ) (image : Image) → 4 ≤ length bytes → StandsAt at bytes image
    → take 4 (sector_at image at) ≡ take 4 bytes
StandsAt-front at bytes image long stands =
    let some : at + 0 ≡ at = omega arith in
    let front : ℕ = length (take 512 bytes) in
    let there : take front (sector_at image at) ≡ take 512 bytes =
    ap (λ (k : ℕ). take front (sector_at image k)) (sym some) ∙ stands 0 (omega (arith, long)) in
    sym (take-take 4 front (sector_at image at) (omega (arith, length-take 512 bytes, long)))
    ∙ ap (take 4) there ∙ take-take 4 512 bytes (omega arith)

-- the counts after some writes and syncs
pub counts-calls : (new old : Counts) (writes syncs : ℕ) → new.failures ≡ old.failures → new.writes ≡ counted old.writes writes
    → new.syncs ≡ counted old.syncs syncs → new ≡ with_calls writes syncs old
counts-calls new old writes syncs f w s =
    ap (λ (n : ℕ). record new { failures = n }) f ∙ ap (λ (n : ℕ). record new { failures = old.failures; writes = n }) w
    ∙ ap (λ (n : ℕ). record (with_calls writes 0 old) { syncs = n }) s

-- a slot after a write
abbrev pub written : Slot → List ℕ → Slot
written slot bytes = record { synced = slot.synced; last = bytes }

-- an image after a write is one from before it, or one in which the sector is written
pub MayLeave-written : (slots : List Slot) (at : ℕ) (slot : Slot) (bytes : List ℕ) (image : Image) → at < length slots → slot ≡ slice_index_or slots at slot
    → MayLeave (slice_set slots at (written slot bytes)) image
    → (before : Image) × MayLeave slots before × ((image ≡ before) ⊎ (image ≡ slice_set before at bytes))
MayLeave-written [] at slot bytes image lt is left = absurd (omega arith)
MayLeave-written (s ∷ ss) zero slot bytes [] lt is left = absurd left
MayLeave-written (s ∷ ss) zero slot bytes (x ∷ xs) lt is left = ⊎_elim
    (λ kept. (x ∷ xs, (inl (kept ∙ ap (λ (a : Slot). a.synced) is), left.1), inl refl))
    (λ new. (s.synced ∷ xs, (inl refl, left.1), inr (ap (λ (a : List ℕ). a ∷ xs) new)))
    left.0
MayLeave-written (s ∷ ss) (suc at) slot bytes [] lt is left = absurd left
MayLeave-written (s ∷ ss) (suc at) slot bytes (x ∷ xs) lt is left =
    let rest = MayLeave-written ss at slot bytes xs (omega arith) is left.1 in
    (x ∷ rest.0, (left.0, rest.1), ⊎_elim (λ same. inl (ap (λ (l : Image). x ∷ l) same)) (λ set. inr (ap (λ (l : Image). x ∷ l) set)) rest.2)

-- after a sync there is one image
pub MayLeave-flushed : (slots : List Slot) (image : Image) → MayLeave (map flushed slots) image → image ≡ last_values slots
MayLeave-flushed [] [] left = refl
MayLeave-flushed [] (x ∷ xs) left = absurd left
MayLeave-flushed (s ∷ ss) [] left = absurd left
MayLeave-flushed (s ∷ ss) (x ∷ xs) left =
    let first : x ≡ s.last = ⊎_elim (λ is. is) (λ is. is) left.0 in
    ap (λ (a : List ℕ). a ∷ xs) first ∙ ap (λ (l : Image). s.last ∷ l) (MayLeave-flushed ss xs left.1)

pub last_values-flushed : (slots : List Slot) → last_values (map flushed slots) ≡ last_values slots
last_values-flushed [] = refl
last_values-flushed (s ∷ ss) = ap (λ (l : Image). s.last ∷ l) (last_values-flushed ss)

-- A sync leaves these slots: each is whole, and a crash leaves what is read, which is as it was.
module _ (old new : List Slot) (is : new ≡ map flushed old) where
  pub whole-flushed : All IsWhole old → All IsWhole new
  whole-flushed whole = subst (All IsWhole) (sym is)
      (All-map IsWhole flushed old (λ k d lt. record { saved = (whole k d lt).newest; newest = (whole k d lt).newest }))

  pub contents-flushed : last_values new ≡ last_values old
  contents-flushed = ap last_values is ∙ last_values-flushed old

  pub only_contents : (image : Image) → MayLeave new image → image ≡ last_values old
  only_contents image left = MayLeave-flushed old image (subst (λ (l : List Slot). MayLeave l image) is left)

  pub durable-flushed : (image : Image) → MayLeave new image → image ≡ last_values new
  durable-flushed image left = only_contents image left ∙ sym contents-flushed
