-- Runs of sectors: what is read of an image in which one is written, and what a disk over which one waits does.
use Rattle.std.proofs.Common.{◌≡◌, ◌≢◌, ◌⊎◌, inl, inr, ⊎_elim, ℕ, zero, suc, ◌+◌, ◌-◌, ◌<◌}
use Rattle.std.proofs.Common.{◌≤◌, List, [], ◌∷◌, ◌++◌, length, refl, sym, ◌∙◌, ap, subst, arith}
use Rattle.std.specs.Prelude.{◌↔◌, Some, slice_get, slice_set, slice_index_or}
use Rattle.std.proofs.Math.ListN.{length-set}
use Rattle.std.proofs.lemmas.Bool.Decides.{eqb_tells}
use Rattle.std.proofs.lemmas.Option.{same_Some, none-some, slice_get-get_or, slice_get_within, slice_get_past}
use Rattle.std.proofs.lemmas.List.{length-take-le}
use Rattle.std.proofs.lemmas.Bool.{cases_lt}
use Rattle.ipc_disk.specs.declared.range.Range.{Range}
use Rattle.ipc_disk.specs.declared.run.Run.{Run}
use Rattle.ipc_disk.specs.Medium.{Image, Medium, IsHonest, IsShaped, Stays, Writes, IsDurable}
use Rattle.ipc_disk.specs.Range.{IsInside, IsWithin}
use Rattle.ipc_disk.specs.Run.{run_values, IsNext, Joins}
use Rattle.ipc_disk.specs.Runs.{Gives, set_run, SetsSome, SetSomeOf, WritesRun, with_waiting}
use Rattle.ipc_disk.specs.Relations.Runs.{SetsSome-none}
use Rattle.ipc_disk.proofs.CallerLemmas.{slice_get-set_other}

-- images with the same sectors
same_image : (a b : Image) → ((i : ℕ) → slice_get a i ≡ slice_get b i) → a ≡ b
same_image [] [] same = refl
same_image [] (y ∷ ys) same = absurd (none-some y (same 0))
same_image (x ∷ xs) [] same = absurd (none-some x (sym (same 0)))
same_image (x ∷ xs) (y ∷ ys) same =
    ap (λ (s : List ℕ). s ∷ xs) (same_Some x y (same 0)) ∙ ap (λ (l : Image). y ∷ l) (same_image xs ys (λ i. same (suc i)))

-- the sector that was written
slice_get-set_same : (image : Image) (at : ℕ) (bytes : List ℕ) → at < length image → slice_get (slice_set image at bytes) at ≡ Some bytes
slice_get-set_same [] at bytes lt = absurd (omega (arith, lt))
slice_get-set_same (x ∷ xs) zero bytes lt = refl
slice_get-set_same (x ∷ xs) (suc at) bytes lt = slice_get-set_same xs at bytes (omega (arith, lt))

pub length-set_run : (first : ℕ) (values image : Image) → length (set_run first values image) ≡ length image
length-set_run first [] image = refl
length-set_run first (v ∷ vs) image = length-set_run (first + 1) vs (slice_set image first v) ∙ length-set image first v

-- one value for a sector
Gives-one : (first : ℕ) (values : Image) (i : ℕ) (v w : List ℕ) → Gives first values i v → Gives first values i w → v ≡ w
Gives-one first values i v w (k, is, one) (j, at, other) =
    let same : k ≡ j = omega (arith, is, at) in
    same_Some v w (sym one ∙ ap (λ (n : ℕ). slice_get values n) same ∙ other)

-- one value more in front
Gives-later : (first : ℕ) (v : List ℕ) (vs : Image) (i : ℕ) (w : List ℕ) → Gives (first + 1) vs i w → Gives first (v ∷ vs) i w
Gives-later first v vs i w (k, is, at) = (suc k, omega (arith, is), at)

Gives-front : (first : ℕ) (v : List ℕ) (vs : Image) (i : ℕ) (w : List ℕ) → Gives first (v ∷ vs) i w
    → ((i ≡ first) × (v ≡ w)) ⊎ Gives (first + 1) vs i w
Gives-front first v vs i w (zero, is, at) = inl (omega (arith, is), same_Some v w at)
Gives-front first v vs i w (suc k, is, at) = inr (k, omega (arith, is), at)

-- a sector of an image in which a run is written: as before, or as the run has it
pub set_run-cases : (first : ℕ) (values image : Image) (i : ℕ) → first + length values ≤ length image
    → (((v : List ℕ) → Gives first values i v → ⊥) × (slice_get (set_run first values image) i ≡ slice_get image i))
    ⊎ ((v : List ℕ) × Gives first values i v × (slice_get (set_run first values image) i ≡ Some v))
set_run-cases first [] image i le = inl ((λ v (k, is, at). none-some v at), refl)
set_run-cases first (v ∷ vs) image i le =
    let rest = set_run-cases (first + 1) vs (slice_set image first v) i (omega (arith, le, length-set image first v)) in
    ⊎_elim
    (λ (none, same). ⊎_elim
    (λ here. inr (
      v,
      (0, omega (arith, here.1), refl),
      same ∙ ap (λ (n : ℕ). slice_get (slice_set image first v) n) here.1 ∙ slice_get-set_same image first v (omega (arith, le)),
    ))
    (λ other. inl (
      (λ w gives. ⊎_elim (λ front. other.1 front.0) (none w) (Gives-front first v vs i w gives)),
      same ∙ slice_get-set_other image first i v other.1,
    ))
    (eqb_tells i first))
    (λ (w, gives, is). inr (w, Gives-later first v vs i w gives, is))
    rest

-- all of a run is some of it
pub SetsSome-all : (first : ℕ) (values image : Image) → first + length values ≤ length image → SetsSome first values image (set_run first values image)
SetsSome-all first values image le = record {
  count = length-set_run first values image;
  sectors = λ i. ⊎_elim (λ same. inl same.1) (λ set. inr set) (set_run-cases first values image i le);
}

-- some of a run, and then some of a part of it
pub SetsSome-join : (first : ℕ) (values : Image) (first' : ℕ) (values' a b c : Image)
    → ((i : ℕ) (v : List ℕ) → Gives first' values' i v → Gives first values i v)
    → SetsSome first values a b → SetsSome first' values' b c → SetsSome first values a c
SetsSome-join first values first' values' a b c part one next = record {
  count = next.count ∙ one.count;
  sectors = λ i. ⊎_elim
      (λ same. ⊎_elim (λ kept. inl (same ∙ kept)) (λ (v, gives, is). inr (v, gives, same ∙ is)) (one.sectors i))
      (λ (v, gives, is). inr (v, part i v gives, is))
      (next.sectors i);
}

-- none of a run
SetsSome-empty : (first : ℕ) (before image : Image) → SetsSome first [] before image → image ≡ before
SetsSome-empty first before image some = same_image image before
    (λ i. ⊎_elim (λ same. same) (λ (v, (k, is, at), there). absurd (none-some v at)) (some.sectors i))

-- once it is written, all of it reads as it did
pub set_run-some : (first : ℕ) (values a b : Image) → first + length values ≤ length a → SetsSome first values a b
    → set_run first values b ≡ set_run first values a
set_run-some first values a b le some = same_image (set_run first values b) (set_run first values a)
    (λ i. ⊎_elim
    (λ (none, was). ⊎_elim
    (λ (_, now). now ∙ ⊎_elim (λ same. same) (λ (v, gives, is). absurd (none v gives)) (some.sectors i) ∙ sym was)
    (λ (v, gives, is). absurd (none v gives))
    (set_run-cases first values b i (omega (arith, le, some.count))))
    (λ (v, gives, was). ⊎_elim
    (λ (none, _). absurd (none v gives))
    (λ (w, gives', now). now ∙ ap (λ (s : List ℕ). Some s) (Gives-one first values i w v gives' gives) ∙ sym was)
    (set_run-cases first values b i (omega (arith, le, some.count))))
    (set_run-cases first values a i le))

-- A run into which one sector is written: it has that sector, and the others as before.
pub record IsSetIn (at : ℕ) (bytes : List ℕ) (first : ℕ) (values : Image) (first' : ℕ) (values' : Image) : Type 0 where
  pub here : Gives first' values' at bytes
  pub others : (i : ℕ) (v : List ℕ) → i ≢ at → Gives first' values' i v → Gives first values i v
  pub kept : (i : ℕ) (v : List ℕ) → i ≢ at → Gives first values i v → Gives first' values' i v

-- what is read then
pub set_run-set : (at : ℕ) (bytes : List ℕ) (first : ℕ) (values : Image) (first' : ℕ) (values' image : Image)
    → IsSetIn at bytes first values first' values' → first + length values ≤ length image → first' + length values' ≤ length image
    → at < length image
    → set_run first' values' image ≡ slice_set (set_run first values image) at bytes
set_run-set at bytes first values first' values' image set le le' lt =
    let old = set_run first values image in
    same_image (set_run first' values' image) (slice_set old at bytes)
    (λ i. ⊎_elim
    (λ here. let P : ℕ → Type 0 = λ n. slice_get (set_run first' values' image) n ≡ slice_get (slice_set old at bytes) n in
    subst P (sym here.1) (⊎_elim
    (λ (none, _). absurd (none bytes set.here))
    (λ (v, gives, is). is ∙ ap (λ (s : List ℕ). Some s) (Gives-one first' values' at v bytes gives set.here)
    ∙ sym (slice_get-set_same old at bytes (omega (arith, lt, length-set_run first values image))))
    (set_run-cases first' values' image at le')))
    (λ other. ⊎_elim
    (λ (none', now). ⊎_elim
    (λ (none, was). now ∙ sym was)
    (λ (v, gives, was). absurd (none' v (set.kept i v other.1 gives)))
    (set_run-cases first values image i le))
    (λ (w, gives', now). ⊎_elim
    (λ (none, was). absurd (none w (set.others i w other.1 gives')))
    (λ (v, gives, was). now ∙ ap (λ (s : List ℕ). Some s) (Gives-one first values i w v (set.others i w other.1 gives') gives) ∙ sym was)
    (set_run-cases first values image i le))
    (set_run-cases first' values' image i le')
    ∙ sym (slice_get-set_other old at i bytes other.1))
    (eqb_tells i at))

-- an image with some of it is one with some of the run of before, with that sector or without
pub SetsSome-set : (at : ℕ) (bytes : List ℕ) (first : ℕ) (values : Image) (first' : ℕ) (values' under image : Image)
    → IsSetIn at bytes first values first' values' → SetsSome first' values' under image
    → (before : Image) × SetsSome first values under before × ((image ≡ before) ⊎ (image ≡ slice_set before at bytes))
SetsSome-set at bytes first values first' values' under image set some = ⊎_elim
    (λ same. (
      image,
      record {
        count = some.count;
        sectors = λ i. ⊎_elim
            (λ here. inl (subst (λ (n : ℕ). slice_get image n ≡ slice_get under n) (sym here.1) same))
            (λ other. ⊎_elim inl (λ (v, gives, is). inr (v, set.others i v other.1 gives, is)) (some.sectors i))
            (eqb_tells i at);
      },
      inl refl,
    ))
    (λ (v, gives, is).
    let lt : at < length image = slice_get_within image at v is in
    let old : List ℕ = slice_index_or under at [] in
    let before : Image = slice_set image at old in (
      before,
      record {
        count = length-set image at old ∙ some.count;
        sectors = λ i. ⊎_elim
            (λ here. inl (subst (λ (n : ℕ). slice_get before n ≡ slice_get under n) (sym here.1)
            (slice_get-set_same image at old lt ∙ sym (slice_get-get_or under at [] (omega (arith, lt, some.count))))))
            (λ other. let kept : slice_get before i ≡ slice_get image i = slice_get-set_other image at i old other.1 in
            ⊎_elim (λ same. inl (kept ∙ same)) (λ (w, gives', there). inr (w, set.others i w other.1 gives', kept ∙ there)) (some.sectors i))
            (eqb_tells i at);
      },
      inr (same_image image (slice_set before at bytes) (λ i. ⊎_elim
          (λ here. subst (λ (n : ℕ). slice_get image n ≡ slice_get (slice_set before at bytes) n) (sym here.1)
          (is ∙ ap (λ (s : List ℕ). Some s) (Gives-one first' values' at v bytes gives set.here)
          ∙ sym (slice_get-set_same before at bytes (omega (arith, lt, length-set image at old)))))
          (λ other. sym (slice_get-set_other before at i bytes other.1 ∙ slice_get-set_other image at i old other.1))
          (eqb_tells i at))),
    ))
    (some.sectors at)

-- a run with one of its sectors written anew, and one with a sector more
pub IsSetIn-replaced : (at : ℕ) (bytes : List ℕ) (first : ℕ) (values : Image) → first ≤ at → at < first + length values
    → IsSetIn at bytes first values first (slice_set values (at - first) bytes)
IsSetIn-replaced at bytes first values le lt =
    let place : ℕ = at - first in
    let is : at ≡ first + place = omega (arith, le) in
    record {
      here = (place, is, slice_get-set_same values place bytes (omega (arith, lt, le)));
      others = λ i v other (k, there, at'). (
        k,
        there,
        sym (slice_get-set_other values place k bytes (λ same. other (there ∙ ap (λ (n : ℕ). first + n) same ∙ sym is))) ∙ at',
      );
      kept = λ i v other (k, there, at'). (
        k,
        there,
        slice_get-set_other values place k bytes (λ same. other (there ∙ ap (λ (n : ℕ). first + n) same ∙ sym is)) ∙ at',
      );
    }

slice_get-last : (values : Image) (bytes : List ℕ) → slice_get (values ++ bytes ∷ []) (length values) ≡ Some bytes
slice_get-last [] bytes = refl
slice_get-last (v ∷ vs) bytes = slice_get-last vs bytes

slice_get-before : (values : Image) (bytes : List ℕ) (k : ℕ) → k ≢ length values → slice_get (values ++ bytes ∷ []) k ≡ slice_get values k
slice_get-before [] bytes zero other = absurd (other refl)
slice_get-before [] bytes (suc k) other = refl
slice_get-before (v ∷ vs) bytes zero other = refl
slice_get-before (v ∷ vs) bytes (suc k) other = slice_get-before vs bytes k (λ same. other (ap (λ (n : ℕ). suc n) same))

pub IsSetIn-appended : (at : ℕ) (bytes : List ℕ) (first : ℕ) (values : Image) → at ≡ first + length values
    → IsSetIn at bytes first values first (values ++ bytes ∷ [])
IsSetIn-appended at bytes first values is = record {
  here = (length values, is, slice_get-last values bytes);
  others = λ i v other (k, there, at'). (
    k,
    there,
    sym (slice_get-before values bytes k (λ same. other (there ∙ ap (λ (n : ℕ). first + n) same ∙ sym is))) ∙ at',
  );
  kept = λ i v other (k, there, at'). (
    k,
    there,
    slice_get-before values bytes k (λ same. other (there ∙ ap (λ (n : ℕ). first + n) same ∙ sym is)) ∙ at',
  );
}

-- ---- a disk over which a run waits

-- a read or a sync writes none of any run
pub WritesRun-stays : (first : ℕ) (values : Image) (old new : Medium) → Stays old new → WritesRun first values old new
WritesRun-stays first values old new call = record {
  contents = λ honest. subst (SetsSome first values old.contents) (sym (call.contents honest)) (SetsSome-none first values old.contents);
  images = λ image now. (image, call.images image now, SetsSome-none first values image);
  later = call.time.later;
  nothing_else = λ t image le left. ⊎_elim inl (λ now. inr (image, call.images image now, SetsSome-none first values image))
      (call.time.nothing_else t image le left);
  honest = call.time.honest;
}

-- it is honest just if the disk under it is
pub IsHonest-joined : (first : ℕ) (values : Image) (under : Medium)
    → (IsHonest under → first + length values ≤ length under.contents) → IsHonest (with_waiting first values under) ↔ IsHonest under
IsHonest-joined first values under within = (
  (λ honest. honest.reads.0),
  (λ honest. record {
    reads = (honest, (under.contents, honest.reads, SetsSome-all first values under.contents (within honest)));
    since = λ t image le now. (honest, inr now.1);
  }),
)

-- The disk under it takes some of the run that waits, and then all of it waits on, or another part: the joined disk
-- reads as it did, and has no new image.
pub Stays-joined : (first : ℕ) (values : Image) (first' : ℕ) (values' : Image) (old new : Medium)
    → (IsHonest old → first + length values ≤ length old.contents)
    → (IsHonest new → first' + length values' ≤ length new.contents)
    → ((i : ℕ) (v : List ℕ) → Gives first' values' i v → Gives first values i v)
    → WritesRun first values old new
    → (IsHonest old → set_run first' values' new.contents ≡ set_run first values old.contents)
    → Stays (with_waiting first values old) (with_waiting first' values' new)
Stays-joined first values first' values' old new within within' part call reads = record {
  contents = λ honest. reads honest.reads.0;
  images = λ image (honest, left). (call.honest.1 honest, from_new image left);
  time = record {
    later = call.later;
    nothing_else = λ t image le (honest, left). let was = call.honest.1 honest in ⊎_elim
        (λ since. ⊎_elim (λ before. inl (was, inl before)) (λ some. inl (was, inr some)) (call.nothing_else t image le since))
        (λ now. inr (honest, now))
        left;
    honest = (
      (λ h. (IsHonest-joined first' values' new within').1 (call.honest.0 ((IsHonest-joined first values old within).0 h))),
      (λ h. (IsHonest-joined first values old within).1 (call.honest.1 ((IsHonest-joined first' values' new within').0 h))),
    );
  };
}
  where
    from_new : (image : Image) → SetSomeOf first' values' new image → SetSomeOf first values old image
    from_new image (between, now, some) =
        let (before, then, first_some) = call.images between now in
        (before, then, SetsSome-join first values first' values' before between image part first_some some)

-- A sector is written into the run that waits.
pub Writes-joined : (at : ℕ) (bytes : List ℕ) (first : ℕ) (values : Image) (first' : ℕ) (values' : Image) (under : Medium)
    → (IsHonest under → first + length values ≤ length under.contents)
    → (IsHonest under → first' + length values' ≤ length under.contents)
    → (IsHonest under → at < length under.contents)
    → IsSetIn at bytes first values first' values'
    → Writes at bytes (with_waiting first values under) (with_waiting first' values' under)
Writes-joined at bytes first values first' values' under within within' lt set = record {
  contents = λ honest. let h = honest.reads.0 in
      inr (set_run-set at bytes first values first' values' under.contents set (within h) (within' h) (lt h));
  images = λ image (honest, (before, now, some)).
      let from = SetsSome-set at bytes first values first' values' before image set some in
      (from.0, (honest, (before, now, from.1)), from.2);
  time = record {
    later = omega arith;
    nothing_else = λ t image le (honest, left). ⊎_elim (λ since. inl (honest, inl since)) (λ now. inr (honest, now)) left;
    honest = (
      (λ h. (IsHonest-joined first' values' under within').1 ((IsHonest-joined first values under within).0 h)),
      (λ h. (IsHonest-joined first values under within).1 ((IsHonest-joined first' values' under within').0 h)),
    );
  };
}

-- nothing waits, and a crash of the disk under it leaves what is read
pub IsDurable-joined : (first : ℕ) (under : Medium) → IsDurable under → IsDurable (with_waiting first [] under)
IsDurable-joined first under durable image (honest, (before, now, some)) =
    SetsSome-empty first before image some ∙ durable before now

-- the calls of a write that first puts out what waits: it stays, and then a sector is written
pub Writes-after : (at : ℕ) (bytes : List ℕ) (old mid new : Medium) → ((image : Image) → mid.images_now image → IsHonest old)
    → Stays old mid → Writes at bytes mid new → Writes at bytes old new
Writes-after at bytes old mid new honest first next = record {
  contents = λ h. ⊎_elim (λ same. inl (same ∙ first.contents h))
      (λ set. inr (set ∙ ap (λ (c : Image). slice_set c at bytes) (first.contents h)))
      (next.contents (first.time.honest.0 h));
  images = λ image now. let from = next.images image now in (from.0, first.images from.0 from.1, from.2);
  time = record {
    later = omega (arith, first.time.later, next.time.later);
    nothing_else = λ t image le left. ⊎_elim
        (λ since. ⊎_elim inl (λ here. inl ((honest image here).since t image le (first.images image here)))
        (first.time.nothing_else t image le since))
        inr
        (next.time.nothing_else t image (omega (arith, le, first.time.later)) left);
    honest = (λ h. next.time.honest.0 (first.time.honest.0 h), λ h. first.time.honest.1 (next.time.honest.1 h));
  };
}

-- two calls that write no sector
pub Stays-after : (old mid new : Medium) → ((image : Image) → mid.images_now image → IsHonest old)
    → Stays old mid → Stays mid new → Stays old new
Stays-after old mid new honest first next = record {
  contents = λ h. next.contents (first.time.honest.0 h) ∙ first.contents h;
  images = λ image now. first.images image (next.images image now);
  time = record {
    later = omega (arith, first.time.later, next.time.later);
    nothing_else = λ t image le left. ⊎_elim
        (λ since. ⊎_elim inl (λ here. inl ((honest image here).since t image le (first.images image here)))
        (first.time.nothing_else t image le since))
        inr
        (next.time.nothing_else t image (omega (arith, le, first.time.later)) left);
    honest = (λ h. next.time.honest.0 (first.time.honest.0 h), λ h. first.time.honest.1 (next.time.honest.1 h));
  };
}

-- ---- the run of a disk that joins writes

pub length-values : (run : Run) → length (run_values run) ≡ run.range.count
length-values run = length-take-le run.range.count run.sectors (omega (arith, run.short, run.all))

-- what waits lies within the disk under it
pub within-disk : (run : Run) (size : ℕ) (under : Medium) → IsWithin run.range size → ((image : Image) → under.images_now image → IsShaped size image)
    → IsHonest under → run.range.first + length (run_values run) ≤ length under.contents
within-disk run size under within shaped honest =
    omega (arith, length-values run, within, (shaped under.contents honest.reads).count)

-- one more sector is in it, or one of its sectors is written anew
pub record IsWritten (at : ℕ) (bytes : List ℕ) (old new : Run) : Type 0 where
  pub first : new.range.first ≡ old.range.first
  pub inside : IsInside old.range at → new.range ≡ old.range
  pub replaces : IsInside old.range at → run_values new ≡ slice_set (run_values old) (at - old.range.first) bytes
  pub next : IsNext old.range at → new.range.count ≡ old.range.count + 1
  pub appends : IsNext old.range at → run_values new ≡ run_values old ++ bytes ∷ []

module _ (at size : ℕ) (bytes : List ℕ) (old new : Run) (under : Medium) (joins : Joins old.range at) (lt : at < size) (within : IsWithin old.range size)
    (shaped : (image : Image) → under.images_now image → IsShaped size image) (call : IsWritten at bytes old new) where
  place : IsInside old.range at ⊎ IsNext old.range at
  place = ⊎_elim (λ here. inl (joins.0, here)) (λ le. inr (omega (arith, le, joins.1), omega (arith, le, joins.1, joins.2)))
      (cases_lt at (old.range.first + old.range.count))

  set_in : IsSetIn at bytes old.range.first (run_values old) new.range.first (run_values new)
  set_in = subst (λ (f : ℕ). IsSetIn at bytes old.range.first (run_values old) f (run_values new)) (sym call.first) (⊎_elim
      (λ is. subst (λ (l : Image). IsSetIn at bytes old.range.first (run_values old) old.range.first l) (sym (call.replaces is))
      (IsSetIn-replaced at bytes old.range.first (run_values old) is.0 (omega (arith, is.1, length-values old))))
      (λ is. subst (λ (l : Image). IsSetIn at bytes old.range.first (run_values old) old.range.first l) (sym (call.appends is))
      (IsSetIn-appended at bytes old.range.first (run_values old) (omega (arith, is.0, length-values old))))
      place)

  within_new : IsWithin new.range size
  within_new = ⊎_elim
      (λ is. subst (λ (r : Range). IsWithin r size) (sym (call.inside is)) within)
      (λ is. omega (arith, call.first, call.next is, is.0, lt))
      place

  lt_contents : IsHonest under → at < length under.contents
  lt_contents honest = omega (arith, lt, (shaped under.contents honest.reads).count)

  pub Writes-run : Writes at bytes (with_waiting old.range.first (run_values old) under) (with_waiting new.range.first (run_values new) under)
  Writes-run = Writes-joined at bytes old.range.first (run_values old) new.range.first (run_values new) under
      (within-disk old size under within shaped) (within-disk new size under within_new shaped) lt_contents set_in

  pub contents-run : IsHonest under → set_run new.range.first (run_values new) under.contents
      ≡ slice_set (set_run old.range.first (run_values old) under.contents) at bytes
  contents-run honest = set_run-set at bytes old.range.first (run_values old) new.range.first (run_values new) under.contents set_in
      (within-disk old size under within shaped honest) (within-disk new size under within_new shaped honest) (lt_contents honest)

-- What waits is put into the disk under it: then nothing waits, or after a failure all of it.
module _ (size first : ℕ) (from : Image) (run : Run) (old new : Medium) (is_first : first ≡ run.range.first) (is_from : from ≡ run_values run)
    (within : IsWithin run.range size)
    (shaped : (image : Image) → old.images_now image → IsShaped size image)
    (shaped' : (image : Image) → new.images_now image → IsShaped size image) (call : WritesRun first from old new) where
  written : WritesRun run.range.first (run_values run) old new
  written = subst (λ (f : ℕ). WritesRun f (run_values run) old new) is_first (subst (λ (l : Image). WritesRun first l old new) is_from call)

  pub Stays-failed : Stays (with_waiting run.range.first (run_values run) old) (with_waiting run.range.first (run_values run) new)
  Stays-failed = Stays-joined run.range.first (run_values run) run.range.first (run_values run) old new
      (within-disk run size old within shaped) (within-disk run size new within shaped') (λ i v gives. gives) written
      (λ honest. set_run-some run.range.first (run_values run) old.contents new.contents
      (within-disk run size old within shaped honest) (written.contents honest))

  pub Stays-put : (begun : Run) → run_values begun ≡ [] → IsWithin begun.range size
      → (IsHonest old → new.contents ≡ set_run first from old.contents)
      → Stays (with_waiting run.range.first (run_values run) old) (with_waiting begun.range.first (run_values begun) new)
  Stays-put begun none within' all = Stays-joined run.range.first (run_values run) begun.range.first (run_values begun) old new
      (within-disk run size old within shaped) (within-disk begun size new within' shaped')
      (λ i v gives. let P : Image → Type 0 = λ l. Gives begun.range.first l i v in let (k, is, at) = subst P none gives in absurd (none-some v at)) written
      (λ honest. ap (λ (l : Image). set_run begun.range.first l new.contents) none ∙ all honest
      ∙ ap (λ (f : ℕ). set_run f from old.contents) is_first ∙ ap (λ (l : Image). set_run run.range.first l old.contents) is_from)

-- A sync of the disk under it.
pub Stays-synced : (size : ℕ) (run : Run) (old new : Medium) → IsWithin run.range size
    → ((image : Image) → old.images_now image → IsShaped size image)
    → ((image : Image) → new.images_now image → IsShaped size image) → Stays old new
    → Stays (with_waiting run.range.first (run_values run) old) (with_waiting run.range.first (run_values run) new)
Stays-synced size run old new within shaped shaped' call = Stays-joined run.range.first (run_values run) run.range.first (run_values run) old new
    (within-disk run size old within shaped) (within-disk run size new within shaped') (λ i v gives. gives)
    (WritesRun-stays run.range.first (run_values run) old new call)
    (λ honest. ap (λ (c : Image). set_run run.range.first (run_values run) c) (call.contents honest))

-- if an image is named at all, the disk is honest, and so it was before
pub honest-before : (size : ℕ) (run : Run) (old under : Medium) → IsWithin run.range size
    → ((image : Image) → under.images_now image → IsShaped size image)
    → Stays old (with_waiting run.range.first (run_values run) under)
    → (image : Image) → (with_waiting run.range.first (run_values run) under).images_now image → IsHonest old
honest-before size run old under within shaped call image now =
    call.time.honest.1 ((IsHonest-joined run.range.first (run_values run) under (within-disk run size under within shaped)).1 now.0)

-- ---- what is read

-- a sector that waits
pub read-waiting : (at size : ℕ) (value : List ℕ) (run : Run) (under : Medium) → IsWithin run.range size
    → ((image : Image) → under.images_now image → IsShaped size image) → IsInside run.range at
    → slice_get (run_values run) (at - run.range.first) ≡ Some value → IsHonest under
    → slice_get (set_run run.range.first (run_values run) under.contents) at ≡ Some value
read-waiting at size value run under within shaped inside is honest =
    let gives : Gives run.range.first (run_values run) at value = (at - run.range.first, omega (arith, inside), is) in
    ⊎_elim
    (λ (none, _). absurd (none value gives))
    (λ (w, given, there). there ∙ ap (λ (s : List ℕ). Some s) (Gives-one run.range.first (run_values run) at w value given gives))
    (set_run-cases run.range.first (run_values run) under.contents at (within-disk run size under within shaped honest))

-- another one
pub read-under : (at size : ℕ) (run : Run) (under : Medium) → IsWithin run.range size
    → ((image : Image) → under.images_now image → IsShaped size image) → (IsInside run.range at → ⊥) → IsHonest under
    → slice_get (set_run run.range.first (run_values run) under.contents) at ≡ slice_get under.contents at
read-under at size run under within shaped outside honest = ⊎_elim
    (λ (_, same). same)
    (λ (w, (k, is, given), there). absurd (outside (omega (arith, is), omega (arith, is, slice_get_within (run_values run) k w given, length-values run))))
    (set_run-cases run.range.first (run_values run) under.contents at (within-disk run size under within shaped honest))

-- a call that writes no sector may have failed to write one
pub Writes-none : (at : ℕ) (bytes : List ℕ) (old new : Medium) → Stays old new → Writes at bytes old new
Writes-none at bytes old new call = record {
  contents = λ honest. inl (call.contents honest);
  images = λ image now. (image, call.images image now, inl refl);
  time = call.time;
}

-- ---- a run that is written sector by sector

pub WritesRun-start : (first : ℕ) (values : Image) (old : Medium) → WritesRun first values old old
WritesRun-start first values old = record {
  contents = λ honest. SetsSome-none first values old.contents;
  images = λ image now. (image, now, SetsSome-none first values image);
  later = omega arith;
  nothing_else = λ t image le left. inl left;
  honest = (λ h. h, λ h. h);
}

-- one sector more
SetsSome-more : (first : ℕ) (values a b c : Image) (at : ℕ) (v : List ℕ) → Gives first values at v → SetsSome first values a b
    → (c ≡ b) ⊎ (c ≡ slice_set b at v) → SetsSome first values a c
SetsSome-more first values a b c at v gives some change = ⊎_elim
    (λ same. subst (SetsSome first values a) (sym same) some)
    (λ set. subst (SetsSome first values a) (sym set) (record {
      count = length-set b at v ∙ some.count;
      sectors = λ i. ⊎_elim
          (λ here. ⊎_elim
          (λ lt. inr (
            v,
            subst (λ (n : ℕ). Gives first values n v) (sym here.1) gives,
            ap (λ (n : ℕ). slice_get (slice_set b at v) n) here.1 ∙ slice_get-set_same b at v lt,
          ))
          (λ le. let past : slice_get (slice_set b at v) i ≡ slice_get b i =
          slice_get_past (slice_set b at v) i (omega (arith, le, here.1, length-set b at v)) ∙ sym (slice_get_past b i (omega (arith, le, here.1))) in
          ⊎_elim (λ same. inl (past ∙ same)) (λ (w, given, is). inr (w, given, past ∙ is)) (some.sectors i))
          (cases_lt at (length b)))
          (λ other. let kept : slice_get (slice_set b at v) i ≡ slice_get b i = slice_get-set_other b at i v other.1 in
          ⊎_elim (λ same. inl (kept ∙ same)) (λ (w, given, is). inr (w, given, kept ∙ is)) (some.sectors i))
          (eqb_tells i at);
    }))
    change

pub WritesRun-more : (first : ℕ) (values : Image) (at : ℕ) (v : List ℕ) (old mid new : Medium) → Gives first values at v
    → WritesRun first values old mid → Writes at v mid new → WritesRun first values old new
WritesRun-more first values at v old mid new gives so_far call = record {
  contents = λ honest. SetsSome-more first values old.contents mid.contents new.contents at v gives (so_far.contents honest)
      (call.contents (so_far.honest.0 honest));
  images = from_new;
  later = omega (arith, so_far.later, call.time.later);
  nothing_else = λ t image le left. ⊎_elim (so_far.nothing_else t image le) (λ now. inr (from_new image now))
      (call.time.nothing_else t image (omega (arith, le, so_far.later)) left);
  honest = (λ h. call.time.honest.0 (so_far.honest.0 h), λ h. so_far.honest.1 (call.time.honest.1 h));
}
  where
    from_new : (image : Image) → new.images_now image → SetSomeOf first values old image
    from_new image now =
        let (between, was, change) = call.images image now in
        let (before, then, some) = so_far.images between was in
        (before, then, SetsSome-more first values before between image at v gives some change)

-- what is read once it is written
pub set_run-more : (first : ℕ) (values : Image) (v : List ℕ) (image : Image)
    → set_run first (values ++ v ∷ []) image ≡ slice_set (set_run first values image) (first + length values) v
set_run-more first [] v image = ap (λ (n : ℕ). slice_set image n v) (omega arith)
set_run-more first (x ∷ xs) v image =
    set_run-more (first + 1) xs v (slice_set image first x)
    ∙ ap (λ (n : ℕ). slice_set (set_run (first + 1) xs (slice_set image first x)) n v) (omega arith)
