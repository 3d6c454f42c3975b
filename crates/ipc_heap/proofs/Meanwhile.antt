-- What is used stays as it is while free sectors are written.
use Rattle.std.proofs.Common.{◌≡◌, ◌⊎◌, inl, inr, ⊎_elim, ℕ, ◌<◌, List, refl, sym, subst, ◌∙◌}
use Rattle.std.specs.Prelude.{Contains}
use Rattle.ipc_base.specs.Objects.{PlainObjects}
use Rattle.ipc_disk.specs.declared.range.Range.{Range}
use Rattle.ipc_disk.specs.Medium.{Image, Medium, IsHonest}
use Rattle.ipc_disk.specs.Range.{IsOutside}
use Rattle.ipc_disk.specs.Since.{LeavesAlone, SameAt}
use Rattle.ipc_disk.specs.Standing.{sector_at}
use Rattle.ipc_disk.proofs.CallerLemmas.{EachImageSince-join, EachImageSince-now, EachImageSince-start, EachImageSince-weaken, sector_at-same}
use Rattle.ipc_heap.specs.Heap.{Allocation, HoldsIn, epoch_in, used}
use Rattle.ipc_heap.specs.Matches.{HeapMatches}
use Rattle.ipc_heap.specs.Meanwhile.{EachLater, IsUsedIn, KeepsUsed, KeepsUsedOrTurns}
use Rattle.ipc_heap.specs.View.{HeapView}
use Rattle.ipc_heap.specs.Relations.Uses.{IsNotFree}
use Rattle.ipc_heap.proofs.Damages.{HoldsIn-one}
use Rattle.ipc_heap.proofs.Images.{HoldsIn-same, saved-kept}

-- ---- later images

-- nothing has happened
pub EachLater-start : (R : Image → Image → Type 0) (old : Medium) → ((image : Image) → old.images_since old.moment image → old.images_now image)
    → ((image : Image) → R image image) → EachLater R old old
EachLater-start R old law same =
    EachImageSince-start old (λ image. (earlier : Image) × old.images_now earlier × R earlier image) law (λ image now. (image, now, same image))

-- what follows holds too
pub EachLater-weaken : (R S : Image → Image → Type 0) (old new : Medium) → EachLater R old new → ((a b : Image) → R a b → S a b) → EachLater S old new
EachLater-weaken R S old new run weaker =
    EachImageSince-weaken old new (λ image. (earlier : Image) × old.images_now earlier × R earlier image)
    (λ image. (earlier : Image) × old.images_now earlier × S earlier image) run (λ image from. (from.0, from.1, weaker from.0 image from.2))

-- a run of calls, and then another
pub EachLater-join : (R S : Image → Image → Type 0) (old mid new : Medium) → ((a b : Image) → R a b → S a b)
    → ((a b c : Image) → R a b → S b c → S a c) → IsHonest mid → EachLater R old mid → EachLater S mid new → EachLater S old new
EachLater-join R S old mid new weaker both honest first next =
    let P : Image → Type 0 = λ image. (earlier : Image) × old.images_now earlier × R earlier image in
    let Q : Image → Type 0 = λ image. (earlier : Image) × old.images_now earlier × S earlier image in
    EachImageSince-join old mid new Q (EachLater-weaken R S old mid first weaker)
    (EachImageSince-weaken mid new (λ image. (between : Image) × mid.images_now between × S between image) Q next
    (λ image from. let was = EachImageSince-now old mid P first honest from.0 from.1 in (was.0, was.1, both was.0 from.0 image was.2 from.2)))

module _ (range : Range) (root : ℕ) where
  pub KeepsUsed-refl : (image : Image) → KeepsUsed range root image image
  KeepsUsed-refl image = record { count = refl; sectors = λ i here. refl }

  module _ (apart : IsOutside range root) (a b : Image) (first : KeepsUsed range root a b) where
    -- what is used stands there
    pub KeepsUsed-holds : (epoch : ℕ) (has : Allocation) (objects : PlainObjects) → HoldsIn range root epoch has objects a
        → HoldsIn range root epoch has objects b
    KeepsUsed-holds epoch has objects there =
        HoldsIn-same a b range root epoch has objects (λ i. IsOutside range i ⊎ IsUsedIn range root a i) first (inl apart)
        (λ s is. inr (record { epoch = epoch; has = has; objects = objects; there = there; is = is })) there

    KeepsUsed-used : (s : ℕ) → IsUsedIn range root a s → IsUsedIn range root b s
    KeepsUsed-used s u = record {
      epoch = u.epoch;
      has = u.has;
      objects = u.objects;
      there = KeepsUsed-holds u.epoch u.has u.objects u.there;
      is = u.is;
    }

    pub KeepsUsed-then : (c : Image) → KeepsUsed range root b c → KeepsUsed range root a c
    KeepsUsed-then c next = record {
      count = first.count ∙ next.count;
      sectors = λ i here. first.sectors i here ∙ next.sectors i (⊎_elim inl (λ u. inr (KeepsUsed-used i u)) here);
    }

    pub KeepsUsed-turns : (c : Image) → KeepsUsedOrTurns range root b c → KeepsUsedOrTurns range root a c
    KeepsUsed-turns c next =
        let same : sector_at a root ≡ sector_at b root =
        sector_at-same (λ i. IsOutside range i ⊎ IsUsedIn range root a i) a b root first (inl apart) in
        ⊎_elim (λ keeps. inl (KeepsUsed-then c keeps))
        (λ turned. inr (subst (λ (l : List ℕ). epoch_in l < epoch_in (sector_at c root)) (sym same) turned)) next

-- ---- a heap that matches a disk

module _ (heap : HeapView) (saved : PlainObjects) (old : Medium) (matches : HeapMatches heap saved old) where
  -- what an image of now uses is what is saved
  used-saved : (image : Image) → old.images_now image → (s : ℕ) → IsUsedIn heap.range heap.root image s → Contains (used matches.there) s
  used-saved image now s u =
      subst (λ (a : Allocation). Contains (used a) s)
      (HoldsIn-one heap.range heap.root u.epoch heap.epoch u.has matches.there u.objects saved image u.there (matches.images image now)) u.is

  -- an image that has the same in all sectors that are not free has the same in all that are used
  pub keeps-used : (places : ℕ → Type 0) → ((i : ℕ) → IsNotFree heap.range heap.uses i → places i) → (earlier later : Image)
      → old.images_now earlier → SameAt places earlier later → KeepsUsed heap.range heap.root earlier later
  keeps-used places all earlier later now same = record {
    count = same.count;
    sectors = λ i here. same.sectors i (all i (⊎_elim inl (λ u. saved-kept heap saved old matches i (used-saved earlier now i u)) here));
  }

  -- and so do all images since, if no other sector is touched
  pub later-used : (new : Medium) → LeavesAlone (IsNotFree heap.range heap.uses) old new → EachLater (KeepsUsed heap.range heap.root) old new
  later-used new run =
      EachImageSince-weaken old new (λ image. (earlier : Image) × old.images_now earlier × SameAt (IsNotFree heap.range heap.uses) earlier image)
      (λ image. (earlier : Image) × old.images_now earlier × KeepsUsed heap.range heap.root earlier image) run.images
      (λ image from. (from.0, from.1, keeps-used (IsNotFree heap.range heap.uses) (λ i kept. kept) from.0 image from.1 from.2))
