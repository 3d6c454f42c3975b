-- The bytes of a batch as the pieces in its sectors: what is written of them so far, and what is read.
use Rattle.std.proofs.Common.{◌≡◌, ◌⊎◌, ⊎_elim, ℕ, zero, suc, ◌+◌, ◌*◌, ◌<◌}
use Rattle.std.proofs.Common.{◌≤◌, List, [], ◌++◌, length, take, drop, sym, ◌∙◌}
use Rattle.std.proofs.Common.{ap, subst, arith}
use Rattle.std.specs.Prelude.{slice_set}
use borrow.Rule.Slice.PartMut.{put_mid}
use Rattle.std.proofs.lemmas.List.{take_all, take_at, drop_at, drop_all, append-nil, take-take, drop-take, length-take-le, length-drop}
use borrow.Author.Count.{below_more}
use Rattle.ipc_disk.specs.Medium.{Image}
use Rattle.ipc_disk.specs.Standing.{sector_at}
use Rattle.std.proofs.Common.{inl, inr, refl}
use Rattle.std.specs.Prelude.{◌≢◌}
use Rattle.std.proofs.lemmas.Bool.{cases_lt}
use Rattle.ipc_disk.specs.Range.{IsOutside}
use Rattle.ipc_disk.proofs.CallerLemmas.{SameAt-set}
use Rattle.ipc_journal.specs.Tagged.{pieces_for, tagged_bytes, tagged_piece, IsMixed}
use Rattle.ipc_disk.proofs.CallerLemmas.{sector_at-set_same, sector_at-set_other}

-- the pieces so far stand there
abbrev pub StandsBelow : ℕ → ℕ → List ℕ → Image → Type 0
StandsBelow n at bytes image = (i : ℕ) → i < n → take (length (tagged_piece i bytes)) (drop 16 (sector_at image (at + i))) ≡ tagged_piece i bytes

-- the sectors so far are written
abbrev pub WrittenBelow : ℕ → ℕ → ℕ → ℕ → List ℕ → Image → Type 0
WrittenBelow n at epoch number bytes image = (i : ℕ) → i < n
    → sector_at image (at + i) ≡ tagged_bytes epoch number i (pieces_for (length bytes)) (tagged_piece i bytes)

-- and one more
pub written_more : (n at epoch number : ℕ) (bytes : List ℕ) (image : Image) → at + n < length image → WrittenBelow n at epoch number bytes image
    → WrittenBelow (n + 1) at epoch number bytes
    (slice_set image (at + n) (tagged_bytes epoch number n (pieces_for (length bytes)) (tagged_piece n bytes)))
written_more n at epoch number bytes image lt below =
    let sector : ℕ → List ℕ = λ i. tagged_bytes epoch number i (pieces_for (length bytes)) (tagged_piece i bytes) in
    below_more (λ (i : ℕ). sector_at (slice_set image (at + n) (sector n)) (at + i) ≡ sector i) n
    (λ i less. sector_at-set_other image (at + n) (at + i) (sector n) (λ same. absurd (omega (arith, same, less))) ∙ below i less)
    (sector_at-set_same image (at + n) (sector n) lt)

-- at first each sector is as it was
pub IsMixed-start : (at epoch number : ℕ) (bytes : List ℕ) (image : Image) → IsMixed at epoch number bytes image image
IsMixed-start at epoch number bytes image = record { outside = record { count = refl; sectors = λ i here. refl }; inside = λ i lt. inl refl }

-- one of the sectors is written, or none
pub IsMixed-set : (at epoch number n : ℕ) (bytes : List ℕ) (old image : Image) → n < pieces_for (length bytes) → at + n < length image
    → IsMixed at epoch number bytes old image
    → IsMixed at epoch number bytes old (slice_set image (at + n) (tagged_bytes epoch number n (pieces_for (length bytes)) (tagged_piece n bytes)))
IsMixed-set at epoch number n bytes old image few lt mixed =
    let count : ℕ = pieces_for (length bytes) in
    let sector : List ℕ = tagged_bytes epoch number n count (tagged_piece n bytes) in
    let stays = SameAt-set (IsOutside (record { first = at; count = count })) image (at + n) sector
    (λ out. ⊎_elim (λ low. absurd (omega (arith, low))) (λ high. absurd (omega (arith, high, few))) out) in
    record {
      outside = record {
        count = mixed.outside.count ∙ stays.count;
        sectors = λ i out. mixed.outside.sectors i out ∙ stays.sectors i out;
      };
      inside = λ i less. elim (cases_lt i n) [
        | inl before ↦ other i less (λ same. absurd (omega (arith, same, before)))
        | inr le ↦ elim (cases_lt n i) [
          | inl after ↦ other i less (λ same. absurd (omega (arith, same, after)))
          | inr ge ↦
              let is : i ≡ n = omega (arith, le, ge) in
              inr (ap (λ (k : ℕ). sector_at (slice_set image (at + n) sector) (at + k)) is ∙ sector_at-set_same image (at + n) sector lt
              ∙ ap (λ (k : ℕ). tagged_bytes epoch number k count (tagged_piece k bytes)) (sym is))
        ]
      ];
    }
  where
    other : (i : ℕ) → i < pieces_for (length bytes) → at + i ≢ at + n
        → (sector_at (slice_set image (at + n) (tagged_bytes epoch number n (pieces_for (length bytes)) (tagged_piece n bytes))) (at + i)
        ≡ sector_at old (at + i))
        ⊎ (sector_at (slice_set image (at + n) (tagged_bytes epoch number n (pieces_for (length bytes)) (tagged_piece n bytes))) (at + i)
        ≡ tagged_bytes epoch number i (pieces_for (length bytes)) (tagged_piece i bytes))
    other i less differs =
        let stays = sector_at-set_other image (at + n) (at + i)
        (tagged_bytes epoch number n (pieces_for (length bytes)) (tagged_piece n bytes)) differs in
        ⊎_elim (λ same. inl (stays ∙ same)) (λ is. inr (stays ∙ is)) (mixed.inside i less)

-- the front decides the pieces in it
pub piece-same : (k n : ℕ) (xs ys : List ℕ) → k < n → take (496 * n) xs ≡ take (496 * n) ys → tagged_piece k xs ≡ tagged_piece k ys
piece-same k n xs ys lt same =
    sym (drop-take (496 * k) 496 xs)
    ∙ ap (λ (l : List ℕ). drop (496 * k) l) (sym (take-take (496 * k + 496) (496 * n) xs (omega arith)))
    ∙ ap (λ (l : List ℕ). drop (496 * k) (take (496 * k + 496) l)) same
    ∙ ap (λ (l : List ℕ). drop (496 * k) l) (take-take (496 * k + 496) (496 * n) ys (omega arith))
    ∙ drop-take (496 * k) 496 ys

-- one piece more is read
pub pieces_more : (n at : ℕ) (old new sector : List ℕ) (image : Image) → take (496 * n) new ≡ take (496 * n) old
    → take (length (tagged_piece n new)) (drop 16 sector) ≡ tagged_piece n new → sector_at image (at + n) ≡ sector
    → StandsBelow n at old image → StandsBelow (n + 1) at new image
pieces_more n at old new sector image front here read below =
    let P : ℕ → Type 0 = λ i. take (length (tagged_piece i new)) (drop 16 (sector_at image (at + i))) ≡ tagged_piece i new in
    below_more P n
    (λ i less. let S : List ℕ → Type 0 = λ p. take (length p) (drop 16 (sector_at image (at + i))) ≡ p in
    subst S (sym (piece-same i n new old less front)) (below i less))
    (ap (λ (s : List ℕ). take (length (tagged_piece n new)) (drop 16 s)) read ∙ here)

-- a piece after its bytes were put in
pub piece-put : (i k : ℕ) (xs ys sector : List ℕ) → 496 * i ≤ length xs → (k ≡ 496) ⊎ ((k < 496) × (length xs ≤ 496 * i + k)) → length ys ≡ k
    → ys ≡ take k sector
    → take (length (tagged_piece i (put_mid (496 * i) k xs ys))) sector ≡ tagged_piece i (put_mid (496 * i) k xs ys)
piece-put i k xs ys sector le cases long is =
    let whole : tagged_piece i (put_mid (496 * i) k xs ys) ≡ take 496 (ys ++ drop k (drop (496 * i) xs)) =
    ap (λ (l : List ℕ). take 496 l) (drop_at (take (496 * i) xs) (ys ++ drop k (drop (496 * i) xs)) (496 * i) (length-take-le (496 * i) xs le)) in
    let only : take 496 (ys ++ drop k (drop (496 * i) xs)) ≡ ys = ⊎_elim
    (λ full. take_at ys (drop k (drop (496 * i) xs)) 496 (long ∙ full))
    (λ short. let none : drop k (drop (496 * i) xs) ≡ [] = drop_all k (drop (496 * i) xs) (omega (arith, length-drop (496 * i) xs, short.1)) in
    ap (λ (l : List ℕ). take 496 (ys ++ l)) none ∙ ap (λ (l : List ℕ). take 496 l) (append-nil ys) ∙ take_all 496 ys (omega (arith, long, short.0)))
    cases in
    let same : tagged_piece i (put_mid (496 * i) k xs ys) ≡ ys = whole ∙ only in
    ap (λ (l : List ℕ). take (length l) sector) same ∙ ap (λ (n : ℕ). take n sector) long ∙ sym is ∙ sym same

-- past the end there is no piece
pub pieces_none : (n at : ℕ) (bytes : List ℕ) (image : Image) → length bytes ≤ 496 * n → StandsBelow n at bytes image → StandsBelow (n + 1) at bytes image
pieces_none n at bytes image short below =
    let P : ℕ → Type 0 = λ i. take (length (tagged_piece i bytes)) (drop 16 (sector_at image (at + i))) ≡ tagged_piece i bytes in
    let none : tagged_piece n bytes ≡ [] = ap (take 496) (drop_all (496 * n) bytes short) in
    below_more P n below
    (subst (λ (p : List ℕ). take (length p) (drop 16 (sector_at image (at + n))) ≡ p) (sym none) refl)

-- so many sectors of a batch put into an image
pub put-tagged : (n at epoch number : ℕ) (bytes : List ℕ) → Image → Image
put-tagged zero at epoch number bytes image = image
put-tagged (suc n) at epoch number bytes image =
    slice_set (put-tagged n at epoch number bytes image) (at + n) (tagged_bytes epoch number n (pieces_for (length bytes)) (tagged_piece n bytes))

module _ (at epoch number : ℕ) (bytes : List ℕ) (image : Image) (room : at + pieces_for (length bytes) ≤ length image) where
  -- the others are as they were
  pub put-mixed : (n : ℕ) → n ≤ pieces_for (length bytes) → IsMixed at epoch number bytes image (put-tagged n at epoch number bytes image)
  unfolding put-tagged
  put-mixed zero le = IsMixed-start at epoch number bytes image
  put-mixed (suc n) le =
      let so_far = put-mixed n (omega (arith, le)) in
      IsMixed-set at epoch number n bytes image (put-tagged n at epoch number bytes image) (omega (arith, le)) (omega (arith, so_far.outside.count, room, le))
      so_far

  -- and these are written
  pub put-written : (n : ℕ) → n ≤ pieces_for (length bytes) → WrittenBelow n at epoch number bytes (put-tagged n at epoch number bytes image)
  unfolding put-tagged
  put-written zero le = λ i lt. absurd (omega (arith, lt))
  put-written (suc n) le =
      let more = written_more n at epoch number bytes (put-tagged n at epoch number bytes image)
      (omega (arith, (put-mixed n (omega (arith, le))).outside.count, room, le)) (put-written n (omega (arith, le))) in
      λ i lt. more i (omega (arith, lt))
