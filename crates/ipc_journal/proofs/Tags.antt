-- Tagged sectors: what two images share, and what stands in one.
use Rattle.std.proofs.Common.{◌≡◌, ℕ, zero, suc, ◌+◌, ◌-◌, ◌*◌, ◌<◌, ◌≤◌, List, ◌++◌, ◌^◌, length, take, drop, replicate, sym, ◌∙◌, ap, subst, refl, arith}
use Rattle.std.proofs.Common.{take-append-drop}
use Rattle.std.proofs.lemmas.List.{take_at, drop_at, take_all, take-take, drop-take, drop-drop, length-take, length-drop}
use Rattle.byteorder.specs.Endian.{big_bytes, big_number}
use Rattle.byteorder.specs.Numbers.{big_number-reads_back, length-bytes_high_first}
use Rattle.ipc_disk.specs.declared.range.Range.{Range}
use Rattle.ipc_disk.specs.Medium.{Image}
use Rattle.ipc_disk.specs.Standing.{sector_at}
use Rattle.ipc_journal.specs.Batch.{epoch_in}
use Rattle.ipc_journal.specs.Tagged.{pieces_for, number_in, index_in, count_in, tagged_bytes, tagged_piece}
use Rattle.ipc_journal.specs.Tagged.{IsTagged, IsTaggedAt, IsWhole, StandsTagged, IsEnd}

-- the sectors of a batch say alike how many they are
pub IsWhole-one : (range : Range) (epoch place before m n : ℕ) (image : Image) → IsWhole range epoch place before m image
    → IsWhole range epoch place before n image → m ≡ n
IsWhole-one range epoch place before m n image one other = sym (one.each 0 one.some).count_is ∙ (other.each 0 other.some).count_is

-- in the same sectors
pub IsWhole-same : (range : Range) (epoch place before count : ℕ) (a b : Image)
    → ((j : ℕ) → range.first + place ≤ j → j < range.first + place + count → sector_at a j ≡ sector_at b j)
    → IsWhole range epoch place before count a → IsWhole range epoch place before count b
IsWhole-same range epoch place before count a b same whole = record {
  some = whole.some;
  within = whole.within;
  each = λ i lt. subst (IsTagged epoch (before + 1) i count) (same (range.first + place + i) (omega arith) (omega (arith, lt))) (whole.each i lt);
}

pub StandsTagged-same : (at : ℕ) (batch : List ℕ) (a b : Image)
    → ((j : ℕ) → at ≤ j → j < at + pieces_for (length batch) → sector_at a j ≡ sector_at b j)
    → StandsTagged at batch a → StandsTagged at batch b
StandsTagged-same at batch a b same stands i lt =
    ap (λ (s : List ℕ). take (length (tagged_piece i batch)) (drop 16 s)) (sym (same (at + i) (omega arith) (omega (arith, lt)))) ∙ stands i lt

pub IsEnd-same : (range : Range) (epoch place before : ℕ) (a b : Image)
    → ((j : ℕ) → range.first + place ≤ j → j < range.first + range.count → sector_at a j ≡ sector_at b j)
    → IsEnd range epoch place before a → IsEnd range epoch place before b
IsEnd-same range epoch place before a b same end = record {
  within = end.within;
  none = λ count whole. end.none count
      (IsWhole-same range epoch place before count b a (λ j low high. sym (same j low (omega (arith, high, whole.within)))) whole);
  not_later = λ lt. subst (λ (s : List ℕ). epoch_in s ≤ epoch) (same (range.first + place) (omega arith) (omega (arith, lt))) (end.not_later lt);
}

take_pieces : (n : ℕ) (xs : List ℕ) → take (496 * n + 496) xs ≡ take (496 * n) xs ++ tagged_piece n xs
take_pieces n xs =
    sym (take-append-drop (496 * n) (take (496 * n + 496) xs))
    ∙ ap (λ (l : List ℕ). l ++ drop (496 * n) (take (496 * n + 496) xs)) (take-take (496 * n) (496 * n + 496) xs (omega arith))
    ∙ ap (λ (l : List ℕ). take (496 * n) xs ++ l) (drop-take (496 * n) 496 xs)

length-piece : (i : ℕ) (xs ys : List ℕ) → length xs ≡ length ys → length (tagged_piece i xs) ≡ length (tagged_piece i ys)
length-piece i xs ys same =
    omega (arith, length-take 496 (drop (496 * i) xs), length-take 496 (drop (496 * i) ys), length-drop (496 * i) xs, length-drop (496 * i) ys)

-- what stands in the same sectors, and is as long, is the same
module _ (at : ℕ) (xs ys : List ℕ) (image : Image) (same : length xs ≡ length ys) (first : StandsTagged at xs image) (second : StandsTagged at ys image) where
  fronts : (n : ℕ) → n ≤ pieces_for (length xs) → take (496 * n) xs ≡ take (496 * n) ys
  fronts zero le = refl
  fronts (suc n) le =
      let here : tagged_piece n xs ≡ tagged_piece n ys =
      sym (first n (omega arith)) ∙ ap (λ (k : ℕ). take k (drop 16 (sector_at image (at + n)))) (length-piece n xs ys same) ∙ second n (omega arith) in
      let before = fronts n (omega arith) in
      let bound : 496 * suc n ≡ 496 * n + 496 = omega arith in
      ap (λ (k : ℕ). take k xs) bound ∙ take_pieces n xs
      ∙ ap (λ (l : List ℕ). l ++ tagged_piece n xs) before ∙ ap (λ (l : List ℕ). take (496 * n) ys ++ l) here
      ∙ sym (take_pieces n ys) ∙ ap (λ (k : ℕ). take k ys) (sym bound)

  pub tagged-same : xs ≡ ys
  tagged-same =
      sym (take_all (496 * pieces_for (length xs)) xs (omega arith)) ∙ fronts (pieces_for (length xs)) (omega arith)
      ∙ take_all (496 * pieces_for (length xs)) ys (omega arith)

-- the bytes of the first sector begin with the first of the batch
pub tagged-front : (at : ℕ) (bytes : List ℕ) (image : Image) → 4 ≤ length bytes → StandsTagged at bytes image
    → take 4 (drop 16 (sector_at image at)) ≡ take 4 bytes
tagged-front at bytes image long stands =
    let some : at + 0 ≡ at = omega arith in
    let front : ℕ = length (take 496 bytes) in
    let there : take front (drop 16 (sector_at image at)) ≡ take 496 bytes =
    ap (λ (k : ℕ). take front (drop 16 (sector_at image k))) (sym some) ∙ stands 0 (omega (arith, long)) in
    sym (take-take 4 front (drop 16 (sector_at image at)) (omega (arith, length-take 496 bytes, long)))
    ∙ ap (take 4) there ∙ take-take 4 496 bytes (omega arith)

-- the parts of a sector that is written
module _ (epoch number index count : ℕ) (piece : List ℕ) where
  abbrev counted : List ℕ
  counted = big_bytes 2 count ++ (piece ++ replicate (496 - length piece) 0)

  from-number : drop 8 (tagged_bytes epoch number index count piece) ≡ big_bytes 4 number ++ (big_bytes 2 index ++ counted)
  unfolding tagged_bytes
  from-number = drop_at (big_bytes 8 epoch) (big_bytes 4 number ++ (big_bytes 2 index ++ counted)) 8 (length-bytes_high_first 8 epoch)

  from-index : drop 12 (tagged_bytes epoch number index count piece) ≡ big_bytes 2 index ++ counted
  from-index = sym (drop-drop 4 8 (tagged_bytes epoch number index count piece)) ∙ ap (drop 4) from-number
      ∙ drop_at (big_bytes 4 number) (big_bytes 2 index ++ counted) 4 (length-bytes_high_first 4 number)

  from-count : drop 14 (tagged_bytes epoch number index count piece) ≡ counted
  from-count = sym (drop-drop 2 12 (tagged_bytes epoch number index count piece)) ∙ ap (drop 2) from-index
      ∙ drop_at (big_bytes 2 index) counted 2 (length-bytes_high_first 2 index)

  from-piece : drop 16 (tagged_bytes epoch number index count piece) ≡ piece ++ replicate (496 - length piece) 0
  from-piece = sym (drop-drop 2 14 (tagged_bytes epoch number index count piece)) ∙ ap (drop 2) from-count
      ∙ drop_at (big_bytes 2 count) (piece ++ replicate (496 - length piece) 0) 2 (length-bytes_high_first 2 count)

  -- its tag says what it is written with
  pub IsTagged-bytes : epoch < 2 ^ 64 → number < 2 ^ 32 → index < 65536 → count < 65536
      → IsTagged epoch number index count (tagged_bytes epoch number index count piece)
  unfolding epoch_in number_in index_in count_in tagged_bytes
  IsTagged-bytes e n i k = record {
    epoch_is = big_number-reads_back 8 epoch (big_bytes 4 number ++ (big_bytes 2 index ++ counted)) (omega arith);
    number_is = ap (λ (l : List ℕ). big_number 4 l) from-number ∙ big_number-reads_back 4 number (big_bytes 2 index ++ counted) (omega arith);
    index_is = ap (λ (l : List ℕ). big_number 2 l) from-index ∙ big_number-reads_back 2 index counted (omega arith);
    count_is = ap (λ (l : List ℕ). big_number 2 l) from-count ∙ big_number-reads_back 2 count (piece ++ replicate (496 - length piece) 0) (omega arith);
  }

  -- and its piece stands in it
  pub piece-bytes : take (length piece) (drop 16 (tagged_bytes epoch number index count piece)) ≡ piece
  piece-bytes = ap (take (length piece)) from-piece ∙ take_at piece (replicate (496 - length piece) 0) (length piece) refl

-- what is written there stands there
pub StandsTagged-written : (at epoch number : ℕ) (batch : List ℕ) (image : Image) → IsTaggedAt at epoch number batch image → StandsTagged at batch image
StandsTagged-written at epoch number batch image written i lt =
    ap (λ (s : List ℕ). take (length (tagged_piece i batch)) (drop 16 s)) (written i lt)
    ∙ piece-bytes epoch number i (pieces_for (length batch)) (tagged_piece i batch)
