-- A header: its bytes, what is read of it, and that an image has one.
use Rattle.std.proofs.Common.{◌≡◌, ℕ, ◌^◌, ◌<◌, List, [], ◌++◌, take, drop, replicate, sym, ◌∙◌, ap, subst, arith}
use Rattle.std.proofs.lemmas.List.{take_at, drop_at, take-replicate, drop-replicate, append-nil}
use Rattle.std.proofs.lemmas.Option.{get_or_from_slice_get}
use Rattle.std.specs.Prelude.{Some, slice_get}
use borrow.Rule.Slice.PartMut.{put_mid}
use Rattle.byteorder.specs.Endian.{big_bytes, big_number}
use Rattle.byteorder.specs.Numbers.{big_from-take, big_number-reads_back, length-bytes_high_first}
use Rattle.ipc_disk.specs.declared.range.Range.{Range}
use Rattle.ipc_disk.specs.Medium.{Image}
use Rattle.ipc_disk.specs.Standing.{sector_at}
use Rattle.ipc_journal.specs.Batch.{epoch_in}
use Rattle.ipc_journal.specs.Headed.{used_in, header_bytes, header_epoch, header_used, Counts}

module _ (epoch used : ℕ) (first part : List ℕ) (high : first ≡ big_bytes 8 epoch ++ drop 8 (replicate 512 0))
    (low : part ≡ big_bytes 4 used ++ drop 4 (take 504 (drop 8 first))) where
  rest_of : drop 8 first ≡ replicate 504 0
  rest_of = ap (λ (l : List ℕ). drop 8 l) high ∙ drop_at (big_bytes 8 epoch) (drop 8 (replicate 512 0)) 8 (length-bytes_high_first 8 epoch)
      ∙ drop-replicate 8 512 0

  pub bytes-header : put_mid 8 504 first part ≡ header_bytes epoch used
  unfolding header_bytes
  bytes-header =
      let front : take 8 first ≡ big_bytes 8 epoch = ap (λ (l : List ℕ). take 8 l) high
      ∙ take_at (big_bytes 8 epoch) (drop 8 (replicate 512 0)) 8 (length-bytes_high_first 8 epoch) in
      let middle : part ≡ big_bytes 4 used ++ replicate 500 0 = low ∙ ap (λ (l : List ℕ). big_bytes 4 used ++ drop 4 (take 504 l)) rest_of
      ∙ ap (λ (l : List ℕ). big_bytes 4 used ++ drop 4 l) (take-replicate 504 504 0 (omega arith))
      ∙ ap (λ (l : List ℕ). big_bytes 4 used ++ l) (drop-replicate 4 504 0) in
      let last : drop 504 (drop 8 first) ≡ replicate 0 0 = ap (λ (l : List ℕ). drop 504 l) rest_of ∙ drop-replicate 504 504 0 in
      ap (λ (l : List ℕ). l ++ (part ++ drop 504 (drop 8 first))) front
      ∙ ap (λ (l : List ℕ). big_bytes 8 epoch ++ (l ++ drop 504 (drop 8 first))) middle
      ∙ ap (λ (l : List ℕ). big_bytes 8 epoch ++ ((big_bytes 4 used ++ replicate 500 0) ++ l)) last
      ∙ ap (λ (l : List ℕ). big_bytes 8 epoch ++ l) (append-nil (big_bytes 4 used ++ replicate 500 0))

-- what is read of a header
pub read-epoch : (range : Range) (image : Image) (sector : List ℕ) (found : ℕ) → slice_get image range.first ≡ Some sector → found ≡ big_number 8 sector
    → header_epoch range image ≡ found
unfolding epoch_in
read-epoch range image sector found read is =
    ap (λ (s : List ℕ). big_number 8 s) (get_or_from_slice_get image range.first sector [] read) ∙ sym is

pub read-used : (range : Range) (image : Image) (sector : List ℕ) (used : ℕ) → slice_get image range.first ≡ Some sector
    → used ≡ big_number 4 (take 504 (drop 8 sector))
    → header_used range image ≡ used
unfolding used_in
read-used range image sector used read is =
    ap (λ (s : List ℕ). big_number 4 (drop 8 s)) (get_or_from_slice_get image range.first sector [] read)
    ∙ sym (big_from-take 0 4 504 (drop 8 sector) (omega arith)) ∙ sym is

-- what stands in a header
pub epoch_in-header : (epoch used : ℕ) → epoch < 2 ^ 64 → epoch_in (header_bytes epoch used) ≡ epoch
unfolding epoch_in header_bytes
epoch_in-header epoch used fits = big_number-reads_back 8 epoch (big_bytes 4 used ++ replicate 500 0) (omega arith)

pub used_in-header : (epoch used : ℕ) → used < 2 ^ 32 → used_in (header_bytes epoch used) ≡ used
unfolding used_in header_bytes
used_in-header epoch used fits =
    ap (λ (l : List ℕ). big_number 4 l)
    (drop_at (big_bytes 8 epoch) (big_bytes 4 used ++ replicate 500 0) 8 (length-bytes_high_first 8 epoch))
    ∙ big_number-reads_back 4 used (replicate 500 0) (omega arith)

-- it counts one number of sectors
pub Counts-one : (range : Range) (epoch a b : ℕ) (image : Image) → Counts range epoch a image → Counts range epoch b image → a ≡ b
Counts-one range epoch a b image (Counts.Older older none) (Counts.Older older_too none_too) = none ∙ sym none_too
Counts-one range epoch a b image (Counts.Older older none) (Counts.Current current said within) = absurd (omega (arith, older, current))
Counts-one range epoch a b image (Counts.Current current said within) (Counts.Older older none) = absurd (omega (arith, older, current))
Counts-one range epoch a b image (Counts.Current current said within) (Counts.Current current_too said_too within_too) = sym said ∙ said_too

-- the same header
pub Counts-same : (range : Range) (epoch used : ℕ) (a b : Image) → sector_at a range.first ≡ sector_at b range.first → Counts range epoch used a
    → Counts range epoch used b
Counts-same range epoch used a b same (Counts.Older older none) = Counts.Older (subst (λ (s : List ℕ). epoch_in s < epoch) same older) none
Counts-same range epoch used a b same (Counts.Current current said within) =
    Counts.Current (ap epoch_in (sym same) ∙ current) (ap used_in (sym same) ∙ said) within

-- a header that is there counts what it says
pub Counts-header : (range : Range) (epoch used : ℕ) (image : Image) → used < range.count → epoch_in (sector_at image range.first) ≡ epoch
    → used_in (sector_at image range.first) ≡ used → Counts range epoch used image
Counts-header range epoch used image room e u = Counts.Current e u room
