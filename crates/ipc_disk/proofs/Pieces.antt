-- Bytes as their pieces: what is written of them so far, and what is read.
use Rattle.std.proofs.Common.{◌≡◌, ◌⊎◌, ⊎_elim, ℕ, ◌+◌, ◌*◌, ◌<◌}
use Rattle.std.proofs.Common.{◌≤◌, List, [], ◌++◌, length, take, drop, sym, ◌∙◌}
use Rattle.std.proofs.Common.{ap, subst, arith}
use Rattle.std.specs.Prelude.{slice_set}
use borrow.Rule.Slice.PartMut.{put_mid}
use Rattle.std.proofs.lemmas.List.{take_all, take_at, drop_at, drop_all, append-nil, take-take, drop-take, length-take-le, length-drop}
use borrow.Author.Count.{below_more}
use Rattle.ipc_disk.specs.Medium.{Image}
use Rattle.ipc_disk.specs.Standing.{sector_at, piece, padded_piece}
use Rattle.ipc_disk.proofs.CallerLemmas.{sector_at-set_same, sector_at-set_other}

-- the pieces so far stand there
abbrev pub StandsBelow : ℕ → ℕ → List ℕ → Image → Type 0
StandsBelow n at bytes image = (i : ℕ) → i < n → take (length (piece i bytes)) (sector_at image (at + i)) ≡ piece i bytes

-- the sectors so far are written
abbrev pub WrittenBelow : ℕ → ℕ → List ℕ → Image → Type 0
WrittenBelow n at bytes image = (i : ℕ) → i < n → sector_at image (at + i) ≡ padded_piece i bytes

-- and one more
pub written_more : (n at : ℕ) (bytes : List ℕ) (image : Image) → at + n < length image → WrittenBelow n at bytes image
    → WrittenBelow (n + 1) at bytes (slice_set image (at + n) (padded_piece n bytes))
written_more n at bytes image lt below =
    let P : ℕ → Type 0 = λ i. sector_at (slice_set image (at + n) (padded_piece n bytes)) (at + i) ≡ padded_piece i bytes in
    below_more P n
    (λ i less. sector_at-set_other image (at + n) (at + i) (padded_piece n bytes) (λ same. absurd (omega (arith, same, less))) ∙ below i less)
    (sector_at-set_same image (at + n) (padded_piece n bytes) lt)

-- the front decides the pieces in it
pub piece-same : (k n : ℕ) (xs ys : List ℕ) → k < n → take (512 * n) xs ≡ take (512 * n) ys → piece k xs ≡ piece k ys
piece-same k n xs ys lt same =
    sym (drop-take (512 * k) 512 xs)
    ∙ ap (λ (l : List ℕ). drop (512 * k) l) (sym (take-take (512 * k + 512) (512 * n) xs (omega arith)))
    ∙ ap (λ (l : List ℕ). drop (512 * k) (take (512 * k + 512) l)) same
    ∙ ap (λ (l : List ℕ). drop (512 * k) l) (take-take (512 * k + 512) (512 * n) ys (omega arith))
    ∙ drop-take (512 * k) 512 ys

-- one piece more is read
pub pieces_more : (n at : ℕ) (old new sector : List ℕ) (image : Image) → take (512 * n) new ≡ take (512 * n) old
    → take (length (piece n new)) sector ≡ piece n new → sector_at image (at + n) ≡ sector → StandsBelow n at old image → StandsBelow (n + 1) at new image
pieces_more n at old new sector image front here read below =
    let P : ℕ → Type 0 = λ i. take (length (piece i new)) (sector_at image (at + i)) ≡ piece i new in
    below_more P n
    (λ i less. let S : List ℕ → Type 0 = λ p. take (length p) (sector_at image (at + i)) ≡ p in
    subst S (sym (piece-same i n new old less front)) (below i less))
    (ap (λ (s : List ℕ). take (length (piece n new)) s) read ∙ here)

-- a piece after its bytes were put in
pub piece-put : (i k : ℕ) (xs ys sector : List ℕ) → 512 * i ≤ length xs → (k ≡ 512) ⊎ ((k < 512) × (length xs ≤ 512 * i + k)) → length ys ≡ k
    → ys ≡ take k sector
    → take (length (piece i (put_mid (512 * i) k xs ys))) sector ≡ piece i (put_mid (512 * i) k xs ys)
piece-put i k xs ys sector le cases long is =
    let whole : piece i (put_mid (512 * i) k xs ys) ≡ take 512 (ys ++ drop k (drop (512 * i) xs)) =
    ap (λ (l : List ℕ). take 512 l) (drop_at (take (512 * i) xs) (ys ++ drop k (drop (512 * i) xs)) (512 * i) (length-take-le (512 * i) xs le)) in
    let only : take 512 (ys ++ drop k (drop (512 * i) xs)) ≡ ys = ⊎_elim
    (λ full. take_at ys (drop k (drop (512 * i) xs)) 512 (long ∙ full))
    (λ short. let none : drop k (drop (512 * i) xs) ≡ [] = drop_all k (drop (512 * i) xs) (omega (arith, length-drop (512 * i) xs, short.1)) in
    ap (λ (l : List ℕ). take 512 (ys ++ l)) none ∙ ap (λ (l : List ℕ). take 512 l) (append-nil ys) ∙ take_all 512 ys (omega (arith, long, short.0)))
    cases in
    let same : piece i (put_mid (512 * i) k xs ys) ≡ ys = whole ∙ only in
    ap (λ (l : List ℕ). take (length l) sector) same ∙ ap (λ (n : ℕ). take n sector) long ∙ sym is ∙ sym same
