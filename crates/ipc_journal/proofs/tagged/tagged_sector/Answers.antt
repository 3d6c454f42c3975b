-- The tag, the piece, and the zeros that are left.
use Rattle.std.proofs.Common.{◌≡◌, ℕ, List, [], ◌++◌, ◌+◌, ◌-◌, ◌≤◌, length, take, drop, replicate, ap, sym, ◌∙◌, refl, arith}
use Rattle.std.proofs.lemmas.List.{take_at, drop_at, take-replicate, drop-replicate, append-nil, append_assoc}
use borrow.Rule.Slice.PartMut.{put_mid}
use Rattle.byteorder.specs.Endian.{big_bytes}
use Rattle.ipc_journal.specs.Tagged.{tagged_bytes}
use Rattle.ipc_journal.proofs.tagged.tagged_sector.Goals as goal

-- bytes are put over the first of the zeros
put_next : (front bytes : List ℕ) (a n : ℕ) (buf part : List ℕ) → length front ≡ a → length bytes ≤ n → buf ≡ front ++ replicate n 0
    → part ≡ bytes ++ drop (length bytes) (take n (drop a buf)) → put_mid a n buf part ≡ (front ++ bytes) ++ replicate (n - length bytes) 0
put_next front bytes a n buf part long few is put =
    let rest : drop a buf ≡ replicate n 0 = ap (drop a) is ∙ drop_at front (replicate n 0) a long in
    let first : take a buf ≡ front = ap (take a) is ∙ take_at front (replicate n 0) a long in
    let last : drop n (drop a buf) ≡ replicate (n - n) 0 = ap (drop n) rest ∙ drop-replicate n n 0 in
    let zero : n - n ≡ 0 = omega arith in
    let none : replicate (n - n) 0 ≡ [] = ap (λ (k : ℕ). replicate k 0) zero in
    let middle : part ≡ bytes ++ replicate (n - length bytes) 0 = put
    ∙ ap (λ (l : List ℕ). bytes ++ drop (length bytes) (take n l)) rest
    ∙ ap (λ (l : List ℕ). bytes ++ drop (length bytes) l) (take-replicate n n 0 (omega arith))
    ∙ ap (λ (l : List ℕ). bytes ++ l) (drop-replicate (length bytes) n 0) in
    ap (λ (l : List ℕ). l ++ (part ++ drop n (drop a buf))) first
    ∙ ap (λ (l : List ℕ). front ++ (part ++ l)) (last ∙ none)
    ∙ ap (λ (l : List ℕ). front ++ l) (append-nil part ∙ middle)
    ∙ sym (append_assoc front bytes (replicate (n - length bytes) 0))

-- and the last ones, after which the other zeros stay
put_last : (front bytes : List ℕ) (a n : ℕ) (buf part : List ℕ) → length front ≡ a → length bytes ≤ n → buf ≡ front ++ replicate n 0 → part ≡ bytes
    → put_mid a (length bytes) buf part ≡ front ++ (bytes ++ replicate (n - length bytes) 0)
put_last front bytes a n buf part long few is put =
    let rest : drop a buf ≡ replicate n 0 = ap (drop a) is ∙ drop_at front (replicate n 0) a long in
    let first : take a buf ≡ front = ap (take a) is ∙ take_at front (replicate n 0) a long in
    ap (λ (l : List ℕ). l ++ (part ++ drop (length bytes) (drop a buf))) first
    ∙ ap (λ (l : List ℕ). front ++ (l ++ drop (length bytes) (drop a buf))) put
    ∙ ap (λ (l : List ℕ). front ++ (bytes ++ l)) (ap (drop (length bytes)) rest ∙ drop-replicate (length bytes) n 0)

pub returns : goal.returns
unfolding tagged_bytes
returns c =
    let e = big_bytes 8 c.args.epoch in
    let n = big_bytes 4 c.args.number in
    let i = big_bytes 2 c.args.index in
    let k = big_bytes 2 c.args.count in
    let p = c.args.piece.now in
    let size : 16 + length p - 16 ≡ length p = omega arith in
    let one : c.write_u64.new.buf ≡ e ++ replicate 504 0 = c.write_u64.ensures
    ∙ ap (λ (l : List ℕ). e ++ l) (drop-replicate 8 512 0) in
    let two = put_next e n 8 504 c.write_u64.new.buf c.write_u32.new.buf refl (omega arith) one c.write_u32.ensures in
    let three = put_next (e ++ n) i 12 500 _ c.write_u16.new.buf refl (omega arith) two c.write_u16.ensures in
    let four = put_next ((e ++ n) ++ i) k 14 498 _ c.write_u16-2.new.buf refl (omega arith) three c.write_u16-2.ensures in
    ap (λ (m : ℕ). put_mid 16 m (put_mid 14 498 (put_mid 12 500 (put_mid 8 504 c.write_u64.new.buf c.write_u32.new.buf) c.write_u16.new.buf)
    c.write_u16-2.new.buf) c.copy_from_slice.new.self) size
    ∙ put_last (((e ++ n) ++ i) ++ k) p 16 496 _ c.copy_from_slice.new.self refl c.requires four c.copy_from_slice.ensures.after
