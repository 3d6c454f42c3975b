-- Numbers are read where they were spelled, and what is read is spelled so: of each size, of each kind, and side by side.
use Rattle.std.proofs.Common.{◌≡◌, ℕ, ℤ, ◌+◌, ◌≤◌, ◌<◌, ◌^◌, List, [], ◌∷◌, ◌++◌, length, take, drop, get_or, refl, sym, ap, ◌∙◌, arith, inl, inr}
use Rattle.std.proofs.Common.{FitsSigned, to_z-of_z, append_assoc, All}
use Rattle.std.specs.Int.{Width, w8, w16, w32, w64, from_be_bytes, to_be_bytes, cast_signed, cast_unsigned}
use Rattle.std.proofs.Math.Facts.{sfits_to_z, Fits-bits, Fits-of_z}
use Rattle.std.proofs.lemmas.Bool.{cases_lt}
use Rattle.std.proofs.lemmas.Int.{of_z-to_z}
use Rattle.std.proofs.lemmas.List.{length-append, length-take, length-take-le, length-drop, take-append-drop, drop-drop, take_at, drop_at}
use Rattle.std.proofs.lemmas.List.{get_or-drop, get_or-take, get_or_past}
use Rattle.std.proofs.lemmas.List.Elements.{All-get_or}
use Rattle.std.proofs.lemmas.Nat.{be_bytes_2, be_bytes_4, be_bytes_8}
use Rattle.std.proofs.lemmas.Nat.{from_be_bytes-to_be_bytes_2, from_be_bytes-to_be_bytes_4, from_be_bytes-to_be_bytes_8}
use Rattle.ipc_base.specs.declared.field.Field.{Field}
use Rattle.ipc_base.specs.declared.field.Field.TheVariants as fields
use Rattle.ipc_base.specs.declared.field.Size.{Size}
use Rattle.ipc_base.specs.declared.field.Size.TheVariants.{One, Two, Four, Eight}
use Rattle.ipc_base.specs.Numbers.{width_of, len_of, most_of, Kind, Unsigned, Signed, Number, size_of, number_in, number_bytes, IsInRange}
use Rattle.ipc_base.specs.Numbers.{Values, total, values_of, values_bytes, AreInRange, field_bytes}

-- ---- bytes

-- each of them is a byte
abbrev pub AreBytes : List ℕ → Type 0
AreBytes bytes = (i : ℕ) → get_or bytes i 0 < 256

pub bytes-all : (bytes : List ℕ) → All (λ byte. byte < 256) bytes → AreBytes bytes
bytes-all bytes all i =
    elim (cases_lt i (length bytes)) [
      | inl lt ↦ All-get_or (λ byte. byte < 256) bytes i 0 lt all
      | inr le ↦ rw (get_or_past bytes i 0 le) (omega arith)
    ]

pub bytes-take : (n : ℕ) (bytes : List ℕ) → AreBytes bytes → AreBytes (take n bytes)
bytes-take n bytes are i =
    elim (cases_lt i n) [
      | inl lt ↦ rw (get_or-take n bytes i 0 lt) (are i)
      | inr le ↦ rw (get_or_past (take n bytes) i 0 (omega (arith, length-take n bytes))) (omega arith)
    ]

pub bytes-drop : (n : ℕ) (bytes : List ℕ) → AreBytes bytes → AreBytes (drop n bytes)
bytes-drop n bytes are i = rw get_or-drop (are (n + i))

-- ---- a number of a size

be_bytes_1 : (bs : List ℕ) (n : ℕ) → length bs ≡ 1 → AreBytes bs → n ≡ from_be_bytes w8 bs → to_be_bytes w8 n ≡ bs
be_bytes_1 [] n long are is = absurd (omega (arith, long))
be_bytes_1 (b ∷ []) n long are is =
    let same : to_be_bytes w8 n ≡ n ∷ [] = ap (λ (m : ℕ). m ∷ []) (omega (arith, are 0, is)) in
    same ∙ ap (λ (m : ℕ). m ∷ []) is
be_bytes_1 (b ∷ c ∷ bs) n long are is = absurd (omega (arith, long))

spells : (s : Size) (bs : List ℕ) (n : ℕ) → length bs ≡ len_of s → AreBytes bs → n ≡ from_be_bytes (width_of s) bs
    → to_be_bytes (width_of s) n ≡ bs
spells One = be_bytes_1
spells Two = be_bytes_2
spells Four = be_bytes_4
spells Eight = be_bytes_8

-- what is read has its place
pub read_below : (s : Size) (bs : List ℕ) → AreBytes bs → from_be_bytes (width_of s) bs < most_of s
read_below One bs are = omega (arith, are 0)
read_below Two bs are = omega (arith, are 0, are 1)
read_below Four bs are = omega (arith, are 0, are 1, are 2, are 3)
read_below Eight bs are = omega (arith, are 0, are 1, are 2, are 3, are 4, are 5, are 6, are 7)

reads : (s : Size) (n : ℕ) → n < most_of s → from_be_bytes (width_of s) (to_be_bytes (width_of s) n) ≡ n
reads One n fits = omega arith
reads Two n fits = from_be_bytes-to_be_bytes_2 n fits
reads Four n fits = from_be_bytes-to_be_bytes_4 n fits
reads Eight n fits = from_be_bytes-to_be_bytes_8 n fits

pub length-number : (s : Size) (n : ℕ) → length (to_be_bytes (width_of s) n) ≡ len_of s
length-number One n = refl
length-number Two n = refl
length-number Four n = refl
length-number Eight n = refl

-- the number at the front of some bytes, and what is left of them
front_again : (s : Size) (n : ℕ) (more : List ℕ) → n < most_of s
    → from_be_bytes (width_of s) (take (len_of s) (to_be_bytes (width_of s) n ++ more)) ≡ n
front_again s n more fits =
    ap (from_be_bytes (width_of s)) (take_at (to_be_bytes (width_of s) n) more (len_of s) (length-number s n)) ∙ reads s n fits

left_again : (s : Size) (n : ℕ) (more : List ℕ) → drop (len_of s) (to_be_bytes (width_of s) n ++ more) ≡ more
left_again s n more = drop_at (to_be_bytes (width_of s) n) more (len_of s) (length-number s n)

front_back : (s : Size) (bytes : List ℕ) (n : ℕ) → AreBytes bytes → len_of s ≤ length bytes
    → n ≡ from_be_bytes (width_of s) (take (len_of s) bytes) → to_be_bytes (width_of s) n ≡ take (len_of s) bytes
front_back s bytes n are enough is =
    spells s (take (len_of s) bytes) n (length-take-le (len_of s) bytes enough) (bytes-take (len_of s) bytes are) is

-- a number of a size was taken from the front: the bytes spell it, and these are left
pub record Found (s : Size) (old new : List ℕ) (x : ℕ) : Type 0 where
  pub spelled : old ≡ to_be_bytes (width_of s) x ++ new
  pub below : x < most_of s
  pub left : AreBytes new

abbrev pub Got : Width → ℕ → List ℕ → List ℕ → ℕ → Type 0
Got w n old new x = (n ≤ length old) × (x ≡ from_be_bytes w (take n old)) × (new ≡ drop n old)

pub number_got : (s : Size) (old new : List ℕ) (x : ℕ) → AreBytes old → Got (width_of s) (len_of s) old new x → Found s old new x
number_got s old new x are it =
    let front = front_back s old x are it.0 it.1 in
    record {
      spelled = sym (take-append-drop (len_of s) old) ∙ ap (λ (l : List ℕ). l ++ drop (len_of s) old) (sym front)
          ∙ ap (λ (l : List ℕ). to_be_bytes (width_of s) x ++ l) (sym it.2);
      below = rw it.1 (read_below s (take (len_of s) old) (bytes-take (len_of s) old are));
      left = rw it.2 (bytes-drop (len_of s) old are);
    }

pub number_known : (s : Size) (y : ℕ) (rest old new : List ℕ) (x : ℕ) → y < most_of s → old ≡ to_be_bytes (width_of s) y ++ rest
    → Got (width_of s) (len_of s) old new x → (x ≡ y) × (new ≡ rest)
number_known s y rest old new x lt is it = (
  it.1 ∙ ap (λ (l : List ℕ). from_be_bytes (width_of s) (take (len_of s) l)) is ∙ front_again s y rest lt,
  it.2 ∙ ap (drop (len_of s)) is ∙ left_again s y rest,
)

pub number32_got : (old new : List ℕ) (x : ℕ) → AreBytes old → Got w32 4 old new x → Found Four old new x
number32_got = number_got Four

pub number32_known : (y : ℕ) (rest old new : List ℕ) (x : ℕ) → y < 2 ^ 32 → old ≡ to_be_bytes w32 y ++ rest
    → Got w32 4 old new x → (x ≡ y) × (new ≡ rest)
number32_known = number_known Four

pub number64_got : (old new : List ℕ) (x : ℕ) → AreBytes old → Got w64 8 old new x → Found Eight old new x
number64_got = number_got Eight

pub number64_known : (y : ℕ) (rest old new : List ℕ) (x : ℕ) → y < 2 ^ 64 → old ≡ to_be_bytes w64 y ++ rest
    → Got w64 8 old new x → (x ≡ y) × (new ≡ rest)
number64_known = number_known Eight

-- two numbers with the same bytes
pub number_one : (s : Size) (n m : ℕ) (more others : List ℕ) → n < most_of s → m < most_of s
    → to_be_bytes (width_of s) n ++ more ≡ to_be_bytes (width_of s) m ++ others → (n ≡ m) × (more ≡ others)
number_one s n m more others fits also same = (
  sym (front_again s n more fits) ∙ ap (λ (l : List ℕ). from_be_bytes (width_of s) (take (len_of s) l)) same ∙ front_again s m others also,
  sym (left_again s n more) ∙ ap (drop (len_of s)) same ∙ left_again s m others,
)

-- ---- a number of a kind

-- a signed number as an unsigned one, and back
unsigned_below : (s : Size) (z : ℤ) → FitsSigned (width_of s) z → cast_unsigned (width_of s) z < most_of s
unsigned_below One z fits = (Fits-of_z {w = w8} fits).fits
unsigned_below Two z fits = (Fits-of_z {w = w16} fits).fits
unsigned_below Four z fits = (Fits-of_z {w = w32} fits).fits
unsigned_below Eight z fits = (Fits-of_z {w = w64} fits).fits

signed_fits : (s : Size) (n : ℕ) → n < most_of s → FitsSigned (width_of s) (cast_signed (width_of s) n)
signed_fits One n lt = sfits_to_z (Fits-bits {w = w8} 8 tt lt)
signed_fits Two n lt = sfits_to_z (Fits-bits {w = w16} 16 tt lt)
signed_fits Four n lt = sfits_to_z (Fits-bits {w = w32} 32 tt lt)
signed_fits Eight n lt = sfits_to_z (Fits-bits {w = w64} 64 tt lt)

signed_back : (s : Size) (n : ℕ) → n < most_of s → cast_unsigned (width_of s) (cast_signed (width_of s) n) ≡ n
signed_back One n lt = of_z-to_z w8 n lt
signed_back Two n lt = of_z-to_z w16 n lt
signed_back Four n lt = of_z-to_z w32 n lt
signed_back Eight n lt = of_z-to_z w64 n lt

number_again : (k : Kind) (x : Number k) (more : List ℕ) → IsInRange k x → number_in k (number_bytes k x ++ more) ≡ x
unfolding number_in
number_again (Unsigned s) n more fits = front_again s n more fits
number_again (Signed s) z more fits =
    ap (cast_signed (width_of s)) (front_again s (cast_unsigned (width_of s) z) more (unsigned_below s z fits)) ∙ to_z-of_z fits

drop_number : (k : Kind) (x : Number k) (more : List ℕ) → drop (size_of k) (number_bytes k x ++ more) ≡ more
drop_number (Unsigned s) n more = left_again s n more
drop_number (Signed s) z more = left_again s (cast_unsigned (width_of s) z) more

length_number : (k : Kind) (x : Number k) → length (number_bytes k x) ≡ size_of k
length_number (Unsigned s) n = length-number s n
length_number (Signed s) z = length-number s (cast_unsigned (width_of s) z)

number_back : (k : Kind) (bytes : List ℕ) → AreBytes bytes → size_of k ≤ length bytes → number_bytes k (number_in k bytes) ≡ take (size_of k) bytes
unfolding number_in
number_back (Unsigned s) bytes are enough = front_back s bytes _ are enough refl
number_back (Signed s) bytes are enough =
    front_back s bytes _ are enough (signed_back s _ (read_below s (take (len_of s) bytes) (bytes-take (len_of s) bytes are)))

number_range : (k : Kind) (bytes : List ℕ) → AreBytes bytes → IsInRange k (number_in k bytes)
unfolding number_in
number_range (Unsigned s) bytes are = read_below s (take (len_of s) bytes) (bytes-take (len_of s) bytes are)
number_range (Signed s) bytes are = signed_fits s _ (read_below s (take (len_of s) bytes) (bytes-take (len_of s) bytes are))

-- ---- numbers of some kinds

pub length-values : (ks : List Kind) (v : Values ks) → length (values_bytes ks v) ≡ total ks
length-values [] v = refl
length-values (k ∷ ks) v = omega (arith, length-append (number_bytes k v.0) (values_bytes ks v.1), length_number k v.0, length-values ks v.1)

-- what was spelled is read
pub values_again : (ks : List Kind) (v : Values ks) (more : List ℕ) → AreInRange ks v → values_of ks (values_bytes ks v ++ more) ≡ v
values_again [] v more fits = refl
values_again (k ∷ ks) v more fits =
    let split = append_assoc (number_bytes k v.0) (values_bytes ks v.1) more in
    ap (λ (bytes : List ℕ). let all : Values (k ∷ ks) = (number_in k bytes, values_of ks (drop (size_of k) bytes)) in all) split
    ∙ ap (λ (x : Number k). let all : Values (k ∷ ks) = (x, values_of ks (drop (size_of k) (number_bytes k v.0 ++ (values_bytes ks v.1 ++ more)))) in all)
    (number_again k v.0 (values_bytes ks v.1 ++ more) fits.0)
    ∙ ap (λ (bytes : List ℕ). let all : Values (k ∷ ks) = (v.0, values_of ks bytes) in all) (drop_number k v.0 (values_bytes ks v.1 ++ more))
    ∙ ap (λ (vs : Values ks). let all : Values (k ∷ ks) = (v.0, vs) in all) (values_again ks v.1 more fits.1)

-- what is read was spelled
pub values_back : (ks : List Kind) (bytes : List ℕ) → AreBytes bytes → total ks ≤ length bytes
    → values_bytes ks (values_of ks bytes) ++ drop (total ks) bytes ≡ bytes
values_back [] bytes are enough = refl
values_back (k ∷ ks) bytes are enough =
    let beyond : List ℕ = drop (size_of k) bytes in
    let rest = values_back ks beyond (bytes-drop (size_of k) bytes are) (omega (arith, length-drop (size_of k) bytes)) in
    append_assoc (number_bytes k (number_in k bytes)) (values_bytes ks (values_of ks beyond)) (drop (size_of k + total ks) bytes)
    ∙ ap (λ (x : List ℕ). x ++ (values_bytes ks (values_of ks beyond) ++ drop (size_of k + total ks) bytes)) (number_back k bytes are (omega arith))
    ∙ ap (λ (x : List ℕ). take (size_of k) bytes ++ (values_bytes ks (values_of ks beyond) ++ x)) (sym (drop-drop (total ks) (size_of k) bytes))
    ∙ ap (λ (x : List ℕ). take (size_of k) bytes ++ x) rest
    ∙ take-append-drop (size_of k) bytes

pub values_range : (ks : List Kind) (bytes : List ℕ) → AreBytes bytes → AreInRange ks (values_of ks bytes)
values_range [] bytes are = tt
values_range (k ∷ ks) bytes are = (number_range k bytes are, values_range ks (drop (size_of k) bytes) (bytes-drop (size_of k) bytes are))

-- ---- a number that knows its kind

pub field-short : (f : Field) → length (field_bytes f) ≤ 8
field-short (fields.U8 n) = omega arith
field-short (fields.U16 n) = omega arith
field-short (fields.U32 n) = omega arith
field-short (fields.U64 n) = omega arith
field-short (fields.I16 n) = omega arith
field-short (fields.I32 n) = omega arith
field-short (fields.I64 n) = omega arith
