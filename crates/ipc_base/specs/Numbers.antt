-- Numbers side by side in fields, as frames and saved objects have them: the most significant byte first, signed ones
-- in two's complement. A list of kinds, or of sizes, says what stands there; reading, spelling and length follow from
-- it.
use Rattle.std.specs.Prelude.{◌<◌, ◌+◌, ◌^◌, ℕ, ℤ, List, [], ◌∷◌, ◌++◌, take, drop, FitsSigned}
use Rattle.std.specs.List.{flat_map}
use Rattle.std.specs.Int.{Width, w8, w16, w32, w64, from_be_bytes, to_be_bytes}
use Rattle.ipc_base.specs.Fields.{signed, signed_bytes}
use Rattle.ipc_base.specs.declared.field.Field.{Field}
use Rattle.ipc_base.specs.declared.field.Field.TheVariants as fields
use Rattle.ipc_base.specs.declared.field.Size.{Size}
use Rattle.ipc_base.specs.declared.field.Size.TheVariants.{One, Two, Four, Eight}

-- ---- sizes

abbrev pub width_of : Size → Width
width_of One = w8
width_of Two = w16
width_of Four = w32
width_of Eight = w64

abbrev pub len_of : Size → ℕ
len_of One = 1
len_of Two = 2
len_of Four = 4
len_of Eight = 8

-- each number of the size is below this
abbrev pub most_of : Size → ℕ
most_of One = 2 ^ 8
most_of Two = 2 ^ 16
most_of Four = 2 ^ 32
most_of Eight = 2 ^ 64

-- numbers in the sizes
abbrev pub fields_bytes : List Size → List ℕ → List ℕ
fields_bytes [] numbers = []
fields_bytes (s ∷ sizes) [] = []
fields_bytes (s ∷ sizes) (n ∷ numbers) = to_be_bytes (width_of s) n ++ fields_bytes sizes numbers

-- as many numbers as sizes, each with its place
abbrev pub FitFields : List Size → List ℕ → Type 0
FitFields [] [] = Unit {0}
FitFields [] (n ∷ numbers) = ⊥
FitFields (s ∷ sizes) [] = ⊥
FitFields (s ∷ sizes) (n ∷ numbers) = (n < most_of s) × FitFields sizes numbers

-- ---- kinds

pub data Kind : Type 0 where
  Unsigned Signed : Size → Kind

abbrev pub U8 : Kind
U8 = Unsigned One

abbrev pub U16 : Kind
U16 = Unsigned Two

abbrev pub U32 : Kind
U32 = Unsigned Four

abbrev pub U64 : Kind
U64 = Unsigned Eight

abbrev pub I16 : Kind
I16 = Signed Two

abbrev pub I32 : Kind
I32 = Signed Four

abbrev pub I64 : Kind
I64 = Signed Eight

abbrev pub size_of : Kind → ℕ
size_of (Unsigned s) = len_of s
size_of (Signed s) = len_of s

abbrev pub Number : Kind → Type 0
Number (Unsigned s) = ℕ
Number (Signed s) = ℤ

-- the number that the first bytes spell, its bytes, and its range
unfoldable pub number_in : (k : Kind) → List ℕ → Number k
number_in (Unsigned s) bytes = from_be_bytes (width_of s) (take (len_of s) bytes)
number_in (Signed s) bytes = signed (width_of s) (take (len_of s) bytes)

abbrev pub number_bytes : (k : Kind) → Number k → List ℕ
number_bytes (Unsigned s) n = to_be_bytes (width_of s) n
number_bytes (Signed s) n = signed_bytes (width_of s) n

abbrev pub IsInRange : (k : Kind) → Number k → Type 0
IsInRange (Unsigned s) n = n < most_of s
IsInRange (Signed s) n = FitsSigned (width_of s) n

-- ---- numbers of some kinds

abbrev pub Values : List Kind → Type 0
Values [] = Unit {0}
Values (k ∷ ks) = Number k × Values ks

abbrev pub total : List Kind → ℕ
total [] = 0
total (k ∷ ks) = size_of k + total ks

abbrev pub values_of : (ks : List Kind) → List ℕ → Values ks
values_of [] bytes = tt
values_of (k ∷ ks) bytes = (number_in k bytes, values_of ks (drop (size_of k) bytes))

abbrev pub values_bytes : (ks : List Kind) → Values ks → List ℕ
values_bytes [] values = []
values_bytes (k ∷ ks) values = number_bytes k values.0 ++ values_bytes ks values.1

abbrev pub AreInRange : (ks : List Kind) → Values ks → Type 0
AreInRange [] values = Unit {0}
AreInRange (k ∷ ks) values = IsInRange k values.0 × AreInRange ks values.1

-- ---- numbers that know their kind

abbrev pub field_bytes : Field → List ℕ
field_bytes (fields.U8 n) = number_bytes U8 n
field_bytes (fields.U16 n) = number_bytes U16 n
field_bytes (fields.U32 n) = number_bytes U32 n
field_bytes (fields.U64 n) = number_bytes U64 n
field_bytes (fields.I16 n) = number_bytes I16 n
field_bytes (fields.I32 n) = number_bytes I32 n
field_bytes (fields.I64 n) = number_bytes I64 n

abbrev pub record_bytes : List Field → List ℕ
record_bytes fields = flat_map field_bytes fields
