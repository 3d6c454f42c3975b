-- The table both ways: a request has the row of its opcode, and a row's request is taken apart into what made it.
use Rattle.std.proofs.Common.{◌≡◌, ℕ, ◌+◌, ◌-◌, ◌%◌, ◌≤◌, Bool, true, false, cond, ◌&&◌, eqb, leb, List, [], ◌∷◌, ◌++◌, length, drop, Option, Some, None, refl}
use Rattle.std.proofs.Common.{sym, ap, subst, ◌∙◌, arith, rules}
use Rattle.std.specs.Prelude.{if◌then◌else◌}
use Rattle.std.specs.List.{AllByRecursion}
use Rattle.std.proofs.lemmas.Bool.{eqb-true, leb-true, le-leb, eq-eqb}
use Rattle.std.proofs.lemmas.List.{length-append, length-drop, drop_at}
use Rattle.ipc_base.specs.Numbers.{Values, total, values_of, values_bytes, AreInRange}
use Rattle.ipc_wire.specs.Fields.{Rest, Nothing, Bytes, Units, MayHave, fits}
use Rattle.ipc_wire.specs.Posix as posix
use Rattle.ipc_wire.specs.Request.{PlainKind, Sysv, Posix}
use Rattle.ipc_wire.specs.Request as requests
use Rattle.ipc_wire.specs.Spelling.{opcode_of, fields_of}
use Rattle.ipc_wire.specs.Stream.{fits_row, made_by, made_by_some, kind_of}
use Rattle.ipc_wire.specs.Table.{Row, Parts, rows, row_among, row_of, parts_of}
use Rattle.ipc_base.proofs.CallerLemmas.{AreBytes, length-values, values_again, values_back, values_range}

-- ---- a request and its row

-- what follows the fields
abbrev rest_of : Rest → List ℕ → List ℕ
rest_of Nothing rest = []
rest_of Bytes rest = rest
rest_of (Units size) rest = rest

-- a request has a row, which makes it
record HasRow (kind : PlainKind) : Type 0 where
  row : row_of (parts_of kind).row.opcode ≡ Some (parts_of kind).row
  made : (parts_of kind).row.make (parts_of kind).values (parts_of kind).rest ≡ kind

has_row : (kind : PlainKind) → HasRow kind
has_row (Sysv (requests.SemctlRmid id)) = record { row = refl; made = refl }
has_row (Posix (posix.ShmStat fd)) = record { row = refl; made = refl }
has_row kind = record { row = refl; made = refl }

-- the requests of a row are taken apart into what made them
abbrev Undoes : Row → Type 0
Undoes row = (v : Values row.fields) (rest : List ℕ)
    → parts_of (row.make v (rest_of row.rest rest)) ≡ record { row = row; values = v; rest = rest_of row.rest rest }

each_undoes : AllByRecursion Undoes rows
each_undoes = search rules

-- the row of an opcode among rows that do
record StandsAt (opcode : ℕ) (row : Row) : Type 0 where
  at : row.opcode ≡ opcode
  undoes : Undoes row

row_stands : (rs : List Row) → AllByRecursion Undoes rs → (opcode : ℕ) (row : Row) → row_among rs opcode ≡ Some row → StandsAt opcode row
row_stands [] each opcode row e = cc
row_stands (r ∷ rs) each opcode row e = by_test (eqb opcode r.opcode) refl e (λ later. row_stands rs each.1 opcode row later)
  where
    by_test : (b : Bool) → eqb opcode r.opcode ≡ b → cond b (Some r) (row_among rs opcode) ≡ Some row
        → (row_among rs opcode ≡ Some row → StandsAt opcode row) → StandsAt opcode row
    by_test true is e later =
        let same : r ≡ row = cc in
        subst (λ (known : Row). StandsAt opcode known) same (record { at = sym (eqb-true opcode r.opcode is); undoes = each.0 })
    by_test false is e later = later e

-- ---- what was spelled is read

fits_again : (r : Rest) (n len : ℕ) (rest : List ℕ) → len ≡ n + length rest → MayHave r (length rest) → fits n r len ≡ true
fits_again Nothing n len rest is may = eq-eqb len n (omega arith)
fits_again Bytes n len rest is may = le-leb n len (omega arith)
fits_again (Units size) n len rest is may =
    let left : len - n ≡ length rest = omega arith in
    rw (le-leb n len (omega arith), left) (eq-eqb (length rest % size) 0 may)

row_again : (row : Row) (v : Values row.fields) (rest : List ℕ) → AreInRange row.fields v → MayHave row.rest (length rest)
    → made_by row (values_bytes row.fields v ++ rest) ≡ Some (row.make v rest)
row_again row v rest in_range may =
    let bytes : List ℕ = values_bytes row.fields v ++ rest in
    let size = length-values row.fields v in
    let len : length bytes ≡ total row.fields + length rest = omega (arith, length-append (values_bytes row.fields v) rest, size) in
    let sized : fits_row row bytes ≡ true = fits_again row.rest (total row.fields) (length bytes) rest len may in
    ap (λ (b : Bool). if b then Some (row.make (values_of row.fields bytes) (drop (total row.fields) bytes)) else None) sized
    ∙ ap (λ (x : Values row.fields). Some (row.make x (drop (total row.fields) bytes))) (values_again row.fields v rest in_range)
    ∙ ap (λ (x : List ℕ). Some (row.make v x)) (drop_at (values_bytes row.fields v) rest (total row.fields) size)

pub kind_again : (kind : PlainKind) → AreInRange (parts_of kind).row.fields (parts_of kind).values
    → MayHave (parts_of kind).row.rest (length (parts_of kind).rest) → kind_of (opcode_of kind) (fields_of kind) ≡ Some kind
unfolding kind_of
kind_again kind in_range may =
    let p : Parts = parts_of kind in
    let has = has_row kind in
    ap (λ (r : Option Row). made_by_some r (fields_of kind)) has.row
    ∙ row_again p.row p.values p.rest in_range may
    ∙ ap (λ (k : PlainKind). Some k) has.made

-- ---- what is read was spelled

pub record Spelled (opcode : ℕ) (bytes : List ℕ) (kind : PlainKind) : Type 0 where
  pub opcode_is : opcode_of kind ≡ opcode
  pub fields_are : fields_of kind ≡ bytes
  pub fit : AreInRange (parts_of kind).row.fields (parts_of kind).values
  pub rest : MayHave (parts_of kind).row.rest (length (parts_of kind).rest)

guard_some : (b : Bool) (x y : PlainKind) → cond b (Some x) None ≡ Some y → (b ≡ true) × (x ≡ y)
guard_some true x y e = (refl, cc)
guard_some false x y e = absurd cc

and_both : (a b : Bool) → a && b ≡ true → (a ≡ true) × (b ≡ true)
and_both true b is = (refl, is)
and_both false b is = absurd cc

record Fitting (r : Rest) (n : ℕ) (bytes : List ℕ) : Type 0 where
  enough : n ≤ length bytes
  kept : rest_of r (drop n bytes) ≡ drop n bytes
  may : MayHave r (length (drop n bytes))

nothing : (xs : List ℕ) → length xs ≡ 0 → xs ≡ []
nothing [] is = refl
nothing (x ∷ xs) is = absurd (omega (arith, is))

fitting : (r : Rest) (n : ℕ) (bytes : List ℕ) → fits n r (length bytes) ≡ true → Fitting r n bytes
fitting Nothing n bytes is =
    let same = eqb-true (length bytes) n is in
    let none : length (drop n bytes) ≡ 0 = omega (arith, length-drop n bytes, same) in
    record { enough = omega (arith, same); kept = sym (nothing (drop n bytes) none); may = none }
fitting Bytes n bytes is = record { enough = leb-true _ _ is; kept = refl; may = tt }
fitting (Units size) n bytes is =
    let both = and_both (leb n (length bytes)) (eqb ((length bytes - n) % size) 0) is in
    record { enough = leb-true _ _ both.0; kept = refl; may = ap (λ (k : ℕ). k % size) (length-drop n bytes) ∙ eqb-true _ _ both.1 }

row_back : (opcode : ℕ) (row : Row) (bytes : List ℕ) (kind : PlainKind) → AreBytes bytes → row_of opcode ≡ Some row → made_by row bytes ≡ Some kind
    → Spelled opcode bytes kind
row_back opcode row bytes kind are is e =
    let v : Values row.fields = values_of row.fields bytes in
    let rest : List ℕ = drop (total row.fields) bytes in
    let g = guard_some (fits_row row bytes) (row.make v rest) kind e in
    let size = fitting row.rest (total row.fields) bytes g.0 in
    let stands = row_stands rows each_undoes opcode row is in
    let apart : parts_of (row.make v rest) ≡ record { row = row; values = v; rest = rest } =
    subst (λ (x : List ℕ). parts_of (row.make v x) ≡ record { row = row; values = v; rest = x }) size.kept (stands.undoes v rest) in
    subst (λ (k : PlainKind). Spelled opcode bytes k) g.1
    (record {
      opcode_is = ap (λ (p : Parts). p.row.opcode) apart ∙ stands.at;
      fields_are = ap (λ (p : Parts). values_bytes p.row.fields p.values ++ p.rest) apart ∙ values_back row.fields bytes are size.enough;
      fit = subst (λ (p : Parts). AreInRange p.row.fields p.values) (sym apart) (values_range row.fields bytes are);
      rest = subst (λ (p : Parts). MayHave p.row.rest (length p.rest)) (sym apart) size.may;
    })

pub kind_back : (opcode : ℕ) (bytes : List ℕ) (kind : PlainKind) → AreBytes bytes → kind_of opcode bytes ≡ Some kind → Spelled opcode bytes kind
unfolding kind_of
kind_back opcode bytes kind are e = by_row (row_of opcode) refl e
  where
    by_row : (r : Option Row) → row_of opcode ≡ r → made_by_some r bytes ≡ Some kind → Spelled opcode bytes kind
    by_row None is e = cc
    by_row (Some row) is e = row_back opcode row bytes kind are is e
