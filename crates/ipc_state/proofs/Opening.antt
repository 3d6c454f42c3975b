-- The lowest number that is not in use, and a table with a descriptor more under it.
use Rattle.std.proofs.Common.{◌≡◌, ℕ, zero, suc, ◌+◌, ◌<◌, ◌≤◌, Bool, true, false, List, [], ◌∷◌, length, map}
use Rattle.std.proofs.Common.{Option, Some, None, refl, ap, arith}
use Rattle.std.specs.Prelude.{nat_eq, nat_lt, if◌then◌else◌, position}
use Rattle.std.specs.Option.{IsSome}
use Rattle.std.specs.List.{insert}
use Rattle.std.proofs.lemmas.Bool.Decides.{nat_tests}
use Rattle.ipc_base.specs.Table.{keys_of, value_at, with_value, with_entry, IsRising}
use Rattle.ipc_base.proofs.CallerLemmas.{choice, nobody, rising-lower, rising-missing}
use Rattle.ipc_state.specs.declared.descriptors.DescriptorRow.{DescriptorRow}
use Rattle.ipc_state.specs.declared.descriptors.Descriptor.{Descriptor}
use Rattle.ipc_state.specs.Descriptors.{Table, unused_from, with_flags, descriptor_row}

abbrev table_of : List DescriptorRow → Table
table_of rows = map descriptor_row rows

least : (low : ℕ) (es : Table) → low ≤ unused_from low es
least low [] = omega arith
least low (e ∷ es) =
    choice (λ n. low ≤ n) (nat_eq e.0 low) (unused_from (low + 1) es) low (λ _. omega (arith, least (low + 1) es)) (λ _. omega arith)

pub few : (low : ℕ) (es : Table) → unused_from low es ≤ low + length es
few low [] = omega arith
few low (e ∷ es) =
    choice (λ n. n ≤ low + length (e ∷ es)) (nat_eq e.0 low) (unused_from (low + 1) es) low
    (λ _. omega (arith, few (low + 1) es)) (λ _. omega arith)

pub unused : (low : ℕ) (es : Table) (high : ℕ) → IsRising low (keys_of es) high → value_at nat_eq es (unused_from low es) ≡ None
unused low [] high rising = refl
unused low (e ∷ es) high rising =
    choice (λ n. value_at nat_eq (e ∷ es) n ≡ None) (nat_eq e.0 low) (unused_from (low + 1) es) low
    (λ is. let above = least (low + 1) es in
    let apart : nat_eq e.0 (unused_from (low + 1) es) ≡ false = grind (arith, nat_tests) in
    rw apart (unused (low + 1) es high (rising-lower (low + 1) (e.0 + 1) (keys_of es) high (omega (arith, rising.0)) rising.1)))
    (λ is. let above : low + 1 ≤ e.0 = grind (arith, nat_tests, is, rising.0) in
    nobody _ (rising-missing (low + 1) (e ∷ es) high low (above, rising.1) (omega arith)))

pub in_use : (low : ℕ) (es : Table) (fd : ℕ) → low ≤ fd → fd < unused_from low es → IsSome (value_at nat_eq es fd)
in_use low [] fd le lt = absurd (omega arith)
in_use low (e ∷ es) fd le lt = by_test (nat_eq e.0 low) refl lt (in_use (low + 1) es fd)
  where
    by_test : (b : Bool) → nat_eq e.0 low ≡ b → fd < (if b then unused_from (low + 1) es else low)
        → (low + 1 ≤ fd → fd < unused_from (low + 1) es → IsSome (value_at nat_eq es fd)) → IsSome (value_at nat_eq (e ∷ es) fd)
    by_test true is lt rest =
        choice IsSome (nat_eq e.0 fd) (Some e.1) (value_at nat_eq es fd) (λ _. refl) (λ other. rest (grind (arith, nat_tests)) lt)
    by_test false is lt rest = absurd (omega arith)

-- the rows with one more at the place of the lowest number
pub put-in : (low : ℕ) (rows : List DescriptorRow) (high place : ℕ) (new : DescriptorRow) → IsRising low (keys_of (table_of rows)) high
    → low + place ≡ unused_from low (table_of rows) → new.fd ≡ low + place
    → table_of (insert rows place new) ≡ with_entry (table_of rows) new.fd new.descriptor
put-in low [] high zero new rising is fd = refl
put-in low [] high (suc p) new rising is fd = absurd (omega arith)
put-in low (r ∷ rs) high place new rising is fd =
    by_test (nat_eq r.fd low) refl place is fd (λ p. put-in (low + 1) rs high p new
    (rising-lower (low + 1) (r.fd + 1) (keys_of (table_of rs)) high (omega (arith, rising.0)) rising.1))
  where
    by_test : (b : Bool) → nat_eq r.fd low ≡ b → (place : ℕ) → low + place ≡ (if b then unused_from (low + 1) (table_of rs) else low)
        → new.fd ≡ low + place
        → ((p : ℕ) → low + 1 + p ≡ unused_from (low + 1) (table_of rs) → new.fd ≡ low + 1 + p
        → table_of (insert rs p new) ≡ with_entry (table_of rs) new.fd new.descriptor)
        → table_of (insert (r ∷ rs) place new) ≡ with_entry (table_of (r ∷ rs)) new.fd new.descriptor
    by_test true t zero is fd rest = absurd (omega (arith, least (low + 1) (table_of rs), is))
    by_test true t (suc p) is fd rest =
        let beyond : nat_lt new.fd r.fd ≡ false = grind (arith, nat_tests) in
        rw beyond (ap (λ (es : Table). descriptor_row r ∷ es) (rest p (omega (arith, is)) (omega (arith, fd))))
    by_test false t zero is fd rest = let before : nat_lt new.fd r.fd ≡ true = grind (arith, nat_tests, rising.0) in rw before refl
    by_test false t (suc p) is fd rest = absurd (omega (arith, is))

pub one_more : (es : Table) (fd : ℕ) (d : Descriptor) → length (with_entry es fd d) ≡ length es + 1
one_more [] fd d = refl
one_more (e ∷ es) fd d =
    choice (λ (t : Table). length t ≡ length (e ∷ es) + 1) (nat_lt fd e.0) ((fd, d) ∷ e ∷ es) (e ∷ with_entry es fd d)
    (λ _. omega arith) (λ _. omega (arith, one_more es fd d))

-- ---- a row by its number

abbrev pub place_in : ℕ → List DescriptorRow → Option ℕ
place_in fd rows = position (λ (r : DescriptorRow). nat_eq r.fd fd) rows

pub flagged : (es : Table) (fd flags : ℕ) (d : Descriptor) → value_at nat_eq es fd ≡ Some d
    → with_flags es fd flags ≡ with_value nat_eq es fd (record d { flags = flags })
flagged es fd flags d is = rw is refl

-- the numbers of some rows
pub row-numbers : (rows : List DescriptorRow) → keys_of (table_of rows) ≡ map (λ (r : DescriptorRow). r.fd) rows
row-numbers [] = refl
row-numbers (r ∷ rows) = ap (λ (ns : List ℕ). r.fd ∷ ns) (row-numbers rows)
