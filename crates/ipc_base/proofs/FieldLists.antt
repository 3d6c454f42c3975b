-- Fields side by side are those numbers and no others, and what a reader finds of them.
use Rattle.std.proofs.Common.{◌≡◌, ◌≢◌, ◌<◌, ◌+◌, ℕ, zero, suc, List, [], ◌∷◌, ◌++◌, length, take, drop, get_or, set, refl, sym, ◌∙◌, ap, subst, arith}
use Rattle.std.proofs.Math.Seq.{drop-cons}
use Rattle.std.proofs.lemmas.List.{append_assoc, append-nil, take-append-drop, take_more, take_more_set, take_all, drop_all}
use Rattle.std.specs.Int.{to_be_bytes}
use Rattle.ipc_base.specs.declared.field.Size.{Size}
use Rattle.ipc_base.specs.Numbers.{width_of, most_of, fields_bytes, FitFields}
use Rattle.ipc_base.proofs.Numbers.{number_one}

-- two lists of numbers with the same bytes
pub fields_one : (sizes : List Size) (ns ms more others : List ℕ) → FitFields sizes ns → FitFields sizes ms
    → fields_bytes sizes ns ++ more ≡ fields_bytes sizes ms ++ others → (ns ≡ ms) × (more ≡ others)
fields_one [] [] [] more others fit also same = (refl, same)
fields_one [] [] (m ∷ ms) more others fit also same = absurd also
fields_one [] (n ∷ ns) ms more others fit also same = absurd fit
fields_one (s ∷ sizes) [] ms more others fit also same = absurd fit
fields_one (s ∷ sizes) (n ∷ ns) [] more others fit also same = absurd also
fields_one (s ∷ sizes) (n ∷ ns) (m ∷ ms) more others fit also same =
    let w = to_be_bytes (width_of s) in
    let first = number_one s n m (fields_bytes sizes ns ++ more) (fields_bytes sizes ms ++ others) fit.0 also.0
    (sym (append_assoc (w n) (fields_bytes sizes ns) more) ∙ same ∙ append_assoc (w m) (fields_bytes sizes ms) others) in
    let next = fields_one sizes ns ms more others fit.1 also.1 first.1 in
    (ap (λ (k : ℕ). k ∷ ns) first.0 ∙ ap (λ (l : List ℕ). m ∷ l) next.0, next.1)

-- ---- a reader's way

-- these numbers were taken
pub record Taken (sizes : List Size) (numbers bytes left : List ℕ) : Type 0 where
  pub fit : FitFields sizes numbers
  pub are : bytes ≡ fields_bytes sizes numbers ++ left

fit_push : (sizes : List Size) (s : Size) (ns : List ℕ) (n : ℕ) → FitFields sizes ns → n < most_of s
    → FitFields (sizes ++ s ∷ []) (ns ++ n ∷ [])
fit_push [] s [] n fit lt = (lt, tt)
fit_push [] s (m ∷ ns) n fit lt = absurd fit
fit_push (t ∷ sizes) s [] n fit lt = absurd fit
fit_push (t ∷ sizes) s (m ∷ ns) n fit lt = (fit.0, fit_push sizes s ns n fit.1 lt)

fields_push : (sizes : List Size) (s : Size) (ns : List ℕ) (n : ℕ) → FitFields sizes ns
    → fields_bytes (sizes ++ s ∷ []) (ns ++ n ∷ []) ≡ fields_bytes sizes ns ++ to_be_bytes (width_of s) n
fields_push [] s [] n fit = append-nil (to_be_bytes (width_of s) n)
fields_push [] s (m ∷ ns) n fit = absurd fit
fields_push (t ∷ sizes) s [] n fit = absurd fit
fields_push (t ∷ sizes) s (m ∷ ns) n fit =
    ap (λ (l : List ℕ). to_be_bytes (width_of t) m ++ l) (fields_push sizes s ns n fit.1)
    ∙ sym (append_assoc (to_be_bytes (width_of t) m) (fields_bytes sizes ns) (to_be_bytes (width_of s) n))

taken_push : (sizes : List Size) (s : Size) (ns : List ℕ) (n : ℕ) (bytes left rest : List ℕ) → Taken sizes ns bytes left
    → n < most_of s → left ≡ to_be_bytes (width_of s) n ++ rest → Taken (sizes ++ s ∷ []) (ns ++ n ∷ []) bytes rest
taken_push sizes s ns n bytes left rest taken lt is = record {
  fit = fit_push sizes s ns n taken.fit lt;
  are =
      taken.are ∙ ap (λ (l : List ℕ). fields_bytes sizes ns ++ l) is
      ∙ sym (append_assoc (fields_bytes sizes ns) (to_be_bytes (width_of s) n) rest)
      ∙ ap (λ (l : List ℕ). l ++ rest) (sym (fields_push sizes s ns n taken.fit));
}

-- one more of them
pub taken_next : (sizes : List Size) (i n : ℕ) (d : Size) (ns bytes left rest : List ℕ) → i < length sizes → i < length ns
    → Taken (take i sizes) (take i ns) bytes left → n < most_of (get_or sizes i d)
    → left ≡ to_be_bytes (width_of (get_or sizes i d)) n ++ rest → Taken (take (i + 1) sizes) (take (i + 1) (set ns i n)) bytes rest
taken_next sizes i n d ns bytes left rest within also taken lt is =
    let next = taken_push (take i sizes) (get_or sizes i d) (take i ns) n bytes left rest taken lt is in
    rw (take_more sizes i d within, take_more_set ns i n also) next

-- the number that stands next, if the fields are there
stuck : (front : List Size) (s : Size) (tail : List Size) (ns ms bytes left rest : List ℕ) → Taken front ns bytes left
    → FitFields (front ++ s ∷ tail) ms → bytes ≡ fields_bytes (front ++ s ∷ tail) ms ++ rest
    → (n : ℕ) × (more : List ℕ) × (n < most_of s) × (left ≡ to_be_bytes (width_of s) n ++ more)
stuck [] s tail [] [] bytes left rest taken fit is = absurd fit
stuck [] s tail [] (m ∷ ms) bytes left rest taken fit is =
    (m, fields_bytes tail ms ++ rest, fit.0, sym taken.are ∙ is ∙ append_assoc (to_be_bytes (width_of s) m) (fields_bytes tail ms) rest)
stuck [] s tail (n ∷ ns) ms bytes left rest taken fit is = absurd taken.fit
stuck (f ∷ front) s tail [] ms bytes left rest taken fit is = absurd taken.fit
stuck (f ∷ front) s tail (n ∷ ns) [] bytes left rest taken fit is = absurd fit
stuck (f ∷ front) s tail (n ∷ ns) (m ∷ ms) bytes left rest taken fit is =
    let w = to_be_bytes (width_of f) in
    let same = number_one f n m (fields_bytes front ns ++ left) (fields_bytes (front ++ s ∷ tail) ms ++ rest) taken.fit.0 fit.0
    (sym (append_assoc (w n) (fields_bytes front ns) left) ∙ sym taken.are ∙ is
    ∙ append_assoc (w m) (fields_bytes (front ++ s ∷ tail) ms) rest) in
    stuck front s tail ns ms (fields_bytes front ns ++ left) left rest (record { fit = taken.fit.1; are = refl }) fit.1 same.1

pub none_next : (sizes : List Size) (i : ℕ) (d : Size) (ns bytes left : List ℕ) → i < length sizes
    → Taken (take i sizes) (take i ns) bytes left
    → ((n : ℕ) (rest : List ℕ) → n < most_of (get_or sizes i d) → left ≢ to_be_bytes (width_of (get_or sizes i d)) n ++ rest)
    → (ms rest : List ℕ) → FitFields sizes ms → bytes ≢ fields_bytes sizes ms ++ rest
none_next sizes i d ns bytes left within taken none ms rest fit is =
    let whole : sizes ≡ take i sizes ++ get_or sizes i d ∷ drop (suc i) sizes =
    sym (take-append-drop i sizes) ∙ ap (λ (l : List Size). take i sizes ++ l) (drop-cons sizes i d within) in
    let found = stuck (take i sizes) (get_or sizes i d) (drop (suc i) sizes) (take i ns) ms bytes left rest taken
    (subst (λ (l : List Size). FitFields l ms) whole fit) (is ∙ ap (λ (l : List Size). fields_bytes l ms ++ rest) whole) in
    none found.0 found.1 found.2 found.3

pub taken_all : (sizes : List Size) (n : ℕ) (ns bytes left : List ℕ) → length sizes ≡ n → length ns ≡ n
    → Taken (take n sizes) (take n ns) bytes left → Taken sizes ns bytes left
taken_all sizes n ns bytes left long also taken =
    rw (sym (take_all n sizes (omega (arith, long))), sym (take_all n ns (omega (arith, also)))) taken

-- ---- numbers by their places

-- so many items from a place on
abbrev pub listed : ℕ → ℕ → List ℕ → List ℕ
listed zero i ns = []
listed (suc n) i ns = get_or ns i 0 ∷ listed n (suc i) ns

pub listed-drop : (n i : ℕ) (ns : List ℕ) → length ns ≡ i + n → drop i ns ≡ listed n i ns
listed-drop zero i ns long = drop_all i ns (omega (arith, long))
listed-drop (suc n) i ns long =
    drop-cons ns i 0 (omega (arith, long)) ∙ ap (λ (l : List ℕ). get_or ns i 0 ∷ l) (listed-drop n (suc i) ns (omega (arith, long)))

pub length-fit : (sizes : List Size) (ns : List ℕ) → FitFields sizes ns → length ns ≡ length sizes
length-fit [] [] fit = refl
length-fit [] (n ∷ ns) fit = absurd fit
length-fit (s ∷ sizes) [] fit = absurd fit
length-fit (s ∷ sizes) (n ∷ ns) fit = omega (arith, length-fit sizes ns fit.1)

-- the numbers of some sizes are those at their places
pub numbers_are : (sizes : List Size) (ns : List ℕ) → FitFields sizes ns → ns ≡ listed (length sizes) 0 ns
numbers_are sizes ns fit = listed-drop (length sizes) 0 ns (omega (arith, length-fit sizes ns fit))
