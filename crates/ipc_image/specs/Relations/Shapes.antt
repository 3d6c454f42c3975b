-- What is saved is known by its bytes, whatever follows them: proved once, for every shape.
use Rattle.std.proofs.Common.{◌≡◌, ◌<◌, ◌^◌, ℕ, List, [], ◌∷◌, ◌++◌, length, get_or, take, drop}
use Rattle.std.proofs.Common.{refl, sym, ap, ◌∙◌, arith}
use Rattle.std.specs.Prelude.{All}
use Rattle.std.specs.List.{flat_map}
use Rattle.std.proofs.lemmas.List.{append_assoc, length-append, take_at, drop_at}
use Rattle.ipc_base.specs.declared.field.Size.{Size}
use Rattle.ipc_base.specs.declared.field.Size.TheVariants.{Four}
use Rattle.ipc_image.specs.Saved.{counted_bytes}
use Rattle.ipc_base.specs.Numbers.{fields_bytes, FitFields}
use Rattle.ipc_base.proofs.CallerLemmas.{fields_one, spelled-same}
use Rattle.ipc_image.specs.Shape.{Shape, Fields, Texts, Tree, tree_bytes, IsTree}

-- two texts of one length
pub text_one : (s t more others : List ℕ) → length s ≡ length t → s ++ more ≡ t ++ others
    → (s ≡ t) × (more ≡ others)
text_one s t more others long same = (
  sym (take_at s more (length s) refl) ∙ ap (take (length s)) same ∙ take_at t others (length s) (sym long),
  sym (drop_at s more (length s) refl) ∙ ap (drop (length s)) same ∙ drop_at t others (length s) (sym long),
)

-- numbers, and bytes after them
texts_one : (sizes : List Size) (count : List ℕ → ℕ) (ns ms s t more others : List ℕ) → FitFields sizes ns
    → FitFields sizes ms → length s ≡ count ns → length t ≡ count ms
    → fields_bytes sizes ns ++ (s ++ more) ≡ fields_bytes sizes ms ++ (t ++ others)
    → (ns ≡ ms) × (s ≡ t) × (more ≡ others)
texts_one sizes count ns ms s t more others fit also long longs same =
    let first = fields_one sizes ns ms (s ++ more) (t ++ others) fit also same in
    let text = text_one s t more others (long ∙ ap count first.0 ∙ sym longs) first.1 in
    (first.0, text.0, text.1)

-- too few bytes are left for the text
pub too_short : (sizes : List Size) (place : ℕ) (ns ms left text rest : List ℕ) → FitFields sizes ns
    → FitFields sizes ms → length text ≡ get_or ms place 0
    → fields_bytes sizes ns ++ left ≡ fields_bytes sizes ms ++ (text ++ rest) → length left < get_or ns place 0 → ⊥
too_short sizes place ns ms left text rest fit also long same short =
    let both = fields_one sizes ns ms left (text ++ rest) fit also same in
    omega (
      arith,
      short,
      long,
      ap (λ (l : List ℕ). get_or l place 0) both.0,
      ap length both.1,
      length-append text rest,
    )

pub tree_one : (s : Shape) (t u : Tree s) (more others : List ℕ) → IsTree s t → IsTree s u
    → tree_bytes s t ++ more ≡ tree_bytes s u ++ others → (t ≡ u) × (more ≡ others)
tree_one (Fields sizes) t u more others fit also same = fields_one sizes t u more others fit also same
tree_one (Texts sizes count) t u more others fit also same =
    let all = texts_one sizes count t.0 u.0 t.1 u.1 more others fit.0 also.0 fit.1 also.1
    (sym (append_assoc (fields_bytes sizes t.0) t.1 more) ∙ same ∙ append_assoc (fields_bytes sizes u.0) u.1 others) in
    (ap (λ (ns : List ℕ). (ns, t.1)) all.0 ∙ ap (λ (l : List ℕ). (u.0, l)) all.1, all.2)

-- so is what a tree stands for, if two things of one tree are one
pub plain_one : (s : Shape) {X : Type 0} (tree : X → Tree s) (Fits : X → Type 0)
    → ((x : X) → Fits x → IsTree s (tree x)) → ((x y : X) → Fits x → Fits y → tree x ≡ tree y → x ≡ y)
    → (x y : X) (more others : List ℕ) → Fits x → Fits y
    → tree_bytes s (tree x) ++ more ≡ tree_bytes s (tree y) ++ others → (x ≡ y) × (more ≡ others)
plain_one s tree Fits known one x y more others fit also same =
    let trees = tree_one s (tree x) (tree y) more others (known x fit) (known y also) same in
    (one x y fit also trees.0, trees.1)

-- bytes are those of one counted list of such values
pub counted_one : {X : Type 0} (bytes_of : X → List ℕ) (P : X → Type 0)
    → ((x y : X) (more others : List ℕ) → P x → P y → bytes_of x ++ more ≡ bytes_of y ++ others
    → (x ≡ y) × (more ≡ others))
    → (xs ys : List X) → length xs < 2 ^ 32 → length ys < 2 ^ 32 → All P xs → All P ys
    → counted_bytes bytes_of xs ≡ counted_bytes bytes_of ys → xs ≡ ys
counted_one bytes_of P one xs ys few also fit fits same =
    let both = fields_one (Four ∷ []) (length xs ∷ []) (length ys ∷ []) (flat_map bytes_of xs) (flat_map bytes_of ys)
    (few, tt) (also, tt) same in
    let long : length xs ≡ length ys = ap (λ (ns : List ℕ). get_or ns 0 0) both.0 in
    (spelled-same bytes_of P one xs ys [] [] fit fits long (ap (λ (l : List ℕ). l ++ []) both.1)).0
