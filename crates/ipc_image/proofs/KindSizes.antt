-- The objects of a kind: their numbers rise, and how many sectors they take.
use Rattle.std.proofs.Common.{◌≡◌, ℕ, ◌+◌, ◌*◌, ◌≤◌, List, [], ◌∷◌, ◌++◌, length, map, subst, arith}
use Rattle.std.specs.Prelude.{All, sum_by}
use Rattle.std.proofs.lemmas.List.{length-map}
use Rattle.std.proofs.lemmas.List.Elements.{All-map, All-weaker}
use Rattle.std.proofs.lemmas.List.Sums.{sum_by-le}
use Rattle.std.proofs.lemmas.Nat.{mul-le}
use Rattle.ipc_base.specs.Objects.{PlainObjects}
use Rattle.ipc_base.specs.Table.{keys_of, IsRising}
use Rattle.ipc_base.proofs.CallerLemmas.{rising-lower}
use Rattle.ipc_image.specs.Kind.{object_in}
use Rattle.ipc_image.specs.Sizes.{sectors}

-- the numbers of the objects of a kind rise, and those of what follows them
pub objects-rise : {X : Type 0} (first : ℕ) (bytes_of : X → List ℕ) (low high top : ℕ) (es : List (ℕ × X)) (more : PlainObjects)
    → IsRising low (keys_of es) high → IsRising (first + high) (keys_of more) top
    → IsRising (first + low) (keys_of (map (object_in first bytes_of) es ++ more)) top
objects-rise first bytes_of low high top [] more rising rest = rising-lower (first + low) (first + high) (keys_of more) top (omega (arith, rising)) rest
objects-rise first bytes_of low high top (e ∷ es) more rising rest =
    let next : first + (e.0 + 1) ≡ first + e.0 + 1 = omega arith in (
      omega (arith, rising.0),
      subst (λ (n : ℕ). IsRising n (keys_of (map (object_in first bytes_of) es ++ more)) top) next
          (objects-rise first bytes_of (e.0 + 1) high top es more rising.1 rest),
    )

-- the sectors of the objects of a kind
pub kind-sectors : {X : Type 0} (first most bytes : ℕ) (bytes_of : X → List ℕ) (es : List (ℕ × X)) → All (λ e. length (bytes_of e.1) ≤ bytes) es
    → length es ≤ most → sum_by (λ o. sectors (length o.1)) (map (object_in first bytes_of) es) ≤ most * sectors bytes
kind-sectors first most bytes bytes_of es short few =
    let of : ℕ × List ℕ → ℕ = λ o. sectors (length o.1) in
    let objects : PlainObjects = map (object_in first bytes_of) es in
    let each : All (λ o. of o ≤ sectors bytes) objects =
    All-map (λ (o : ℕ × List ℕ). of o ≤ sectors bytes) (object_in first bytes_of) es
    (All-weaker (λ e. length (bytes_of e.1) ≤ bytes) (λ e. of (object_in first bytes_of e) ≤ sectors bytes) (λ e short. omega (arith, short)) es short) in
    let all : length objects ≤ most = omega (arith, few, length-map es (object_in first bytes_of)) in
    omega (arith, sum_by-le of (sectors bytes) objects each, mul-le (length objects) (sectors bytes) most (sectors bytes) all (omega arith))
