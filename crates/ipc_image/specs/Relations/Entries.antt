-- A thing with a key is known by the bytes of its object.
use Rattle.std.proofs.Common.{◌≡◌, ℕ, ℤ, List, ◌++◌, get_or, sym, ap, ◌∙◌}
use Rattle.std.specs.Prelude.{FitsSigned}
use Rattle.std.specs.Int.{w32, cast_signed}
use Rattle.std.proofs.lemmas.Int.{to_z-of_z}
use Rattle.ipc_base.specs.declared.field.Size.{Size}
use Rattle.ipc_base.proofs.CallerLemmas.{fields_one}
use Rattle.ipc_state.specs.Keyed.{KeyedEntry}
use Rattle.ipc_image.specs.Saved.{head_sizes, head_numbers, entry_bytes, FitsEntry}
use Rattle.ipc_image.specs.SavedParts.{perm_from}
use Rattle.ipc_image.specs.Relations.Shapes.{counted_one}

pub entry_one : {X P : Type 0} (sizes : List Size) (own : X → List ℕ) (part_bytes : P → List ℕ)
    (FitsPart : P → Type 0) (parts : X → List P)
    → ((x y : P) (more others : List ℕ) → FitsPart x → FitsPart y → part_bytes x ++ more ≡ part_bytes y ++ others
    → (x ≡ y) × (more ≡ others))
    → (from : List ℕ → List P → X) → ((x : X) → from (own x) (parts x) ≡ x)
    → (e f : KeyedEntry X) → FitsEntry sizes own FitsPart parts e → FitsEntry sizes own FitsPart parts f
    → entry_bytes sizes own part_bytes parts e ≡ entry_bytes sizes own part_bytes parts f → e ≡ f
entry_one {X} sizes own part_bytes FitsPart parts one from back e f fit also same =
    let head = fields_one head_sizes (head_numbers e.bound e.perm) (head_numbers f.bound f.perm) _ _ fit.head also.head
    same in
    let numbers = fields_one sizes (own e.object) (own f.object) _ _ fit.numbers also.numbers head.1 in
    let its = counted_one part_bytes FitsPart one (parts e.object) (parts f.object) fit.count also.count fit.parts
    also.parts numbers.1 in
    let object : e.object ≡ f.object =
    sym (back e.object) ∙ ap (λ (ns : List ℕ). from ns (parts e.object)) numbers.0
    ∙ ap (from (own f.object)) its ∙ back f.object in
    let made : List ℕ → X → KeyedEntry X =
    λ ns x. record { bound = cast_signed w32 (get_or ns 0 0); perm = perm_from ns; object = x } in
    let known : (d : KeyedEntry X) → FitsSigned w32 d.bound → made (head_numbers d.bound d.perm) d.object ≡ d =
    λ d fits. ap (λ (k : ℤ). record { bound = k; perm = d.perm; object = d.object }) (to_z-of_z w32 d.bound fits) in
    sym (known e fit.key) ∙ ap (λ (ns : List ℕ). made ns e.object) head.0
    ∙ ap (made (head_numbers f.bound f.perm)) object ∙ known f also.key
