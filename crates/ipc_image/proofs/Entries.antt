-- Objects with a key: what was read is one.
use Rattle.std.proofs.Common.{◌≡◌, ◌<◌, ◌^◌, ℕ, ℤ, List, ◌++◌, length, sym, ap, subst, ◌∙◌}
use Rattle.std.specs.Prelude.{All, FitsSigned}
use Rattle.std.specs.Int.{w32}
use Rattle.ipc_base.specs.declared.field.Size.{Size}
use Rattle.ipc_base.specs.Numbers.{fields_bytes, FitFields}
use Rattle.ipc_base.proofs.CallerLemmas.{fields_one}
use Rattle.ipc_perm.specs.declared.perm.Perm.{Perm}
use Rattle.ipc_state.specs.Keyed.{KeyedEntry}
use Rattle.ipc_image.specs.Saved.{counted_bytes, head_sizes, head_numbers, entry_bytes, FitsEntry}

module _ {X P : Type 0} (sizes : List Size) (own : X → List ℕ) (part_bytes : P → List ℕ) (FitsPart : P → Type 0) (parts : X → List P) where
  -- what is left after its key and who may use it, and after its numbers
  module _ (e : KeyedEntry X) (fit : FitsEntry sizes own FitsPart parts e) (bytes : List ℕ) (same : bytes ≡ entry_bytes sizes own part_bytes parts e)
      (heads rest : List ℕ) (is : bytes ≡ fields_bytes head_sizes heads ++ rest) (head : FitFields head_sizes heads) where
    pub after-head : rest ≡ fields_bytes sizes (own e.object) ++ counted_bytes part_bytes (parts e.object)
    after-head = (fields_one head_sizes heads (head_numbers e.bound e.perm) rest _ head fit.head (sym is ∙ same)).1

    pub after-numbers : (ns left : List ℕ) → rest ≡ fields_bytes sizes ns ++ left → FitFields sizes ns → left ≡ counted_bytes part_bytes (parts e.object)
    after-numbers ns left next has = (fields_one sizes ns (own e.object) left _ has fit.numbers (sym next ∙ after-head)).1

  -- what was read is one
  pub entry-read : (key : ℤ) (perm : Perm) (x : X) (ns : List ℕ) (ps : List P) (bytes rest left : List ℕ) → FitsSigned w32 key
      → FitFields head_sizes (head_numbers key perm) → bytes ≡ fields_bytes head_sizes (head_numbers key perm) ++ rest
      → FitFields sizes ns → rest ≡ fields_bytes sizes ns ++ left → own x ≡ ns
      → length ps < 2 ^ 32 → All FitsPart ps → left ≡ counted_bytes part_bytes ps → parts x ≡ ps
      → FitsEntry sizes own FitsPart parts (record { bound = key; perm = perm; object = x })
      × (bytes ≡ entry_bytes sizes own part_bytes parts (record { bound = key; perm = perm; object = x }))
  entry-read key perm x ns ps bytes rest left fits head is has next mine few each last its = (
    record {
      key = fits;
      head = head;
      numbers = subst (FitFields sizes) (sym mine) has;
      count = subst (λ (l : List P). length l < 2 ^ 32) (sym its) few;
      parts = subst (All FitsPart) (sym its) each;
    },
    is ∙ ap (λ (l : List ℕ). fields_bytes head_sizes (head_numbers key perm) ++ l) (next ∙ ap (λ (l : List ℕ). fields_bytes sizes ns ++ l) last
        ∙ (λ i. fields_bytes sizes (sym mine i) ++ counted_bytes part_bytes (sym its i))),
  )
