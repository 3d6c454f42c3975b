use Rattle.std.proofs.Common.{◌≡◌, ◌∙◌, ◌++◌, ◌∷◌, [], List, ℕ, sym, ap, subst, get_or}
use Rattle.ipc_base.specs.Numbers.{fields_bytes, FitFields}
use Rattle.ipc_base.proofs.CallerLemmas.{fields_one, numbers_are}
use Rattle.ipc_state.specs.declared.descriptors.Descriptor.{Descriptor}
use Rattle.ipc_state.specs.Opening.{object_as}
use Rattle.ipc_image.specs.Saved.{descriptor_sizes, descriptor_numbers}
use Rattle.ipc_image.proofs.process.DescriptorRowSaved.take.Goals as goal

pub returns-in_err-numbers-clause-damaged : goal.returns-in_err-numbers-clause-damaged
returns-in_err-numbers-clause-damaged c is d rest fit =
    let none = rw c.in_err-numbers.ensures.ok_part at c.take_fields.ensures.none in
    none (descriptor_numbers d) rest fit

pub returns-in_default-clause-damaged : goal.returns-in_default-clause-damaged
returns-in_default-clause-damaged c is d rest fit same =
    let ns : List ℕ = c.in_ok-numbers.numbers in
    let found = rw c.in_ok-numbers.ensures.ok_part at c.take_fields.ensures.some in
    let both = fields_one descriptor_sizes ns (descriptor_numbers d) c.in_ok-numbers.rest.now rest found.0 fit (sym found.1 ∙ same) in
    c.in_default.ensures.none d.1.on.kind (ap (λ (l : List ℕ). get_or l 1 0) both.0)

pub returns-clause-ok : goal.returns-clause-ok
returns-clause-ok c =
    let ns : List ℕ = c.in_ok-numbers.numbers in
    let found = rw c.in_ok-numbers.ensures.ok_part at c.take_fields.ensures.some in
    let is = c.in-Some.ensures.some in
    let d : ℕ × Descriptor = (get_or ns 0 0, record { on = object_as c.in-Some.kind (get_or ns 2 0); flags = get_or ns 3 0 }) in
    let same : ns ≡ descriptor_numbers d =
    numbers_are descriptor_sizes ns found.0 ∙ ap (λ (n : ℕ). get_or ns 0 0 ∷ n ∷ get_or ns 2 0 ∷ get_or ns 3 0 ∷ []) is in (
      d,
      subst (FitFields descriptor_sizes) same found.0,
      found.1 ∙ ap (λ (l : List ℕ). fields_bytes descriptor_sizes l ++ c.in_ok-numbers.rest.now) same,
      c.in_ok-restore.ensures.ok,
    )
