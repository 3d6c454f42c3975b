use Rattle.std.proofs.Common.{◌≡◌, ℕ, List, [], ◌∷◌, ◌++◌, length, get_or, drop, refl, sym, ap, subst, ◌∙◌, arith}
use Rattle.std.proofs.lemmas.List.{take-append-drop}
use Rattle.ipc_base.specs.Numbers.{fields_bytes, FitFields}
use Rattle.ipc_base.proofs.CallerLemmas.{numbers_are}
use Rattle.ipc_wire.specs.Spelling.{request_bytes}
use Rattle.ipc_image.specs.Saved.{waiting_sizes, waiting_numbers}
use Rattle.ipc_image.specs.Relations.Shapes.{too_short}
use Rattle.ipc_image.proofs.waiting.cut_call.Goals as goal

pub returns-in_err-numbers-clause-none : goal.returns-in_err-numbers-clause-none
returns-in_err-numbers-clause-none c =
    rw c.from_residual.ensures (λ w rest fit. c.in_err-numbers.ensures.none (waiting_numbers w) (request_bytes w.call ++ rest) fit.tree.0)

pub returns-in_err-text-clause-none : goal.returns-in_err-text-clause-none
returns-in_err-text-clause-none c =
    let found = c.in_ok-numbers.ensures.some in
    rw c.from_residual-in_err-text.ensures (λ w rest fit same. too_short waiting_sizes 2 c.in_ok-numbers.numbers (waiting_numbers w)
    c.in_ok-numbers.after.now (request_bytes w.call) rest found.0 fit.tree.0 refl (sym found.1 ∙ same) (omega (arith, c.in_err-text.ensures.cases)))

pub returns-clause-some : goal.returns-clause-some
returns-clause-some c =
    let ns : List ℕ = c.in_ok-numbers.numbers in
    let found = c.in_ok-numbers.ensures.some in
    let cut = c.in_ok-text.ensures.cases in
    let same : ns ≡ get_or ns 0 0 ∷ get_or ns 1 0 ∷ length c.in_ok-text.text.now ∷ [] =
    numbers_are waiting_sizes ns found.0 ∙ ap (λ (n : ℕ). get_or ns 0 0 ∷ get_or ns 1 0 ∷ n ∷ []) (sym cut.3) in
    let after = c.in_ok-numbers.after.now in
    let whole : after ≡ c.in_ok-text.text.now ++ c.in_ok-text.rest.now =
    sym (take-append-drop (get_or ns 2 0) after) ∙ ap (λ (l : List ℕ). l ++ drop (get_or ns 2 0) after) (sym cut.1)
    ∙ ap (λ (l : List ℕ). c.in_ok-text.text.now ++ l) (sym cut.2) in (
      subst (FitFields waiting_sizes) same found.0,
      found.1 ∙ ap (λ (l : List ℕ). fields_bytes waiting_sizes l ++ after) same
          ∙ ap (λ (l : List ℕ). fields_bytes waiting_sizes (get_or ns 0 0 ∷ get_or ns 1 0 ∷ length c.in_ok-text.text.now ∷ []) ++ l) whole,
    )
