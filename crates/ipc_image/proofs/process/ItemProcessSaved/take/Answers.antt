use Rattle.std.proofs.Common.{◌≡◌, ◌∙◌, ◌++◌, ◌∷◌, [], List, ℕ, ◌*◌, length, refl, sym, ap, subst, get_or}
use Rattle.std.specs.Prelude.{Err}
use Rattle.std.specs.List.{flat_map}
use Rattle.ipc_base.specs.Numbers.{fields_bytes, FitFields}
use Rattle.ipc_base.proofs.CallerLemmas.{fields_one, numbers_are}
use Rattle.ipc_state.specs.declared.processes.Process.{Process}
use Rattle.ipc_state.specs.Descriptors.{Table}
use Rattle.ipc_image.specs.Saved.{process_sizes, process_numbers, descriptor_bytes}
use Rattle.ipc_image.specs.SavedParts.{process_from, put_processes}
use Rattle.ipc_image.proofs.Marks.{length-each}
use Rattle.ipc_image.proofs.process.ItemProcessSaved.take.Goals as goal

pub returns-in_err-numbers-clause-damaged : goal.returns-in_err-numbers-clause-damaged
returns-in_err-numbers-clause-damaged c is p rest fit =
    let none = rw c.in_err-numbers.ensures.ok_part at c.take_fields.ensures.none in
    none (process_numbers p) (flat_map descriptor_bytes p.1.descriptors ++ rest) fit.0.0

pub returns-in_err-rest-clause-damaged : goal.returns-in_err-rest-clause-damaged
returns-in_err-rest-clause-damaged c is p rest fit same =
    let ns : List ℕ = c.in_ok-numbers.numbers in
    let found = rw c.in_ok-numbers.ensures.ok_part at c.take_fields.ensures.some in
    let why = rw is at c.from_residual-in_err-rest.ensures in
    let both = fields_one process_sizes ns (process_numbers p) c.in_ok-numbers.after.now (flat_map descriptor_bytes p.1.descriptors ++ rest) found.0
    fit.0.0 (sym found.1 ∙ same) in
    c.in_err-rest.ensures.damaged (ap (λ e. Err e) (sym why.1)) p.1.descriptors rest (sym (ap (λ (l : List ℕ). get_or l 3 0) both.0)) fit.1 both.1

pub returns-clause-ok : goal.returns-clause-ok
returns-clause-ok c =
    let ns : List ℕ = c.in_ok-numbers.numbers in
    let found = rw c.in_ok-numbers.ensures.ok_part at c.take_fields.ensures.some in
    let read = c.in_ok-rest.ensures.ok in
    let s = c.args.into.now in
    let ds : Table = read.0 in
    let made = read.4 ∙ ap (λ (t : Table). t ++ ds) c.in_ok-descriptors.ensures in
    let p : ℕ × Process = process_from ns ds in
    let same : ns ≡ process_numbers p =
    numbers_are process_sizes ns found.0 ∙ ap (λ (n : ℕ). get_or ns 0 0 ∷ get_or ns 1 0 ∷ get_or ns 2 0 ∷ n ∷ []) (sym read.2) in
    let long : length (flat_map descriptor_bytes ds) ≡ 16 * length ds = length-each descriptor_bytes 16 (λ d. refl) ds in (
      p,
      ((subst (FitFields process_sizes) same found.0, long), read.1),
      found.1 ∙ ap (λ (l : List ℕ). fields_bytes process_sizes ns ++ l) read.3
          ∙ ap (λ (l : List ℕ). fields_bytes process_sizes l ++ (flat_map descriptor_bytes ds ++ c.in_ok-rest.rest.now)) same,
      (λ i. (c.in_ok-restore_process.ensures.state i, c.in_ok-restore_process.ensures.limits i))
          ∙ ap (λ (t : Table). put_processes (s.state, s.limits) (s.state.processes.entries ++ process_from ns t ∷ [])) made,
    )
