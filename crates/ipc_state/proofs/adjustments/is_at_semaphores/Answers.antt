use Rattle.std.proofs.Common.{◌≡◌, ℤ, Bool, List, ap, sym, ◌∙◌}
use Rattle.std.specs.FinMap as fin
use Rattle.std.specs.List.{list_all}
use Rattle.std.proofs.lemmas.List.Folds.{list_all-map}
use Rattle.sem_undo.specs.Undo.{Key, entry_of}
use Rattle.ipc_state.specs.Sound.{has_semaphore}
use Rattle.ipc_state.proofs.Adjusting.{told-at}
use Rattle.ipc_state.proofs.adjustments.is_at_semaphores.Goals as goal

pub returns : goal.returns
returns c =
    let has : Key × ℤ → Bool = λ a. has_semaphore c.args.sets.now.objects a.0 in
    let is : c.have_semaphores.result ≡ list_all has (fin.entries c.args.item.now.value) =
    c.have_semaphores.ensures ∙ sym (list_all-map has entry_of c.rows.result.now) ∙ ap (λ (es : List (Key × ℤ)). list_all has es) c.rows.ensures.rows in
    let told = told-at c.args.sets.now.objects c.args.item.now.value in (
      λ yes. (told.0 (sym is ∙ yes), c.rows.ensures.sound),
      λ are. is ∙ told.1 are.0,
    )
