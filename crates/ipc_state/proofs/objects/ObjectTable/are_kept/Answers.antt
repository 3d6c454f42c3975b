use Rattle.std.proofs.Common.{◌≡◌, ℕ, List, true, map, sym, ap, subst}
use Rattle.std.specs.Prelude.{All, Bool}
use Rattle.std.specs.Bool.{Decides}
use Rattle.ipc_state.specs.declared.objects.Entry.{Entry}
use Rattle.ipc_state.specs.declared.processes.Process.{Process}
use Rattle.ipc_state.specs.Kinds.{keeps_by}
use Rattle.ipc_state.specs.Opening.{stays_by}
use Rattle.ipc_state.specs.Tables.{item_row}
use Rattle.ipc_state.proofs.SoundMqs.{all-tests}
use Rattle.ipc_state.proofs.objects.ObjectTable.are_kept.Goals as goal

pub returns-then-are_sound : goal.returns-then-are_sound
returns-then-are_sound g c =
    let stay : List (ℕ × Process) → ℕ × Entry _ _ → Bool =
    λ ps. stays_by (λ e. keeps_by g.B.Bound.same g.B.Bound.none e.bound (g.T.Leaves.leaves e.object)) c.args.kind ps in
    let items = c.items.result.now in
    let Each : List (ℕ × Process) → List (ℕ × _) → Type 0 = λ ps es. All (λ e. stay ps e ≡ true) es in
    let ps = map item_row c.items-then-are_sound.result.now in
    let kept = subst (λ qs. Decides c.all_stay.result (Each qs c.args.self.now.objects.entries)) (ap (map item_row) c.items-then-are_sound.ensures)
    (subst (λ es. Decides c.all_stay.result (Each ps es)) c.items.ensures
    (subst (λ (b : Bool). Decides b (Each ps (map item_row items))) (sym c.all_stay.ensures) (all-tests (stay ps) item_row items))) in
    (λ yes. (c.are_sound.ensures.0 c.if-are_sound.true, kept.0 yes), λ h. kept.1 h.1)

pub returns-else-are_sound : goal.returns-else-are_sound
returns-else-are_sound g c = (λ yes. let no = c.if-are_sound.false in cc, λ h. c.are_sound.ensures.1 h.0)
