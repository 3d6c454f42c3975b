use Rattle.std.proofs.Common.{◌≡◌, ℕ, Bool, false, List, Option, map, subst, sym, ap, ◌∙◌}
use Rattle.std.specs.Bool.{Decides}
use Rattle.std.specs.FinMap as fin
use Rattle.ipc_limits.specs.Limits.{adjustment_limit, exceeds}
use Rattle.ipc_base.specs.Table.{EachValue}
use Rattle.sem_undo.specs.Undo.{Undo, IsSoundUndo}
use Rattle.sysv_sem.specs.Set.{Set}
use Rattle.ipc_state.specs.Held.{Held}
use Rattle.ipc_state.specs.Keyed.{Keyed}
use Rattle.ipc_state.specs.Sound.{AreAt, AreFew}
use Rattle.ipc_state.specs.Tables.{item_row}
use Rattle.ipc_state.proofs.Adjusting.{few-decides, told-each, tells-each}
use Rattle.ipc_state.proofs.state.State.are_adjustments_kept.Goals.{After-are_at_semaphores}
use Rattle.ipc_state.proofs.state.State.are_adjustments_kept.Goals as goal

-- those of each are at semaphores of these sets, in their range and not 0
abbrev Are : Keyed Set → List (ℕ × Undo) → Type 0
Are sets us = EachValue (AreAt sets) us × EachValue IsSoundUndo us

-- there are no more than a limit
abbrev AreWithin : Option ℕ → Undo → Type 0
AreWithin limit u = exceeds (fin.len u) limit ≡ false

placed : (c : After-are_at_semaphores) → Decides c.are_at_semaphores.result (Are c.args.self.now.state.semset c.args.self.now.state.undo)
placed c =
    let s = c.args.self.now.state in
    let sets = c.self.inside.semset.objects in
    let items = c.items.result.now in
    let is = ap (map item_row) c.items.ensures ∙ ap (λ (m : Held). m.state.undo) c.self.view_is in
    let at = ap (λ (m : Held). m.state.semset) c.self.view_is in (
      λ yes.
          let each : Are sets (map item_row items) = told-each sets items (c.are_at_semaphores.ensures.0 yes) in
          subst (Are s.semset) is (subst (λ (o : Keyed Set). Are o (map item_row items)) at each),
      λ here.
          c.are_at_semaphores.ensures.1 (tells-each sets items
          (subst (λ (o : Keyed Set). Are o (map item_row items)) (sym at) (subst (Are s.semset) (sym is) here))),
    )

pub returns-then-are_at_semaphores : goal.returns-then-are_at_semaphores
returns-then-are_at_semaphores c =
    let s = c.args.self.now in
    let items = c.items-then-are_at_semaphores.result.now in
    let is = ap (map item_row) c.items-then-are_at_semaphores.ensures ∙ ap (λ (m : Held). m.state.undo) c.self.view_is in
    let limit = c.adjustment_limit.ensures ∙ ap (λ (m : Held). adjustment_limit m.limits) c.self.view_is in
    let told = few-decides c.adjustment_limit.result items in
    let few : Decides c.are_few.result (EachValue (AreFew s.limits) s.state.undo) =
    subst (λ (b : Bool). Decides b (EachValue (AreFew s.limits) s.state.undo)) (sym c.are_few.ensures) (
      λ yes. subst (λ (us : List (ℕ × Undo)). EachValue (AreFew s.limits) us) is
          (subst (λ (o : Option ℕ). EachValue (AreWithin o) (map item_row items)) limit (told.0 yes)),
      λ each. told.1 (subst (λ (o : Option ℕ). EachValue (AreWithin o) (map item_row items)) (sym limit)
          (subst (λ (us : List (ℕ × Undo)). EachValue (AreFew s.limits) us) (sym is) each)),
    ) in
    let here = (placed ((goal.at.returns-then-are_at_semaphores c).After-are_at_semaphores)).0 c.if-are_at_semaphores.true in
    (λ yes. (here.0, here.1, few.0 yes), λ h. few.1 h.2)

pub returns-else-are_at_semaphores : goal.returns-else-are_at_semaphores
returns-else-are_at_semaphores c = (
  λ yes. let no = c.if-are_at_semaphores.false in cc,
  λ h. (placed ((goal.at.returns-else-are_at_semaphores c).After-are_at_semaphores)).1 (h.0, h.1),
)
