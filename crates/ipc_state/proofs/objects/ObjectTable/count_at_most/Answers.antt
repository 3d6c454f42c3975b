use Rattle.std.proofs.Common.{◌≡◌, ◌∙◌, ℕ, map, sym, ap, subst, arith}
use Rattle.std.specs.Prelude.{◌≤◌, sum_by, sum}
use Rattle.std.specs.Bool.{Decides}
use Rattle.std.proofs.lemmas.List.Sums.{sum-map}
use Rattle.std.proofs.lemmas.Simd.{map-map}
use Rattle.ipc_state.specs.declared.objects.Entry.{Entry}
use Rattle.ipc_state.specs.Tables.{HeldObjects, item_row}
use Rattle.ipc_state.proofs.objects.ObjectTable.count_at_most.Goals as goal

pub returns : goal.returns
returns g c =
    let items = c.items.result.now in
    let size : ℕ × Entry _ _ → ℕ = λ e. g.T.Counted.count e.1.object in
    let count : sum_by (λ e. size (item_row e)) items ≡ sum_by size (map item_row c.self.inside.objects.items.items) =
    sym (sum-map (λ e. size (item_row e)) items) ∙ ap sum (sym (map-map size item_row items)) ∙ sum-map size (map item_row items)
    ∙ ap (λ es. sum_by size (map item_row es)) c.items.ensures in
    subst (λ (h : HeldObjects _ _). Decides c.are_few.result (sum_by size h.objects.entries ≤ c.args.most)) c.self.view_is (
      λ yes. omega (arith, count, c.are_few.ensures.0 yes),
      λ few. c.are_few.ensures.1 (omega (arith, count, few)),
    )
