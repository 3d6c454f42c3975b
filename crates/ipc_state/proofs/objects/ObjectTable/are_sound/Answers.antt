use Rattle.std.proofs.Common.{sym, subst}
use Rattle.std.specs.Prelude.{All}
use Rattle.std.proofs.lemmas.List.Elements.{All-map}
use Rattle.ipc_state.specs.Tables.{item_row}
use Rattle.ipc_state.proofs.EntryKeys.{All-seen}
use Rattle.ipc_state.proofs.objects.ObjectTable.are_sound.Goals as goal

pub returns-then-are_bound : goal.returns-then-are_bound
returns-then-are_bound g c =
    let P : _ → Type 0 = λ e. g.T.SoundAlone.IsSound c.args.limits.now e.1.object in
    let items = c.items.result.now in
    let h = c.are_bound.ensures.0 c.if-are_bound.true in (
      λ yes. record {
        numbered = h.numbered;
        bounds = h.bounds;
        modes = h.modes;
        each = subst (All P) c.items.ensures (All-map P item_row items (c.each_is_sound.ensures.0 yes));
      },
      λ sound. c.each_is_sound.ensures.1 (All-seen P item_row items (subst (All P) (sym c.items.ensures) sound.each)),
    )

pub returns-else-are_bound : goal.returns-else-are_bound
returns-else-are_bound g c = (
  λ yes. let no = c.if-are_bound.false in cc,
  λ h. c.are_bound.ensures.1 (record { numbered = h.numbered; bounds = h.bounds; modes = h.modes; each = λ k d within. tt }),
)
