use Rattle.std.proofs.Common.{subst, sym}
use Rattle.std.proofs.lemmas.List.Elements.{All-more}
use Rattle.ipc_state.specs.declared.numbered.Item.{Item}
use Rattle.ipc_state.proofs.sound.each_is_sound.Goals as goal

pub loop-item-preserved : goal.loop-item-preserved
loop-item-preserved g c =
    let P : Item _ → Type 0 = λ e. g.T.SoundAlone.IsSound c.args.limits.now e.value in
    All-more P c.args.items.now c.loop-item.item-index c.item-item.result c.loop-item-test.true c.loop-item.invariant
    (subst P c.item-item.is (c.is_sound.ensures.0 c.if-not-is_sound.false))

pub returns-then-not-is_sound : goal.returns-then-not-is_sound
returns-then-not-is_sound g c =
    let P : Item _ → Type 0 = λ e. g.T.SoundAlone.IsSound c.args.limits.now e.value in (
      λ no. cc,
      λ all. absurd (let yes = c.is_sound.ensures.1 (subst P (sym c.item-item.is) (all c.loop-item.item-index c.item-item.result c.loop-item-test.true)) in
          let no = c.if-not-is_sound.true in cc),
    )
