use Rattle.std.proofs.Common.{arith, refl, subst, sym}
use Rattle.std.specs.Prelude.{All}
use Rattle.std.proofs.lemmas.List.{take_all}
use Rattle.std.proofs.lemmas.List.Elements.{All-more}
use Rattle.ipc_state.specs.declared.numbered.Item.{Item}
use Rattle.ipc_state.specs.declared.processes.Process.{Process}
use Rattle.ipc_state.specs.State.{objects_in}
use Rattle.ipc_state.specs.Sound.{AreSoundDescriptors}
use Rattle.ipc_state.proofs.state.State.have_sound_descriptors.Goals as goal

pub loop-item-preserved : goal.loop-item-preserved
loop-item-preserved c =
    let P : Item Process → Type 0 = λ p. AreSoundDescriptors c.args.self.now.limits (objects_in c.args.self.now.state) p.value.descriptors in
    All-more P c.args.items.now c.loop-item.item-index c.item-item.result c.loop-item-test.true c.loop-item.invariant
    (subst P c.item-item.is (c.has_sound_descriptors.ensures.0 c.if-not-has_sound_descriptors.false))

pub returns-then-not-has_sound_descriptors : goal.returns-then-not-has_sound_descriptors
returns-then-not-has_sound_descriptors c =
    let P : Item Process → Type 0 = λ p. AreSoundDescriptors c.args.self.now.limits (objects_in c.args.self.now.state) p.value.descriptors in (
      λ no. cc,
      λ all. absurd (let yes = c.has_sound_descriptors.ensures.1 (subst P (sym c.item-item.is)
          (all c.loop-item.item-index c.item-item.result c.loop-item-test.true)) in
          let no = c.if-not-has_sound_descriptors.true in cc),
    )

pub returns : goal.returns
returns c =
    let P : Item Process → Type 0 = λ p. AreSoundDescriptors c.args.self.now.limits (objects_in c.args.self.now.state) p.value.descriptors in
    (λ _. subst (All P) (take_all c.loop-item.item-index c.args.items.now (omega arith)) c.loop-item.invariant, λ _. refl)
