use Rattle.std.proofs.Common.{◌≡◌, ℕ, ap, sym, subst, ◌∙◌, arith}
use Rattle.std.specs.Prelude.{All, ⊤, nat_eq}
use Rattle.std.specs.List.{IsDistinct}
use Rattle.std.proofs.lemmas.List.Elements.{All-map}
use Rattle.ipc_limits.proofs.CallerLemmas.{passed-bounds}
use Rattle.ipc_base.specs.Table.{keys_of}
use Rattle.ipc_keys.specs.declared.check.NameKind.TheVariants as names
use Rattle.sem_undo.specs.Undo.{Undo}
use Rattle.shm_segment.specs.Segment.{Segment}
use Rattle.ipc_state.specs.Named.{Named}
use Rattle.ipc_state.specs.State.{State}
use Rattle.ipc_state.specs.Tables.{item_row}
use Rattle.ipc_state.specs.Waiting.{IsSoundWaiting}
use Rattle.ipc_image.specs.Kind.{FitsIn}
use Rattle.ipc_image.specs.Saved.{adjustments_of, FitsAdjustment, FitsProcess, FitsWaiting, FitsQueue, FitsSet, FitsMq, FitsPsem, FitsSegment, FitsShm}
use Rattle.ipc_image.specs.SavedParts.{IsSmallMq}
use Rattle.ipc_image.proofs.AdjustmentLists.{each-fit}
use Rattle.ipc_image.proofs.Attaching.{rising-distinct}
use Rattle.ipc_image.proofs.MqObjects.{mq-small}
use Rattle.ipc_image.proofs.SavedObjects.{processes-numbers, rows-numbers, sets-numbers, named-numbers, undo-counted, shms-small}
use Rattle.ipc_image.proofs.widths.read_state.Goals as goal

pub read_each-requires : goal.read_each-requires
read_each-requires c =
    processes-numbers c.args.state.now.limits c.args.state.now.state c.requires.passed c.requires.sound c.processes.result.now c.processes.ensures

pub read_each-requires-2 : goal.read_each-requires-2
read_each-requires-2 c = subst (All IsSoundWaiting) (sym c.waits.ensures) c.requires.sound.parts.wait.each

pub read_each-requires-4 : goal.read_each-requires-4
read_each-requires-4 c =
    rows-numbers c.args.state.now.limits c.args.state.now.state c.requires.passed c.requires.sound c.msg_queues.result.now c.msg_queues.ensures

pub read_each-requires-5 : goal.read_each-requires-5
read_each-requires-5 c =
    sets-numbers c.args.state.now.limits c.args.state.now.state c.requires.passed c.requires.sound c.semsets.result.now c.semsets.ensures

pub read_each-requires-6 : goal.read_each-requires-6
read_each-requires-6 c =
    let limits = c.args.state.now.limits in
    named-numbers limits c.args.state.now.state c.requires.passed c.requires.sound names.Mq IsSmallMq (mq-small limits c.requires.passed)
    c.mqs.result.now c.mqs.ensures

pub read_each-requires-7 : goal.read_each-requires-7
read_each-requires-7 c =
    named-numbers c.args.state.now.limits c.args.state.now.state c.requires.passed c.requires.sound names.Psem (λ value. ⊤) (λ value good. tt)
    c.items.result.now (c.items.ensures ∙ ap (λ (o : Named ℕ). o.entries) c.psems.ensures.objects)

pub read_each-requires-8 : goal.read_each-requires-8
read_each-requires-8 c =
    named-numbers c.args.state.now.limits c.args.state.now.state c.requires.passed c.requires.sound names.Pshm (λ x. ⊤) (λ x good. tt)
    c.items-2.result.now (c.items-2.ensures ∙ ap (λ (o : Named Segment). o.entries) c.pshms.ensures.objects)

pub read_each-requires-9 : goal.read_each-requires-9
read_each-requires-9 c =
    shms-small c.args.state.now.limits c.args.state.now.state c.requires.passed c.requires.sound c.shms.result.now c.shms.ensures

pub returns : goal.returns
returns c =
    let b = passed-bounds c.args.state.now.limits c.requires.passed in
    let s : State = c.args.state.now.state in
    let Fit : ℕ × Undo → Type 0 = λ p. All FitsAdjustment (adjustments_of p) in
    let pids : keys_of s.undo ≡ keys_of s.processes.entries = c.requires.sound.parts.undo.pids in
    record {
      clock = c.read_clock.ensures;
      count = omega (arith, b.processes.1, c.requires.sound.parts.processes.numbered.count);
      processes = subst (All FitsProcess) c.processes.ensures (All-map FitsProcess item_row c.processes.result.now c.read_each.ensures);
      wait_count = omega (arith, b.processes.1, c.requires.sound.parts.wait.few);
      waits = subst (All FitsWaiting) c.waits.ensures c.read_each-2.ensures;
      pids = c.requires.sound.parts.wait.pids;
      adjustment_count = undo-counted c.args.state.now.limits c.args.state.now.state c.requires.passed c.requires.sound;
      adjustments = each-fit c.args.state.now.state.undo (subst (All Fit) c.adjustments.ensures
          (All-map Fit item_row c.adjustments.result.now c.read_each-3.ensures));
      undo_pids = pids;
      distinct = subst (IsDistinct nat_eq) (sym pids) (rising-distinct 1 (keys_of s.processes.entries) s.processes.next
          c.requires.sound.parts.processes.numbered.numbers);
      queues = subst (All (FitsIn FitsQueue)) c.msg_queues.ensures (All-map (FitsIn FitsQueue) item_row c.msg_queues.result.now c.read_each-4.ensures);
      sets = subst (All (FitsIn FitsSet)) c.semsets.ensures (All-map (FitsIn FitsSet) item_row c.semsets.result.now c.read_each-5.ensures);
      later = record {
        mqs = subst (All (FitsIn FitsMq)) c.mqs.ensures (All-map (FitsIn FitsMq) item_row c.mqs.result.now c.read_each-6.ensures);
        psems = subst (All (FitsIn FitsPsem)) (c.items.ensures ∙ ap (λ (o : Named ℕ). o.entries) c.psems.ensures.objects)
            (All-map (FitsIn FitsPsem) item_row c.items.result.now c.read_each-7.ensures);
        segments = subst (All (FitsIn FitsSegment)) (c.items-2.ensures ∙ ap (λ (o : Named Segment). o.entries) c.pshms.ensures.objects)
            (All-map (FitsIn FitsSegment) item_row c.items-2.result.now c.read_each-8.ensures);
        shms = subst (All (FitsIn FitsShm)) c.shms.ensures (All-map (FitsIn FitsShm) item_row c.shms.result.now c.read_each-9.ensures);
      };
    }
