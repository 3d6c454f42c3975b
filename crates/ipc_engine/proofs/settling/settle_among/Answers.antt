use Rattle.std.proofs.Common.{◌≡◌, ◌+◌, ◌-◌, ℕ, suc, map, length, sym, subst, ap, ◌∙◌, arith}
use Rattle.std.proofs.lemmas.List.{length-map}
use Rattle.ipc_limits.specs.declared.limits.Limits.{Limits}
use Rattle.ipc_wait.proofs.CallerLemmas.{found-in}
use Rattle.ipc_state.specs.Held.{Held}
use Rattle.ipc_state.specs.Sound.{HasSoundParts}
use Rattle.ipc_state.specs.State.{State}
use Rattle.sysv_calls.specs.Concern.{change_of, joined}
use Rattle.sysv_calls.specs.declared.concern.Change.{Change}
use Rattle.ipc_engine.specs.Settling.{RestWaits, SparedWait}
use Rattle.ipc_engine.specs.Step.{can_resume, silent, settle, settle_within}
use Rattle.ipc_engine.specs.View.{plain_outcome}
use Rattle.ipc_engine.proofs.Doing.{does-as, does-nothing, does-then}
use Rattle.ipc_engine.proofs.Going.{goes-on, spared-resumed, within-none, within-some, within-all, within-nothing}
use Rattle.ipc_engine.proofs.settling.settle_among.Goals as goal

pub loop-gone-init : goal.loop-gone-init
loop-gone-init c =
    let s = c.args.state.now in
    let all : settle_within s.limits (length s.state.wait - 0) s.state ≡ settle s.limits s.state =
    ap (λ (n : ℕ). settle_within s.limits n s.state) (omega arith) ∙ sym (within-all s.limits s.state) in
    record {
      parts = c.requires.parts;
      linked = c.requires.linked;
      rest = c.requires.rest;
      spared = c.requires.spared;
      room = c.requires.room;
      buffer = omega arith;
      does = λ new last. does-as all;
    }

pub returns-in_default-clause-does : goal.returns-in_default-clause-does
returns-in_default-clause-does c =
    let l = c.loop-gone in
    let none = within-none l.state.limits (length c.args.state.now.state.wait - l.gone) l.state.state c.in_default.ensures in
    l.invariant.does _ _ (does-as (sym none) does-nothing)

pub resume-requires-clause-room : goal.resume-requires-clause-room
resume-requires-clause-room c =
    let l = c.loop-gone in
    let s = l.state in
    let first = c.in-Some.ensures in
    omega (arith, l.invariant.room, (found-in (can_resume s.limits s.state) s.state.wait first.0 l.invariant.parts.wait.pids first.1).fewer)

pub loop-gone-preserved : goal.loop-gone-preserved
loop-gone-preserved c =
    let l = c.loop-gone in
    let n = length c.args.state.now.state.wait in
    let left = n - (l.gone + 1) in
    let count : n - l.gone ≡ suc left = omega (arith, c.loop-gone-test.true, ap length c.waits-gone-end.ensures) in
    let first = c.in-Some.ensures in
    let went = c.resume.ensures.does first.0 first.1 in
    let on = goes-on l.state.limits l.state.state c.resume.new.state.state c.args.among (map plain_outcome l.outcomes.items)
    (map plain_outcome c.resume.new.outcomes.items) first.0 l.invariant.parts l.invariant.linked l.invariant.rest first.1
    (ap (λ (h : Held). h.state) went.state) went.outcomes in
    let same = ap (λ (h : Held). h.limits) went.state in
    let goes = spared-resumed l.state.limits l.state.state l.change first.0 l.invariant.parts l.invariant.spared first.1 in
    let change : joined l.change (change_of first.0.call.kind) ≡ c.and-change.result =
    ap (joined l.change) (sym (c.resume.ensures.change first.0 first.1)) ∙ sym c.and-change.ensures in
    let spared : SparedWait l.state.limits c.resume.new.state.state c.and-change.result =
    subst (λ (x : Change). SparedWait l.state.limits c.resume.new.state.state x) change
    (subst (λ (t : State). SparedWait l.state.limits t (joined l.change (change_of first.0.call.kind))) (sym (ap (λ (h : Held). h.state) went.state)) goes) in
    let all = ap (λ (m : ℕ). settle_within l.state.limits m l.state.state) count ∙ within-some l.state.limits left l.state.state first.0 first.1 in
    record {
      parts = subst (λ (x : Limits). HasSoundParts x c.resume.new.state.state) (sym same) on.parts;
      linked = on.linked;
      rest = subst (λ (x : Limits). RestWaits x c.resume.new.state.state c.args.among) (sym same) on.rest;
      spared = subst (λ (x : Limits). SparedWait x c.resume.new.state.state c.and-change.result) (sym same) spared;
      room = omega (
        arith,
        on.room,
        l.invariant.room,
        length-map l.outcomes.items plain_outcome,
        length-map c.resume.new.outcomes.items
            plain_outcome,
        went.capacity,
      );
      buffer = omega (arith, l.invariant.buffer, c.resume.ensures.buffer);
      does = λ new last next.
          l.invariant.does new last (does-as (sym all)
          (does-then (settle_within l.state.limits left) went (does-as (ap (λ (x : Limits). settle_within x left c.resume.new.state.state) same) next)));
    }

pub returns-clause-does : goal.returns-clause-does
returns-clause-does c =
    let l = c.loop-gone in
    let none : settle_within l.state.limits (length c.args.state.now.state.wait - l.gone) l.state.state ≡ silent l.state.state =
    ap (λ (n : ℕ). settle_within l.state.limits n l.state.state) (omega (arith, c.loop-gone-test.false, ap length c.waits-gone-end.ensures))
    ∙ within-nothing l.state.limits l.state.state in
    l.invariant.does _ _ (does-as (sym none) does-nothing)
