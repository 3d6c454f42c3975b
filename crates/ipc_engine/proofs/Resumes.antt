-- A call that goes on, as the program tries it.
use Rattle.std.proofs.Common.{◌≡◌, ℕ, true, false, Option, Some, None, sym, ap, subst, ◌∙◌}
use Rattle.std.specs.Prelude.{find}
use Rattle.ipc_base.specs.declared.identity.Pid.{Pid}
use Rattle.ipc_limits.specs.declared.limits.Limits.{Limits}
use Rattle.ipc_wait.specs.Waits.{waiting_call_of}
use Rattle.ipc_wait.proofs.CallerLemmas.{found-in}
use Rattle.ipc_wire.specs.Request.{PlainKind}
use Rattle.ipc_state.specs.Finish.{Finish, Tried, Finishes, Waits, IfFinishes}
use Rattle.ipc_state.specs.Sound.{HasSoundParts}
use Rattle.ipc_state.specs.State.{State, is_waiting, without_waiting}
use Rattle.ipc_state.specs.Waiting.{PlainWaiting, IsSoundWaiting}
use Rattle.ipc_state.specs.declared.parked.Object.{Object}
use Rattle.ipc_state.proofs.CallerLemmas.{IsGood}
use Rattle.ipc_engine.specs.Settling.{HaveSameObjects, touched_by}
use Rattle.ipc_engine.specs.Sound.{IsSound}
use Rattle.ipc_engine.specs.Step.{answered, replied, silent, can_resume, resumed, tried}
use Rattle.ipc_engine.proofs.Going.{objects-after}
use Rattle.ipc_engine.proofs.Lists.{found-all}
use Rattle.ipc_engine.proofs.Tries.{HasEnded, tried-ended}

module _ (limits : Limits) where
  -- what has left the list is the call that was found
  pub left-is : (s : State) (pid : Pid) (w v : PlainWaiting) (r : Option PlainWaiting) → HasSoundParts limits s
      → find (can_resume limits s) s.wait ≡ Some w → w.pid ≡ pid
      → r ≡ waiting_call_of pid s.wait → r ≡ Some v → v ≡ w
  left-is s pid w v r h first is left some =
      let both : Some v ≡ Some w =
      sym some ∙ (left ∙ (ap (λ (p : Pid). waiting_call_of p s.wait) (sym is) ∙ (found-in (can_resume limits s) s.wait w h.wait.pids first).here)) in
      cc

  -- it is there
  pub left-some : (s : State) (pid : Pid) (w : PlainWaiting) (r : Option PlainWaiting) → HasSoundParts limits s
      → find (can_resume limits s) s.wait ≡ Some w → w.pid ≡ pid
      → r ≡ waiting_call_of pid s.wait → r ≡ None → ⊥
  left-some s pid w r h first is left none =
      let there : None ≡ Some w = sym none ∙ (left ∙ (ap (λ (p : Pid). waiting_call_of p s.wait) (sym is)
      ∙ (found-in (can_resume limits s) s.wait w h.wait.pids first).here)) in
      cc

  pub first-sound : (s : State) (w : PlainWaiting) → HasSoundParts limits s → find (can_resume limits s) s.wait ≡ Some w → IsSoundWaiting w
  first-sound s w h first = found-all (can_resume limits s) IsSoundWaiting s.wait w h.wait.each first

  -- the program has found one, and tried what has left the list
  module _ (s t : State) (now : Limits) (pid : Pid) (serial : ℕ) (first : PlainWaiting) (v w : PlainWaiting) (h : HasSoundParts limits s)
      (found : find (can_resume limits s) s.wait ≡ Some first) (its : v ≡ first) (process : first.pid ≡ pid) (number : serial ≡ v.call.serial)
      (same : now ≡ limits) (left : t ≡ without_waiting s pid.0) (also : find (can_resume limits s) s.wait ≡ Some w) where
    it_is : v ≡ w
    it_is = let both : Some first ≡ Some w = sym found ∙ also in cc

    mine : v.pid ≡ pid
    mine = ap (λ (u : PlainWaiting). u.pid) its ∙ process

    tried-here : (x : Tried) → x ≡ tried now t pid.0 true v.call.kind → resumed limits s v ≡ answered v (without_waiting s v.pid.0) x
    tried-here x comes =
        ap (answered v (without_waiting s v.pid.0)) (sym (comes
        ∙ (λ i. tried (same i) ((left ∙ ap (λ (p : Pid). without_waiting s p.0) (sym mine)) i) (sym mine i).0 true v.call.kind)))

    pub resumed-finishes : (f : Finish) → Finishes f ≡ tried now t pid.0 true v.call.kind → resumed limits s w ≡ replied pid.0 serial f
    resumed-finishes f comes =
        ap (resumed limits s) (sym it_is) ∙ (tried-here (Finishes f) comes ∙ (λ i. replied (mine i).0 (sym number i) f))

    pub resumed-waits : Waits ≡ tried now t pid.0 true v.call.kind → resumed limits s w ≡ silent t
    resumed-waits comes =
        ap (resumed limits s) (sym it_is) ∙ (tried-here Waits comes ∙ ap silent (sym (left ∙ ap (λ (p : Pid). without_waiting s p.0) (sym mine))))

  -- what a call that has come to its end leaves
  pub ended-of : (s : State) (pid : ℕ) (kind : PlainKind) (f : Finish) → is_waiting s pid ≡ false → Finishes f ≡ tried limits s pid false kind
      → HasEnded limits s pid (touched_by s pid kind) f
  ended-of s pid kind f free is = subst (IfFinishes (HasEnded limits s pid (touched_by s pid kind))) (sym is) (tried-ended limits s pid false kind free)

  -- told of the limits and the state that are there
  pub good-here : (now : Limits) (s u : State) (pid : ℕ) (touches : Option Object) (f : Finish) → now ≡ limits → f.state ≡ u → IsSound limits s
      → is_waiting s pid ≡ false → HasEnded limits s pid touches f
      → (t : State) × IsSound now t × IsGood now t touches f × HaveSameObjects t u
  good-here now s u pid touches f same is sound free ended = (
    s,
    subst (λ (l : Limits). IsSound l s) (sym same) sound,
    subst (λ (l : Limits). IsGood l s touches f) (sym same) ended.good,
    subst (λ (t : State). HaveSameObjects s t) is (objects-after limits s pid touches f free ended),
  )
