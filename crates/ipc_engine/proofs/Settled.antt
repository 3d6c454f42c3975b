-- Calls that waited go on: what each of them leaves, and what is left when none can go on any more.
use Rattle.std.proofs.Common.{◌≡◌, ◌≢◌, ℕ, zero, suc, ◌+◌, ◌*◌, ◌≤◌, get_or, Bool, true, false, not, List, [], ◌∷◌, length, Option, Some, None, is_some}
use Rattle.std.proofs.Common.{refl, sym, ap, subst, ◌∙◌, arith, length-append}
use Rattle.std.specs.Prelude.{All, find, ◌==◌, if◌then◌else◌, nat_eq, option_map, unwrap_or}
use Rattle.ipc_base.specs.Table.{value_at}
use Rattle.std.proofs.lemmas.Bool.Decides.{nat_tests}
use Rattle.std.proofs.lemmas.List.Elements.{All-nil, All-cons, All-append, All-filter}
use Rattle.ipc_base.specs.declared.identity.Moment.{Moment}
use Rattle.ipc_base.specs.declared.identity.Pid.{Pid}
use Rattle.ipc_limits.specs.declared.limits.Limits.{Limits}
use Rattle.ipc_wait.specs.Waits.{waiting_call_of, without, is_of, is_due}
use Rattle.ipc_wait.proofs.CallerLemmas.{IsIn, found-in, waiting_call_of-without_same, waiting_call_of-without_other}
use Rattle.sem_undo.specs.Undo.{Key, adjustment}
use Rattle.sysv_msg.specs.Queue.{Queue}
use Rattle.sysv_sem.specs.Set.{Set}
use Rattle.ipc_state.specs.declared.parked.Object.{Object}
use Rattle.ipc_state.specs.declared.parked.Awaited.{Awaited}
use Rattle.ipc_state.specs.declared.parked.Awaited.TheVariants as awaited
use Rattle.ipc_state.specs.declared.processes.Process.{Process}
use Rattle.ipc_state.specs.Keyed.{Keyed}
use Rattle.ipc_state.specs.Numbered.{entry_of}
use Rattle.ipc_state.specs.Finish.{Finish, Tried, Finishes, Waits, IfFinishes}
use Rattle.ipc_state.specs.Sound.{HasSoundParts, FitsBody}
use Rattle.ipc_state.specs.State.{State, is_process, is_waiting, undo_of, without_waiting}
use Rattle.ipc_state.specs.Touching.{is_there, object_of, IsAsBefore, IsSameIn}
use Rattle.ipc_state.specs.Waiting.{PlainWaiting, IsSoundWaiting}
use Rattle.ipc_state.proofs.CallerLemmas.{HasSameProcesses, same-connected, same-processes, without_waiting-sound, same-awaited, same-objects}
use Rattle.posix_mq.specs.declared.queue.Registration.{Registration}
use Rattle.ipc_engine.specs.Event.{PlainOutcome}
use Rattle.ipc_engine.specs.Settling.{touched_by}
use Rattle.ipc_engine.specs.Step.{Step, silent, after, answered, notices, replied, tried, can_resume, resumed, resumed_first, settle_within, settle}
use Rattle.ipc_engine.proofs.Lists.{found-all, nothing-passes, nothing-found}
use Rattle.ipc_engine.proofs.Tries.{HasEnded, tried-ended, waited-ended}
use Rattle.ipc_engine.proofs.Weights.{weight_to, weight_to-append, replied-weighs, held, notes, notes-same, IsLight}

-- who waits tells nothing of the objects
pub there-with : (pid : ℕ) (on : Awaited) (s : State) (ws : List PlainWaiting) → is_there pid on s ≡ true → is_there pid on (record s { wait = ws }) ≡ true
there-with pid (awaited.MsgQueue n) s ws there = there
there-with pid (awaited.Semset n) s ws there = there
there-with pid (awaited.Descriptor fd) s ws there = there

pub before-with : (pid : ℕ) (on : Awaited) (s t : State) (ws : List PlainWaiting) → IsAsBefore pid on (record s { wait = ws }) t → IsAsBefore pid on s t
before-with pid (awaited.MsgQueue n) s t ws before = before
before-with pid (awaited.Semset n) s t ws before = before
before-with pid (awaited.Descriptor fd) s t ws before = before

-- the adjustments of each process are the same
abbrev pub HasSameUndo : State → State → Type 0
HasSameUndo s t = (pid : ℕ) (k : Key) → adjustment (undo_of t pid) k ≡ adjustment (undo_of s pid) k

-- the same queues, sets and adjustments, and the same process
pub as-before : (pid : ℕ) (on : Awaited) (s t : State) → t.msg ≡ s.msg → t.semset ≡ s.semset → t.mq ≡ s.mq → t.psem ≡ s.psem → HasSameUndo s t
    → entry_of t.processes pid ≡ entry_of s.processes pid → IsAsBefore pid on s t
as-before pid (awaited.MsgQueue n) s t queues sets mqs sems undo process = ap (λ (m : Keyed Queue). entry_of m n.0) queues
as-before pid (awaited.Semset n) s t queues sets mqs sems undo process = (ap (λ (m : Keyed Set). entry_of m n.0) sets, λ pid num. undo pid (n.0, num))
as-before pid (awaited.Descriptor fd) s t queues sets mqs sems undo process = (
  ap (λ (p : Option Process). value_at nat_eq (unwrap_or (option_map (λ (q : Process). q.descriptors) p) []) fd) process,
  λ kind n waits is. same-awaited s t mqs sems kind n waits,
)

pub same-then : (s t u : State) → HasSameProcesses s t → HasSameProcesses t u → HasSameProcesses s u
same-then s t u first later =
    record { next = later.next ∙ first.next; pids = later.pids ∙ first.pids; creds = λ pid. later.creds pid ∙ first.creds pid }

-- who has left the list waits no longer
pub left-free : (s : State) (w : PlainWaiting) → is_waiting (without_waiting s w.pid.0) w.pid.0 ≡ false
left-free s w = ap is_some (waiting_call_of-without_same w.pid s.wait)

-- one notification at most
notices-few : (fired : Option Registration) → length (notices fired) ≤ 1
notices-few None = omega arith
notices-few (Some r) = omega arith

pub replied-few : (pid serial : ℕ) (f : Finish) → length (replied pid serial f).outcomes ≤ 2
replied-few pid serial f = omega (arith, notices-few f.fired)

module _ (limits : Limits) where
  abbrev Fits : PlainOutcome → Type 0
  Fits o = FitsBody limits o.body

  notices-fit : (fired : Option Registration) → All (λ (o : PlainOutcome). FitsBody limits o.body) (notices fired)
  notices-fit None = All-nil Fits
  notices-fit (Some r) = All-cons Fits _ [] (omega arith) (All-nil Fits)

  pub replied-fits : (pid serial : ℕ) (f : Finish) → FitsBody limits f.body → All (λ (o : PlainOutcome). FitsBody limits o.body) (replied pid serial f).outcomes
  replied-fits pid serial f fits = All-cons Fits _ _ fits (notices-fit f.fired)

  -- ---- one that goes on

  -- what it leaves: what waited on other objects finds them as they were
  pub record HasResumed (s : State) (w : PlainWaiting) (t : Step) : Type 0 where
    pub parts : HasSoundParts limits s → HasSoundParts limits t.state
    pub fits : HasSoundParts limits s → All (λ (o : PlainOutcome). FitsBody limits o.body) t.outcomes
    pub kept : HasSameProcesses s t.state
    pub clock : t.state.clock ≡ s.clock
    pub wait : t.state.wait ≡ without w.pid s.wait
    pub few : length t.outcomes ≤ 2
    pub weight : (weigh : PlainOutcome → ℕ) (most note : ℕ) → IsLight limits weigh most note → HasSoundParts limits s → (pid : ℕ)
        → weight_to weigh pid t.outcomes + notes note t.state pid ≤ notes note s pid + (if pid == w.pid.0 then most else 0)
    pub objects : (pid : ℕ) (on : Awaited) → pid ≢ w.pid.0 → object_of t.state pid on ≡ object_of s pid on
    pub others : HasSoundParts limits s → (pid : ℕ) (on : Awaited) → is_waiting (without_waiting s w.pid.0) pid ≡ true
        → object_of s w.pid.0 w.on ≢ object_of s pid on → is_there pid on s ≡ true → IsAsBefore pid on s t.state
    pub same : HasSoundParts limits s → (o : Object) → object_of s w.pid.0 w.on ≢ Some o → IsSameIn o s t.state

  pub resumed-has : (s : State) (w : PlainWaiting) → IsSoundWaiting w → HasResumed s w (resumed limits s w)
  resumed-has s w sound =
      by_tried (tried limits (without_waiting s w.pid.0) w.pid.0 true w.call.kind)
      (waited-ended limits (without_waiting s w.pid.0) w.pid.0 w.call.kind w.on (left-free s w) sound.on)
    where
      by_tried : (t : Tried) → IfFinishes (HasEnded limits (without_waiting s w.pid.0) w.pid.0 (object_of (without_waiting s w.pid.0) w.pid.0 w.on)) t
          → HasResumed s w (answered w (without_waiting s w.pid.0) t)
      by_tried (Finishes f) ended =
          let left = without_waiting s w.pid.0 in
          let good = ended.good in
          record {
            parts = λ h. good.state (without_waiting-sound limits s w.pid.0 h);
            fits = λ h. replied-fits w.pid.0 w.call.serial f (good.body (without_waiting-sound limits s w.pid.0 h));
            kept = record { next = good.kept.next; pids = good.kept.pids; creds = good.kept.creds };
            clock = good.clock;
            wait = good.wait;
            few = replied-few w.pid.0 w.call.serial f;
            weight = λ weigh most note light h pid. omega (
              arith,
              replied-weighs weigh limits most note light left w.pid.0 w.call.serial f pid (good.body (without_waiting-sound limits s w.pid.0 h))
                  (ended.leaves pid).owed,
              notes-same note s left pid refl,
            );
            objects = λ pid on other. (ended.leaves pid).objects other on ∙ same-objects s left pid on refl;
            others = λ h pid on waits apart there.
                before-with pid on s f.state (without w.pid s.wait)
                (good.others (without_waiting-sound limits s w.pid.0 h) pid on waits
                (λ same. apart (sym (same-objects s left w.pid.0 w.on refl) ∙ (same ∙ same-objects s left pid on refl)))
                (there-with pid on s (without w.pid s.wait) there));
            same = λ h o apart.
                good.same (without_waiting-sound limits s w.pid.0 h) o (λ one. apart (sym (same-objects s left w.pid.0 w.on refl) ∙ one));
          }
      by_tried Waits ended = record {
        parts = without_waiting-sound limits s w.pid.0;
        fits = λ h. All-nil Fits;
        kept = same-processes s (without_waiting s w.pid.0) refl;
        clock = refl;
        wait = refl;
        few = omega arith;
        weight = λ weigh most note light h pid. omega (arith, notes-same note s (without_waiting s w.pid.0) pid refl);
        objects = λ pid on other. same-objects s (without_waiting s w.pid.0) pid on refl;
        others = λ h pid on waits apart there. as-before pid on s (without_waiting s w.pid.0) refl refl refl refl (λ pid k. refl) refl;
        same = λ h o apart e is. is;
      }

  -- of any state it leaves the same processes, and the clock
  pub resumed-kept : (s : State) (w : PlainWaiting) → HasSameProcesses s (resumed limits s w).state × ((resumed limits s w).state.clock ≡ s.clock)
  resumed-kept s w =
      by_tried (tried limits (without_waiting s w.pid.0) w.pid.0 true w.call.kind)
      (tried-ended limits (without_waiting s w.pid.0) w.pid.0 true w.call.kind (left-free s w))
    where
      by_tried : (t : Tried) → IfFinishes (HasEnded limits (without_waiting s w.pid.0) w.pid.0 (touched_by (without_waiting s w.pid.0) w.pid.0 w.call.kind)) t
          → HasSameProcesses s (answered w (without_waiting s w.pid.0) t).state × ((answered w (without_waiting s w.pid.0) t).state.clock ≡ s.clock)
      by_tried (Finishes f) ended =
          let kept = ended.good.kept in
          (record { next = kept.next; pids = kept.pids; creds = kept.creds }, ended.good.clock)
      by_tried Waits ended = (same-processes s (without_waiting s w.pid.0) refl, refl)

  settled-kept : (n : ℕ) (s : State) → HasSameProcesses s (settle_within limits n s).state × ((settle_within limits n s).state.clock ≡ s.clock)
  unfolding settle_within
  settled-kept zero s = (same-processes s s refl, refl)
  settled-kept (suc n) s = by_found (find (can_resume limits s) s.wait) (λ t. settled-kept n t)
    where
      by_found : (r : Option PlainWaiting)
          → ((t : State) → HasSameProcesses t (settle_within limits n t).state × ((settle_within limits n t).state.clock ≡ t.clock))
          → HasSameProcesses s (resumed_first limits s r (settle_within limits n)).state × ((resumed_first limits s r
          (settle_within limits n)).state.clock ≡ s.clock)
      by_found None rest = (same-processes s s refl, refl)
      by_found (Some w) rest =
          let t = (resumed limits s w).state in
          let now = resumed-kept s w in
          let later = rest t in
          (same-then s t (settle_within limits n t).state now.0 later.0, later.1 ∙ now.1)

  pub settle-kept : (s : State) → HasSameProcesses s (settle limits s).state × ((settle limits s).state.clock ≡ s.clock)
  unfolding settle
  settle-kept s = settled-kept (length s.wait) s

  -- ---- all that can

  -- what is left when some have gone on
  pub record HasSettled (s : State) (t : Step) : Type 0 where
    pub parts : HasSoundParts limits t.state
    pub fits : All (λ (o : PlainOutcome). FitsBody limits o.body) t.outcomes
    pub kept : HasSameProcesses s t.state
    pub clock : t.state.clock ≡ s.clock
    pub few : length t.outcomes + 2 * length t.state.wait ≤ 2 * length s.wait
    pub owes : (weigh : PlainOutcome → ℕ) (most note : ℕ) → IsLight limits weigh most note → (pid : ℕ)
        → weight_to weigh pid t.outcomes + held most t.state pid + notes note t.state pid ≤ held most s pid + notes note s pid
    pub early : (now : Moment) → All (λ (w : PlainWaiting). is_due now w ≡ false) s.wait → All (λ (w : PlainWaiting). is_due now w ≡ false) t.state.wait
    pub linked : All (λ (w : PlainWaiting). is_process s w.pid.0 ≡ true) s.wait → All (λ (w : PlainWaiting). is_process s w.pid.0 ≡ true) t.state.wait

  settled-silent : (s : State) → HasSoundParts limits s → HasSettled s (silent s)
  settled-silent s h =
      record {
        parts = h;
        fits = All-nil Fits;
        kept = same-processes s s refl;
        clock = refl;
        few = omega arith;
        owes = λ weigh most note light pid. omega arith;
        early = λ now all. all;
        linked = λ all. all;
      }

  -- one that goes on is owed nothing any more
  resumed-owes : (s : State) (w : PlainWaiting) (t : Step) → HasSoundParts limits s → IsIn s.wait w → HasResumed s w t
      → (weigh : PlainOutcome → ℕ) (most note : ℕ) → IsLight limits weigh most note → (pid : ℕ)
      → weight_to weigh pid t.outcomes + held most t.state pid + notes note t.state pid ≤ held most s pid + notes note s pid
  resumed-owes s w t h there r weigh most note light pid = by_test (pid == w.pid.0) refl
    where
      by_test : (b : Bool) → (pid == w.pid.0) ≡ b
          → weight_to weigh pid t.outcomes + held most t.state pid + notes note t.state pid ≤ held most s pid + notes note s pid
      by_test true same =
          let is : pid ≡ w.pid.0 = grind (arith, nat_tests) in
          let before : is_waiting s pid ≡ true = ap (λ (q : ℕ). is_waiting s q) is ∙ ap is_some there.here in
          let later : is_waiting t.state pid ≡ false =
          ap (λ (q : ℕ). is_waiting t.state q) is ∙ (ap (λ (ws : List PlainWaiting). is_some (waiting_call_of w.pid ws)) r.wait
          ∙ ap is_some (waiting_call_of-without_same w.pid s.wait)) in
          let least : weight_to weigh pid t.outcomes + notes note t.state pid ≤ notes note s pid + most =
          rw same at (r.weight weigh most note light h pid) in
          rw before (rw later (omega (arith, least)))
      by_test false other =
          let apart : record { 0 = pid } ≢ w.pid = λ e. absurd (let is : pid ≡ w.pid.0 = ap (λ (p : Pid). p.0) e in grind (arith, nat_tests)) in
          let same : is_waiting t.state pid ≡ is_waiting s pid =
          ap (λ (ws : List PlainWaiting). is_some (waiting_call_of (record { 0 = pid }) ws)) r.wait
          ∙ ap is_some (waiting_call_of-without_other w.pid (record { 0 = pid }) s.wait apart) in
          let none : weight_to weigh pid t.outcomes + notes note t.state pid ≤ notes note s pid + 0 =
          rw other at (r.weight weigh most note light h pid) in
          rw same (omega (arith, none))

  settled-more : (s : State) (w : PlainWaiting) (next : State → Step) → HasSoundParts limits s → IsIn s.wait w → IsSoundWaiting w
      → HasSettled (resumed limits s w).state (next (resumed limits s w).state) → HasSettled s (after (resumed limits s w) next)
  settled-more s w next h there sound later =
      let now = resumed limits s w in
      let r = resumed-has s w sound in
      record {
        parts = later.parts;
        fits = All-append Fits now.outcomes (next now.state).outcomes (r.fits h) later.fits;
        kept = same-then s now.state (next now.state).state r.kept later.kept;
        clock = later.clock ∙ r.clock;
        few = omega (arith, later.few, r.few, there.fewer, ap length r.wait, length-append now.outcomes (next now.state).outcomes);
        owes = λ weigh most note light pid.
            omega (
              arith,
              later.owes weigh most note light pid,
              resumed-owes s w now h there r weigh most note light pid,
              weight_to-append weigh pid now.outcomes (next now.state).outcomes,
            );
        early = λ at all.
            later.early at (subst (λ (ws : List PlainWaiting). All (λ (v : PlainWaiting). is_due at v ≡ false) ws) (sym r.wait)
            (All-filter (λ (v : PlainWaiting). not (is_of w.pid v)) (λ (v : PlainWaiting). is_due at v ≡ false) s.wait all));
        linked = λ all k d i.
            sym (same-connected s now.state (get_or (next now.state).state.wait k d).pid.0 r.kept)
            ∙ later.linked (subst (λ (ws : List PlainWaiting). All (λ (v : PlainWaiting). is_process now.state v.pid.0 ≡ true) ws) (sym r.wait)
            (λ k d i. same-connected s now.state (get_or (without w.pid s.wait) k d).pid.0 r.kept
            ∙ All-filter (λ (v : PlainWaiting). not (is_of w.pid v)) (λ (v : PlainWaiting). is_process s v.pid.0 ≡ true) s.wait all k d i)) k d i;
      }

  -- what a search finds is in the list, and sound
  first-in : (s : State) (w : PlainWaiting) → HasSoundParts limits s → find (can_resume limits s) s.wait ≡ Some w → IsIn s.wait w
  first-in s w h is = found-in (can_resume limits s) s.wait w h.wait.pids is

  first-sound : (s : State) (w : PlainWaiting) → HasSoundParts limits s → find (can_resume limits s) s.wait ≡ Some w → IsSoundWaiting w
  first-sound s w h is = found-all (can_resume limits s) IsSoundWaiting s.wait w h.wait.each is

  pub settle-has : (n : ℕ) (s : State) → HasSoundParts limits s → HasSettled s (settle_within limits n s)
  unfolding settle_within
  settle-has zero s h = settled-silent s h
  settle-has (suc n) s h = by_found (find (can_resume limits s) s.wait) refl (λ t. settle-has n t)
    where
      by_found : (r : Option PlainWaiting) → find (can_resume limits s) s.wait ≡ r → ((t : State) → HasSoundParts limits t
          → HasSettled t (settle_within limits n t))
          → HasSettled s (resumed_first limits s r (settle_within limits n))
      by_found None is rest = settled-silent s h
      by_found (Some w) is rest =
          let sound = first-sound s w h is in
          settled-more s w (settle_within limits n) h (first-in s w h is) sound (rest (resumed limits s w).state ((resumed-has s w sound).parts h))

  -- then none can go on
  pub settle-done : (n : ℕ) (s : State) → HasSoundParts limits s → length s.wait ≤ n
      → All (λ (w : PlainWaiting). can_resume limits (settle_within limits n s).state w ≡ false) (settle_within limits n s).state.wait
  unfolding settle_within
  settle-done zero s h none = by_list s.wait none
    where
      by_list : (ws : List PlainWaiting) → length ws ≤ 0 → All (λ (w : PlainWaiting). can_resume limits s w ≡ false) ws
      by_list [] none = All-nil _
      by_list (w ∷ ws) none = absurd (omega arith)
  settle-done (suc n) s h most = by_found (find (can_resume limits s) s.wait) refl (λ t. settle-done n t)
    where
      by_found : (r : Option PlainWaiting) → find (can_resume limits s) s.wait ≡ r
          → ((t : State) → HasSoundParts limits t → length t.wait ≤ n
          → All (λ (w : PlainWaiting). can_resume limits (settle_within limits n t).state w ≡ false) (settle_within limits n t).state.wait)
          → All (λ (w : PlainWaiting). can_resume limits (resumed_first limits s r (settle_within limits n)).state w ≡ false)
          (resumed_first limits s r (settle_within limits n)).state.wait
      by_found None is rest = nothing-passes (can_resume limits s) s.wait is
      by_found (Some w) is rest =
          let r = resumed-has s w (first-sound s w h is) in
          rest (resumed limits s w).state (r.parts h) (omega (arith, most, ap length r.wait, (first-in s w h is).fewer))

  -- nothing is done where none can go on
  pub settle-nothing : (s : State) → All (λ (w : PlainWaiting). can_resume limits s w ≡ false) s.wait → settle limits s ≡ silent s
  unfolding settle settle_within
  settle-nothing s all = by_count (length s.wait)
    where
      by_count : (n : ℕ) → settle_within limits n s ≡ silent s
      by_count zero = refl
      by_count (suc n) = ap (λ (r : Option PlainWaiting). resumed_first limits s r (settle_within limits n)) (nothing-found (can_resume limits s) s.wait all)
