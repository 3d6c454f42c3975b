-- What the crates above cite: each change of the state leads from a sound state to a sound state, and so does a call
-- whose steps do.
use Rattle.std.proofs.Common.{◌≡◌, ℕ, ℤ, ◌+◌, ◌<◌, ◌≤◌, Bool, true, false, Option, Some, None, refl, arith, rules, sym, ap, subst, ◌∙◌, List}
use Rattle.std.proofs.Common.{[], ◌∷◌, ◌++◌, not, suc, drop, take, length, length-append}
use Rattle.std.proofs.lemmas.Nat.{and_le_r}
use Rattle.std.specs.Prelude.{option_map, unwrap_or, All, nat_eq, nat_lt, IfSome, if◌then◌else◌, ◌^◌, ◌-◌}
use Rattle.std.proofs.lemmas.Bool.Decides.{nat_tests}
use Rattle.std.proofs.lemmas.List.Elements.{All-nil, All-append, All-drop, All-filter, All-push, All-take}
use Rattle.std.proofs.lemmas.List.{length-drop, length-take}
use Rattle.std.proofs.lemmas.List.Filters.{length-filter_both}
use Rattle.std.specs.Option.{option_map_or}
use Rattle.ipc_base.specs.Table.{keys_of, seen_as, value_at, without as without_value, EachValue}
use Rattle.std.specs.FinMap as fin
use Rattle.sem_undo.specs.Undo.{Key, Undo, cleared, IsSoundUndo}
use Rattle.sem_undo.proofs.CallerLemmas.{empty-sound}
use Rattle.ipc_base.proofs.CallerLemmas.{All-value_at, nobody, each-at, each-with, each-without, keys_of-with_value}
use Rattle.ipc_state.specs.Directory.{ArePositive}
use Rattle.ipc_state.proofs.Directories.{named-positive}
use Rattle.ipc_state.specs.Tables.{HeldObjects}
use Rattle.ipc_base.specs.declared.identity.Cred.{Cred}
use Rattle.ipc_base.specs.declared.identity.Moment.{Moment}
use Rattle.ipc_base.specs.declared.identity.Pid.{Pid}
use Rattle.ipc_limits.specs.declared.limits.Limits.{Limits}
use Rattle.ipc_limits.specs.Limits.{has_rules_of_three}
use Rattle.ipc_wait.specs.Waits.{is_of, is_due, waiting_call_of, without}
use Rattle.ipc_wait.proofs.CallerLemmas.{without-distinct, left-distinct, due-or-left, HaveDistinctPids-enter}
use Rattle.posix_mq.specs.Queue.{Queue as Mq, PlainMessage as MqMessage, empty_queue, is_full as is_full_mq, next_to_receive, received, with_message}
use Rattle.std.specs.List.{remove}
use Rattle.ipc_keys.specs.declared.check.NameKind.TheVariants as names
use Rattle.shm_segment.specs.Segment.{Segment, is_within, written}
use Rattle.shm_segment.specs.SysSegment.{SysSegment}
use Rattle.sysv_sem.specs.Set.{Set, after_exit}
use Rattle.ipc_wire.specs.Posix as posix
use Rattle.ipc_wire.specs.Request.{PlainKind, PlainRequest, Interrupt, Sysv, Posix}
use Rattle.ipc_wire.specs.Request as requests
use Rattle.ipc_state.specs.declared.parked.ObjectKind.{ObjectKind}
use Rattle.ipc_state.specs.declared.parked.ObjectKind.TheVariants as kinds
use Rattle.ipc_state.specs.Keyed.{Keyed, AreKeyed, HaveKeys}
use Rattle.ipc_state.specs.Kinds.{BoundOf, Content, EntryOf, Objects, Those, has_access, is_bound_so, keeps, may_open, no_bound, parted, same_bound, with_kind}
use Rattle.ipc_perm.specs.declared.perm.Perm.{Perm}
use Rattle.ipc_perm.specs.Perm.{owned_by, perm_of}
use Rattle.ipc_state.specs.declared.processes.Process.{Process}
use Rattle.ipc_state.specs.Numbered.{AreNumbered, Numbered, entry_of, with_entry, with_new, is_full}
use Rattle.ipc_state.specs.declared.descriptors.Descriptor.{Descriptor}
use Rattle.ipc_state.specs.Named.{NamedEntry}
use Rattle.ipc_state.specs.Descriptors.{opened, with_flags}
use Rattle.ipc_state.specs.Attached.{detached_each}
use Rattle.ipc_state.specs.Bound.{AreFound, holding, kept_if, number_of, permitting, unbound}
use Rattle.ipc_state.specs.Opening.{descriptors_of, descriptor_at, is_by_descriptor, is_registered}
use Rattle.ipc_state.specs.Opening.{is_sound_descriptor, stays}
use Rattle.ipc_state.specs.State.{State, start, at_moment, has_all_processes, is_process, next_pid_after, with_process, exit, restart}
use Rattle.ipc_state.specs.State.{is_waiting, with_waiting, without_due, without_waiting}
use Rattle.ipc_state.specs.State.{adjusted, undone, undo_of, without_adjustments, with_undo}
use Rattle.ipc_state.specs.State.{has_all_descriptors, with_descriptor, with_descriptor_flags, closed, objects_in, objects_of, removed, unlinked}
use Rattle.ipc_state.specs.State.{with_entry_of, with_new_of, with_object_of, with_objects, with_objects_of}
use Rattle.ipc_state.specs.Sound.{AreSound, IsSoundContent, IsSoundMq, IsSoundMqMessage, most_of}
use Rattle.ipc_state.specs.Sound.{HasSoundParts, AreAt, AreAdjustments, AreFew, semaphore_count}
use Rattle.ipc_state.specs.Waiting.{PlainWaiting, AreSoundWaits, IsSoundWaiting, deadline_after, deadline_of, has_deadline}
use Rattle.ipc_state.specs.declared.parked.Awaited.TheVariants as awaited
use Rattle.ipc_state.proofs.Numbering.{cleared-numbered, none_yet-numbered}
use Rattle.ipc_state.proofs.Counting.{few-waiting}
use Rattle.ipc_state.proofs.Few.{covered, few-each, each-fewer}
use Rattle.ipc_state.proofs.Binding as binding
use Rattle.ipc_state.proofs.Elsewhere as elsewhere
use Rattle.ipc_state.proofs.SoundSets as sets
use Rattle.ipc_state.proofs.SoundMqs as mqs
use Rattle.ipc_state.proofs.SoundOpening as opening
pub use Rattle.ipc_state.proofs.SoundOpening.{MayBind, MayJoin, MayStandFor, perm_of-mode}
pub use Rattle.ipc_state.proofs.SoundQueues.{new_queue-sound}
pub use Rattle.ipc_state.proofs.SoundSets.{new_set-sound}
use Rattle.ipc_state.proofs.Detaching.{AreDetached, all-detached, by-detached, each-detached, unmarked-kept}
use Rattle.ipc_state.proofs.Adjusting.{HasAll, moved, has-new, has-with, has-adjusted, adjusted-by, exit-length, undone-keeps, all-undone-keeps}
use Rattle.ipc_state.proofs.Adjusting.{each-moved, each-cleared, each-dropped, few-cleared, kept-cleared, none-at, none-few}
use Rattle.ipc_state.proofs.Adjusting.{without-same, push-same, each-pushed, seen-keys}
pub use Rattle.ipc_state.proofs.EntryKeys.{All-seen}
pub use Rattle.ipc_state.proofs.Ending.{HasSameProcesses, IsGood, as_before, by-finish, refused-good, same-processes, same-but-table, same-connected}
pub use Rattle.ipc_state.proofs.Ending.{same-awaited, same-objects}
pub use Rattle.ipc_state.proofs.Changes.{same_in-closed, same_in-exit, same_in-new, same_in-object, same_in-put, same_in-restart, same_in-unlinked}
pub use Rattle.ipc_state.proofs.Elsewhere.{before-then, elsewhere-closed, elsewhere-exit, elsewhere-new, elsewhere-object, elsewhere-table, elsewhere-unlinked}
pub use Rattle.ipc_state.proofs.Elsewhere.{table-objects}
pub use Rattle.ipc_state.proofs.Numbering.{neither}
pub use Rattle.ipc_state.proofs.SoundMqs.{is_on-same}
pub use Rattle.ipc_state.proofs.Steps.{AtEnd, after, after-orelse, after-orstop, after-refuse, after-stop, after-then, at-all, at-failure, at-halt, at-some}
pub use Rattle.ipc_state.proofs.Steps.{at-value, by-if_some, by-test, may-wait, ok-same}
pub use Rattle.ipc_state.proofs.Steps.{HasFound, Tested, finishes, has-found, is_blocked, tested, waits-as-tested, waits-blocked, waits-for}
pub use Rattle.ipc_state.proofs.Steps.{Answered, ends-as, ends-stopped, said, waits-on, AreAlike, alike-waits, orelse-alike, past-alike, same-alike, then-alike}
pub use Rattle.ipc_state.proofs.Weighing.{AreFewer, fewer-kept, fewer-swept, same-fewer}
pub use Rattle.ipc_state.proofs.SoundQueues.{queue-numbers, sent-sound, taken-sound, changed-sound}
pub use Rattle.ipc_state.proofs.SoundSets.{with_value-sound, with_values-sound, carried-sound, changed_set-sound}

-- the mode of an object has nine bits
pub owned_by-mode : (perm : Perm) (uid gid mode : ℕ) → (owned_by perm uid gid mode).mode < 512
owned_by-mode perm uid gid mode = omega (arith, and_le_r mode 511)

module _ (limits : Limits) where
  -- a state with another part that is sound is sound
  set-undo : (s : State) (undo : List (ℕ × Undo)) → HasSoundParts limits s → AreAdjustments limits (keys_of s.processes.entries) s.semset undo
      → HasSoundParts limits (record s { undo = undo })
  set-undo s undo h good = record { processes = h.processes; wait = h.wait; undo = good; msg = h.msg; semset = h.semset; shm = h.shm; named = h.named }

  -- other adjustments of a process, at semaphores that are there, in their range and not 0, and few
  pub with_undo-sound : (s : State) (pid : ℕ) (undo : Undo) → HasSoundParts limits s → AreAt s.semset undo → IsSoundUndo undo → AreFew limits undo
      → HasSoundParts limits (with_undo s pid undo)
  with_undo-sound s pid undo h good kept few =
      set-undo s _ h (record {
        pids = keys_of-with_value nat_eq s.undo pid undo ∙ h.undo.pids;
        each = each-with (AreAt s.semset) s.undo pid undo h.undo.each good;
        kept = each-with IsSoundUndo s.undo pid undo h.undo.kept kept;
        few = each-with (AreFew limits) s.undo pid undo h.undo.few few;
      })

  -- what each process's adjustments are, and none is, those of any number are
  undo_of-each : (P : Undo → Type 0) → P fin.empty → (s : State) (pid : ℕ) → EachValue P s.undo → P (undo_of s pid)
  undo_of-each P none s pid each = by_value (value_at nat_eq s.undo pid) refl
    where
      by_value : (r : Option Undo) → value_at nat_eq s.undo pid ≡ r → P (unwrap_or r fin.empty)
      by_value None is = none
      by_value (Some u) is = each-at P s.undo pid u each is

  -- those that a process has are at such, and in their range
  pub undo_of-at : (s : State) (pid : ℕ) → HasSoundParts limits s → AreAt s.semset (undo_of s pid)
  undo_of-at s pid h = undo_of-each (AreAt s.semset) (none-at s.semset) s pid h.undo.each

  pub undo_of-kept : (s : State) (pid : ℕ) → HasSoundParts limits s → IsSoundUndo (undo_of s pid)
  undo_of-kept s pid h = undo_of-each IsSoundUndo empty-sound s pid h.undo.kept

  pub set-wait : (s : State) (calls : List PlainWaiting) → HasSoundParts limits s → AreSoundWaits limits calls
      → HasSoundParts limits (record s { wait = calls })
  set-wait s calls h good = record { processes = h.processes; wait = good; undo = h.undo; msg = h.msg; semset = h.semset; shm = h.shm; named = h.named }

  none-waits : AreSoundWaits limits []
  none-waits = record { pids = tt; few = omega arith; each = All-nil IsSoundWaiting }

  -- without the call of a process
  pub without-waits : (pid : Pid) (calls : List PlainWaiting) → AreSoundWaits limits calls → AreSoundWaits limits (without pid calls)
  without-waits pid calls h =
      record {
        pids = without-distinct pid calls h.pids;
        few = omega (arith, length-filter_both (is_of pid) (λ (w : PlainWaiting). not (is_of pid w)) (λ w. refl) calls, h.few);
        each = All-filter (λ (w : PlainWaiting). not (is_of pid w)) IsSoundWaiting calls h.each;
      }

  pub without_waiting-sound : (s : State) (pid : ℕ) → HasSoundParts limits s → HasSoundParts limits (without_waiting s pid)
  without_waiting-sound s pid h = set-wait s _ h (without-waits (record { 0 = pid }) s.wait h.wait)

  -- a call more, of a connected process that has none; the processes of the others are connected too
  pub with_waiting-sound : (s : State) (w : PlainWaiting) → HasSoundParts limits s → IsSoundWaiting w → is_waiting s w.pid.0 ≡ false
      → All (λ (v : PlainWaiting). is_process s v.pid.0 ≡ true) s.wait → is_process s w.pid.0 ≡ true → HasSoundParts limits (with_waiting s w)
  with_waiting-sound s w h good free connected process =
      let distinct = HaveDistinctPids-enter s.wait w h.wait.pids (nobody (waiting_call_of w.pid s.wait) free) in
      let all = All-push (λ (v : PlainWaiting). is_process s v.pid.0 ≡ true) s.wait w connected process in
      set-wait s _ h (record {
        pids = distinct;
        few = omega (arith, few-waiting s.processes.entries (s.wait ++ w ∷ []) distinct all, h.processes.numbered.count);
        each = All-push IsSoundWaiting s.wait w h.wait.each good;
      })

  -- so there are fewer calls than processes may be
  pub room-waiting : (s : State) (pid : ℕ) → HasSoundParts limits s → is_waiting s pid ≡ false
      → All (λ (v : PlainWaiting). is_process s v.pid.0 ≡ true) s.wait → is_process s pid ≡ true → length s.wait < limits.processes
  room-waiting s pid h free connected process =
      let call : PlainRequest = record { serial = 0; kind = Interrupt } in
      let w : PlainWaiting = record { pid = record { 0 = pid }; on = awaited.MsgQueue (record { 0 = 0 }); deadline = None; call = call } in
      let distinct = HaveDistinctPids-enter s.wait w h.wait.pids (nobody (waiting_call_of w.pid s.wait) free) in
      let all = All-push (λ (v : PlainWaiting). is_process s v.pid.0 ≡ true) s.wait w connected process in
      omega (arith, few-waiting s.processes.entries (s.wait ++ w ∷ []) distinct all, h.processes.numbered.count, length-append s.wait (w ∷ []))

  -- the objects, and the descriptors
  all-held : (s : State) → HasSoundParts limits s → mqs.AreAllHeld limits s.processes (objects_in s)
  all-held s h = record { processes = h.processes; objects = mqs.sound-of limits s h }

  pub start-sound : HasSoundParts limits start
  start-sound =
      let none : (kind : ObjectKind) → AreSound limits [] kind (objects_of start kind) =
      mqs.on-kinds (AreSound limits []) (objects_in start) (mqs.none-sound limits kinds.MsgQueue) (mqs.none-sound limits kinds.Semset)
      (mqs.none-sound limits kinds.Shm) (mqs.none-sound limits (kinds.Named names.Mq)) (mqs.none-sound limits (kinds.Named names.Psem))
      (mqs.none-sound limits (kinds.Named names.Pshm)) in
      record {
        processes = record { numbered = none_yet-numbered limits.processes; descriptors = All-nil _ };
        wait = none-waits;
        undo = record { pids = refl; each = tt; kept = tt; few = tt };
        msg = none kinds.MsgQueue;
        semset = none kinds.Semset;
        shm = none kinds.Shm;
        named = λ kind. none (kinds.Named kind);
      }

  pub set_moment-sound : (s : State) (moment : ℕ) → HasSoundParts limits s → HasSoundParts limits (at_moment s moment)
  set_moment-sound s moment h = record { processes = h.processes; wait = h.wait; undo = h.undo; msg = h.msg; semset = h.semset; shm = h.shm; named = h.named }

  pub without_due-sound : (s : State) → HasSoundParts limits s → HasSoundParts limits (without_due s)
  without_due-sound s h =
      let now : Moment = record { 0 = s.clock } in
      set-wait s _ h (record {
        pids = left-distinct now s.wait h.wait.pids;
        few = omega (arith, due-or-left now s.wait, h.wait.few);
        each = All-filter (λ (w : PlainWaiting). not (is_due now w)) IsSoundWaiting s.wait h.wait.each;
      })

  -- one adjustment keeps the sets sound
  abbrev AreSets : Keyed Set → Type 0
  AreSets o = AreSound limits [] kinds.Semset o

  adjusted-sound : (pid : ℕ) (o : Keyed Set) (a : Key × ℤ) → AreSets o → AreSets (adjusted pid o a)
  adjusted-sound pid o a h =
      adjusted-by AreSets pid o a
      (λ e is. opening.hold-sound limits [] kinds.Semset o h a.0.0 e (after_exit e.object a.0.1 a.1 (record { 0 = pid })) is
      (sets.after_exit-sound limits e.object a.0.1 a.1 (record { 0 = pid }) (opening.content-of limits [] kinds.Semset o h a.0.0 e is))
      (exit-length e.object a.0.1 a.1 (record { 0 = pid }))) h

  -- of whatever processes
  sets-of : (ps qs : List (ℕ × Process)) (o : Keyed Set) → AreSound limits ps kinds.Semset o → AreSound limits qs kinds.Semset o
  sets-of ps qs o h = mqs.never-open-sound limits kinds.Semset qs o refl h.held.bound h.together

  -- with other sets
  with-sets : (ps : Numbered Process) (o : Objects) (m : Keyed Set) → mqs.AreAllHeld limits ps o → AreSets m
      → mqs.AreAllHeld limits ps (with_kind o kinds.Semset m)
  with-sets ps o m h good = opening.others-held limits ps o h kinds.Semset m (λ may n there. cc) (sets-of [] ps.entries m good)

  -- with some segments detached
  with-segments : (s : State) → HasSoundParts limits s → {segments : Keyed SysSegment} → AreDetached limits s.processes.entries s.shm segments
      → mqs.AreAllHeld limits s.processes (with_kind (objects_in s) kinds.Shm segments)
  with-segments s h {segments} detached =
      opening.others-held limits s.processes (objects_in s) (all-held s h) kinds.Shm segments (λ may n there. detached.there n ∙ there) (detached.sound h.shm)

  pub exit-sound : (s : State) (pid : ℕ) → HasSoundParts limits s → HasSoundParts limits (exit s pid)
  exit-sound s pid h =
      let p : ℕ × Undo = (pid, undo_of s pid) in
      let all : HasAll s.semset (undone s.semset p) = undone-keeps (HasAll s.semset) (has-adjusted s.semset) s.semset p (λ k is. is) in
      let good = undone-keeps AreSets adjusted-sound s.semset p (sets-of s.processes.entries [] s.semset h.semset) in
      let gone = with-segments s h (all-detached limits s.processes.entries s.shm s.clock pid (descriptors_of s.processes.entries pid)) in
      let left = with-sets _ _ (undone s.semset p) (mqs.exit-held limits s.processes pid _ gone) good in
      record {
        processes = left.processes;
        wait = without-waits (record { 0 = pid }) s.wait h.wait;
        undo = record {
          pids = without-same s.undo s.processes.entries pid h.undo.pids;
          each = each-moved s.semset (undone s.semset p) all _ (each-without (AreAt s.semset) s.undo pid h.undo.each);
          kept = each-without IsSoundUndo s.undo pid h.undo.kept;
          few = each-without (AreFew limits) s.undo pid h.undo.few;
        };
        msg = left.objects kinds.MsgQueue;
        semset = left.objects kinds.Semset;
        shm = left.objects kinds.Shm;
        named = λ kind. left.objects (kinds.Named kind);
      }

  pub restart-sound : (s : State) → HasSoundParts limits s → HasSoundParts limits (restart limits s)
  restart-sound s h =
      let good = all-undone-keeps AreSets adjusted-sound s.semset s.undo (sets-of s.processes.entries [] s.semset h.semset) in
      let gone = with-segments s h (each-detached limits s.processes.entries s.shm s.clock s.processes.entries) in
      let left = with-sets _ _ _ (mqs.restart-held limits (next_pid_after limits s) s.processes _ (begun (has_rules_of_three limits)) gone) good in
      record {
        processes = left.processes;
        wait = none-waits;
        undo = record { pids = refl; each = tt; kept = tt; few = tt };
        msg = left.objects kinds.MsgQueue;
        semset = left.objects kinds.Semset;
        shm = left.objects kinds.Shm;
        named = λ kind. left.objects (kinds.Named kind);
      }
    where
      begun : (b : Bool) → AreNumbered {X = Process} limits.processes (record { next = if b then 1 else s.processes.next; entries = [] })
      begun true = none_yet-numbered limits.processes
      begun false = cleared-numbered limits.processes s.processes h.processes.numbered

  pub with_process-sound : (s : State) (cred : Cred) → has_all_processes limits s ≡ false → HasSoundParts limits s → HasSoundParts limits (with_process s cred)
  with_process-sound s cred room h =
      let come = mqs.with_process-held limits s.processes cred (objects_in s) room (all-held s h) in
      record {
        processes = come.processes;
        wait = h.wait;
        undo = record {
          pids = push-same s.undo s.processes.entries s.processes.next fin.empty (record { cred = cred; descriptors = [] }) h.undo.pids;
          each = each-pushed (AreAt s.semset) s.undo s.processes.next fin.empty h.undo.each (none-at s.semset);
          kept = each-pushed IsSoundUndo s.undo s.processes.next fin.empty h.undo.kept empty-sound;
          few = each-pushed (AreFew limits) s.undo s.processes.next fin.empty h.undo.few (none-few limits);
        };
        msg = come.objects kinds.MsgQueue;
        semset = come.objects kinds.Semset;
        shm = come.objects kinds.Shm;
        named = λ kind. come.objects (kinds.Named kind);
      }

  -- the identifiers of the sets stay, and the next one
  pub restart-sets : (s : State)
      → (keys_of (restart limits s).semset.entries ≡ keys_of s.semset.entries) × ((restart limits s).semset.next ≡ s.semset.next)
  restart-sets s =
      all-undone-keeps (λ (o : Keyed Set). (keys_of o.entries ≡ keys_of s.semset.entries) × (o.next ≡ s.semset.next))
      (λ pid o a h. adjusted-by (λ (t : Keyed Set). (keys_of t.entries ≡ keys_of s.semset.entries) × (t.next ≡ s.semset.next)) pid o a
      (λ e is. (keys_of-with_value nat_eq o.entries a.0.0 (holding e (after_exit e.object a.0.1 a.1 (record { 0 = pid }))) ∙ h.0, h.1)) h)
      s.semset s.undo (refl, refl)

  -- of the segments, each detached by those that had it attached, a restart leaves those that are not marked
  pub restart-segments : (s : State) → HasSoundParts limits s
      → (restart limits s).shm ≡ kept_if (λ (e : ℕ × EntryOf kinds.Shm). not e.1.object.is_marked) (detached_each s.clock s.shm s.processes.entries)
  restart-segments s h =
      unmarked-kept limits s.processes.entries (detached_each s.clock s.shm s.processes.entries)
      ((each-detached limits s.processes.entries s.shm s.clock s.processes.entries).sound h.shm)

  -- adjustments at semaphores that are there are no more than there may be semaphores, and so are those of each process
  pub few-at : (s : State) (u : Undo) → HasSoundParts limits s → AreAt s.semset u → fin.len u ≤ limits.semmns
  few-at s u h at =
      let here : fin.len u ≤ semaphore_count s.semset = covered s.semset.entries u at in
      let most : semaphore_count s.semset ≤ limits.semmns = h.semset.together in
      omega (arith, here, most)

  pub few-adjustments : (s : State) → HasSoundParts limits s → EachValue (λ (u : Undo). fin.len u ≤ limits.semmns) s.undo
  few-adjustments s h = each-fewer limits.semmns (semaphore_count s.semset) h.semset.together s.undo (few-each s.semset s.undo h.undo.each)

  -- no process has an adjustment any more at a semaphore, or at a set
  pub without_adjustments-sound : (s : State) (set : ℕ) (num : Option ℕ) → HasSoundParts limits s → HasSoundParts limits (without_adjustments set num s)
  without_adjustments-sound s set num h =
      set-undo s _ h (record {
        pids = seen-keys (cleared set num) s.undo ∙ h.undo.pids;
        each = each-cleared s.semset set num s.undo h.undo.each;
        kept = kept-cleared set num s.undo h.undo.kept;
        few = few-cleared limits set num s.undo h.undo.few;
      })

  -- ---- objects, and descriptors

  set-opened : (s : State) (ps : Numbered Process) (o : Objects) → HasSoundParts limits s → keys_of ps.entries ≡ keys_of s.processes.entries
      → AreAdjustments limits (keys_of s.processes.entries) o.semset s.undo → mqs.AreAllHeld limits ps o
      → HasSoundParts limits (with_objects (record s { processes = ps }) o)
  set-opened s ps o h same at parts =
      record {
        processes = parts.processes;
        wait = h.wait;
        undo = record { pids = at.pids ∙ sym same; each = at.each; kept = at.kept; few = at.few };
        msg = parts.objects kinds.MsgQueue;
        semset = parts.objects kinds.Semset;
        shm = parts.objects kinds.Shm;
        named = λ kind. parts.objects (kinds.Named kind);
      }

  -- adjustments are at semaphores that are there, also as other sets stand for those that were there, or come
  at-put : (s : State) (kind : ObjectKind) (n : ℕ) (e f : EntryOf kind) → entry_of (objects_of s kind) n ≡ Some e
      → MayStandFor limits s.processes.entries kind (objects_of s kind) n e f.object → HasSoundParts limits s
      → AreAdjustments limits (keys_of s.processes.entries) (with_kind (objects_in s) kind (with_entry (objects_of s kind) n f)).semset s.undo
  at-put s kinds.Semset n e f is may h =
      moved limits (keys_of s.processes.entries) s.semset (with_entry s.semset n f) s.undo (λ k was. has-with s.semset n e f is may k ∙ was) h.undo
  at-put s kinds.MsgQueue n e f is may h = h.undo
  at-put s kinds.Shm n e f is may h = h.undo
  at-put s (kinds.Named kind) n e f is may h = h.undo

  at-new : (s : State) (kind : ObjectKind) (e : EntryOf kind) → HasSoundParts limits s
      → AreAdjustments limits (keys_of s.processes.entries) (with_kind (objects_in s) kind (with_new (objects_of s kind) e)).semset s.undo
  at-new s kinds.Semset e h = moved limits (keys_of s.processes.entries) s.semset (with_new s.semset e) s.undo (has-new s.semset e) h.undo
  at-new s kinds.MsgQueue e h = h.undo
  at-new s kinds.Shm e h = h.undo
  at-new s (kinds.Named kind) e h = h.undo

  -- another object in the place of one that is there, used by others
  pub permitted-sound : (s : State) (kind : ObjectKind) (n : ℕ) (e : EntryOf kind) (perm : Perm) (x : Content kind) → entry_of (objects_of s kind) n ≡ Some e
      → perm.mode < 512 → is_bound_so kind e.bound perm x ≡ true → IsSoundContent limits kind x
      → MayStandFor limits s.processes.entries kind (objects_of s kind) n e x → HasSoundParts limits s
      → HasSoundParts limits (with_objects_of s kind (with_entry (objects_of s kind) n (holding (permitting e perm) x)))
  permitted-sound s kind n e perm x is mode so good may h =
      let f : EntryOf kind = holding (permitting e perm) x in
      set-opened s s.processes _ h refl (at-put s kind n e f is may h) (opening.put-all limits s.processes (objects_in s) (all-held s h) kind n f
      (opening.put-sound limits s.processes.entries kind (objects_of s kind) (mqs.sound-of limits s h kind) n e perm x is mode so good may))

  -- used by the same
  pub with_held-sound : (s : State) (kind : ObjectKind) (n : ℕ) (e : EntryOf kind) (x : Content kind) → entry_of (objects_of s kind) n ≡ Some e
      → IsSoundContent limits kind x → MayStandFor limits s.processes.entries kind (objects_of s kind) n e x → HasSoundParts limits s
      → HasSoundParts limits (with_objects_of s kind (with_entry (objects_of s kind) n (holding e x)))
  with_held-sound s kind n e x is good may h =
      set-opened s s.processes _ h refl (at-put s kind n e (holding e x) is may h) (opening.put-all limits s.processes (objects_in s) (all-held s h) kind n
      (holding e x) (opening.hold-sound limits s.processes.entries kind (objects_of s kind) (mqs.sound-of limits s h kind) n e x is good may))

  pub with_object-sound : (s : State) (kind : ObjectKind) (n : ℕ) (e : EntryOf kind) (x : Content kind) → entry_of (objects_of s kind) n ≡ Some e
      → IsSoundContent limits kind x → MayStandFor limits s.processes.entries kind (objects_of s kind) n e x
      → HasSoundParts limits s → HasSoundParts limits (with_object_of s kind n x)
  with_object-sound s kind n e x is good may h =
      let those : Those kind = objects_of s kind in
      subst (λ (o : Those kind). HasSoundParts limits (with_objects_of s kind o))
      (sym (ap (λ (r : Option (EntryOf kind)). unwrap_or (option_map (λ f. with_entry those n (holding f x)) r) those) is))
      (with_held-sound s kind n e x is good may h)

  -- a new object, bound to what names nothing
  pub with_entry-sound : (s : State) (kind : ObjectKind) (e : EntryOf kind) → number_of (same_bound kind) (no_bound kind) (objects_of s kind) e.bound ≡ None
      → is_full (most_of limits kind) (objects_of s kind) ≡ false → e.perm.mode < 512 → is_bound_so kind e.bound e.perm e.object ≡ true
      → keeps kind e.bound e.object ≡ true → IsSoundContent limits kind e.object → MayJoin limits kind (objects_of s kind) e.object
      → HasSoundParts limits s → HasSoundParts limits (with_entry_of s kind e)
  with_entry-sound s kind e unused room mode so stays-so good may h =
      set-opened s s.processes _ h refl (at-new s kind e h) (opening.new-all limits s.processes (objects_in s) (all-held s h) kind e
      (opening.new-sound limits s.processes.entries kind (objects_of s kind) (mqs.sound-of limits s h kind) e unused room mode so stays-so good may))

  -- of this owner and mode
  pub with_new-sound : (s : State) (kind : ObjectKind) (b : BoundOf kind) (cred : Cred) (mode : ℕ) (x : Content kind)
      → number_of (same_bound kind) (no_bound kind) (objects_of s kind) b ≡ None → is_full (most_of limits kind) (objects_of s kind) ≡ false
      → MayBind kind b x → IsSoundContent limits kind x → MayJoin limits kind (objects_of s kind) x → HasSoundParts limits s
      → HasSoundParts limits (with_new_of s kind b cred mode x)
  with_new-sound s kind b cred mode x unused room proper good may h =
      with_entry-sound s kind (record { bound = b; perm = perm_of cred mode; object = x }) unused room (perm_of-mode cred mode)
      (opening.bound-new kind b cred mode x proper) (opening.keeps-new kind b x proper) good may h

  -- one that is bound to none any more, and goes if it is not open
  pub unlinked-sound : (s : State) (kind : ObjectKind) (n : ℕ) → may_open kind ≡ true → HasSoundParts limits s → HasSoundParts limits (unlinked s kind n)
  unlinked-sound s kind n may h =
      set-opened s s.processes _ h refl
      (subst (λ (o : Keyed Set). AreAdjustments limits (keys_of s.processes.entries) o s.undo)
      (sym (elsewhere.open-semset (objects_in s) kind (unbound (parted kind) (no_bound kind) (objects_of s kind) n) may)) h.undo)
      (opening.unlinked-all limits s.processes (objects_in s) (all-held s h) kind n)

  -- a message queue goes
  pub without_msg_queue-sound : (s : State) (id : ℕ) → HasSoundParts limits s → HasSoundParts limits (removed s kinds.MsgQueue id)
  without_msg_queue-sound s id h =
      set-opened s s.processes _ h refl h.undo (opening.without-all limits s.processes (objects_in s) (all-held s h) kinds.MsgQueue id refl)

  -- a set goes, and the adjustments at it
  pub without_semset-sound : (s : State) (id : ℕ) → HasSoundParts limits s → HasSoundParts limits (without_adjustments id None (removed s kinds.Semset id))
  without_semset-sound s id h =
      set-opened (record s { undo = seen_as (cleared id None) s.undo }) s.processes _ (without_adjustments-sound s id None h) refl
      (record {
        pids = seen-keys (cleared id None) s.undo ∙ h.undo.pids;
        each = each-dropped s.semset id s.undo h.undo.each;
        kept = kept-cleared id None s.undo h.undo.kept;
        few = few-cleared limits id None s.undo h.undo.few;
      })
      (opening.without-all limits s.processes (objects_in s) (all-held s h) kinds.Semset id refl)

  -- what holds of an object that is there
  pub content-sound : (s : State) (kind : ObjectKind) (n : ℕ) (e : EntryOf kind) → entry_of (objects_of s kind) n ≡ Some e
      → HasSoundParts limits s → IsSoundContent limits kind e.object
  content-sound s kind n e is h = opening.content-of limits s.processes.entries kind (objects_of s kind) (mqs.sound-of limits s h kind) n e is

  -- a System V segment that is marked has no key
  pub shm-bound : (s : State) (id : ℕ) (e : EntryOf kinds.Shm) → entry_of s.shm id ≡ Some e → HasSoundParts limits s
      → is_bound_so kinds.Shm e.bound e.perm e.object ≡ true
  shm-bound s id e is h =
      All-value_at nat_eq (λ (d : EntryOf kinds.Shm). is_bound_so kinds.Shm d.bound d.perm d.object ≡ true) s.shm.entries id e h.shm.held.forms is

  -- numbers are above 0, so that a directory tells them; and each key or name names the object that is bound to it
  pub kind-positive : (s : State) (kind : ObjectKind) → HasSoundParts limits s → ArePositive (objects_of s kind).entries
  kind-positive s kind h =
      named-positive (objects_of s kind).entries (objects_of s kind).next (mqs.sound-of limits s h kind).held.bound.numbered.numbers

  pub kind-bounds : (s : State) (kind : ObjectKind) → HasSoundParts limits s → AreFound (same_bound kind) (no_bound kind) (objects_of s kind)
  kind-bounds s kind h =
      binding.are-found (mqs.bounds_of kind) (most_of limits kind) (IsSoundContent limits kind) (objects_of s kind) (mqs.sound-of limits s h kind).held.bound

  -- a descriptor more of a process, open on what is there
  pub with_descriptor-sound : (s : State) (pid : ℕ) (d : Descriptor) → has_all_descriptors limits s pid ≡ false
      → is_sound_descriptor (objects_in s) d ≡ true → HasSoundParts limits s → HasSoundParts limits (with_descriptor s pid d)
  with_descriptor-sound s pid d room right h =
      let table = descriptors_of s.processes.entries pid in
      let fewer : length table < limits.descriptors = grind (arith, nat_tests) in
      set-opened s _ (objects_in s) h (opening.table-keys s.processes pid (opened table d)) h.undo
      (opening.opened-held limits s.processes pid (objects_in s) (all-held s h) d fewer right)

  -- other flags of one, with a way in which it is open
  pub with_descriptor_flags-sound : (s : State) (pid fd flags : ℕ)
      → ((d : Descriptor) → descriptor_at s.processes.entries pid fd ≡ Some d → has_access d.on.kind flags ≡ true)
      → HasSoundParts limits s → HasSoundParts limits (with_descriptor_flags s pid fd flags)
  with_descriptor_flags-sound s pid fd flags right h =
      set-opened s _ (objects_in s) h (opening.table-keys s.processes pid (with_flags (descriptors_of s.processes.entries pid) fd flags)) h.undo
      (opening.flags-held limits s.processes pid (objects_in s) (all-held s h) fd flags right)

  pub closed-sound : (s : State) (pid fd : ℕ) → HasSoundParts limits s → HasSoundParts limits (closed s pid fd)
  closed-sound s pid fd h =
      set-opened s _ _ h (opening.table-keys s.processes pid (without_value nat_eq (descriptors_of s.processes.entries pid) fd)) h.undo
      (opening.closed-held limits s.processes pid _
      (with-segments s h (by-detached limits s.processes.entries s.shm s.clock pid (descriptor_at s.processes.entries pid fd))) fd)

  -- what a descriptor of a process is, is sound
  pub descriptor-sound : (s : State) (pid fd : ℕ) (d : Descriptor) → descriptor_at s.processes.entries pid fd ≡ Some d → HasSoundParts limits s
      → is_sound_descriptor (objects_in s) d ≡ true
  descriptor-sound s pid fd d is h = opening.descriptor-sound limits (objects_in s) s.processes.entries pid fd d h.processes.descriptors is

  -- whoever is registered with a queue has it open
  pub mq-registered : (s : State) (n : ℕ) (e : NamedEntry Mq) → entry_of s.mq n ≡ Some e → HasSoundParts limits s
      → is_by_descriptor s.processes.entries n e.object.registration ≡ true
  mq-registered s n e is h =
      opening.All-found (λ (d : ℕ × NamedEntry Mq). is_registered s.processes.entries d ≡ true) s.mq.entries n e (h.named names.Mq).together.registered is

  -- a queue without messages, one with a message more, and one from which a message was received
  pub empty_mq-sound : (maxmsg msgsize : ℕ) → 0 < maxmsg → maxmsg ≤ limits.maxmsg → 0 < msgsize → msgsize ≤ limits.msgsize
      → IsSoundMq limits (empty_queue maxmsg msgsize None)
  empty_mq-sound maxmsg msgsize some few any short =
      record { maxmsg = (some, few); msgsize = (any, short); count = omega arith; messages = All-nil (IsSoundMqMessage msgsize) }

  pub sent_mq-sound : (q : Mq) (m : MqMessage) → IsSoundMq limits q → is_full_mq q ≡ false → m.priority < 32768 → length m.text ≤ q.msgsize
      → IsSoundMq limits (with_message q m)
  sent_mq-sound q m good room priority short =
      let fewer : length q.messages < q.maxmsg = grind (arith, nat_tests) in
      record {
        maxmsg = good.maxmsg;
        msgsize = good.msgsize;
        count = omega (arith, length-append q.messages (m ∷ []), fewer);
        messages = All-push (IsSoundMqMessage q.msgsize) q.messages m good.messages (record { priority = priority; short = short });
      }

  pub received_mq-sound : (q : Mq) → IsSoundMq limits q → IsSoundMq limits (received q)
  received_mq-sound q good = by_place (next_to_receive q.messages)
    where
      by_place : (r : Option ℕ) → IsSoundMq limits (record q { messages = option_map_or (remove q.messages) r q.messages })
      by_place None = good
      by_place (Some at) =
          let P : MqMessage → Type 0 = IsSoundMqMessage q.msgsize in
          let before : List MqMessage = take at q.messages in
          let after : List MqMessage = drop (suc at) q.messages in
          record {
            maxmsg = good.maxmsg;
            msgsize = good.msgsize;
            count = omega (arith, length-append before after, length-take at q.messages, length-drop (suc at) q.messages, good.count);
            messages = All-append P before after (All-take P at q.messages good.messages) (All-drop P (suc at) q.messages good.messages);
          }

-- a restart of what a restart has left leaves it
pub restart-twice : (limits : Limits) (s : State) → restart limits (restart limits s) ≡ restart limits s
restart-twice limits s =
    (λ i. record (restart limits s) {
      processes = record { next = again (has_rules_of_three limits) i; entries = [] };
      shm = mqs.kept-again (stays kinds.Shm []) (detached_each s.clock s.shm s.processes.entries) i;
      mq = mqs.restarted-again s.mq i;
      psem = mqs.kept-again (stays (kinds.Named names.Psem) []) s.psem i;
      pshm = mqs.kept-again (stays (kinds.Named names.Pshm) []) s.pshm i;
    })
  where
    again : (b : Bool) → (if b then 1 else if b then 1 else s.processes.next) ≡ (if b then 1 else s.processes.next)
    again true = refl
    again false = refl

-- a write leaves as many bytes as there were
pub written-length : (x : Segment) (offset : ℕ) (bytes : List ℕ) → is_within offset (length bytes) x ≡ true
    → length (written offset bytes x).bytes ≡ length x.bytes
written-length x offset bytes within =
    let inside : offset + length bytes ≤ length x.bytes = grind (arith, nat_tests) in
    omega (
      arith,
      inside,
      length-append (take offset x.bytes) (bytes ++ drop (offset + length bytes) x.bytes),
      length-append bytes (drop (offset + length bytes) x.bytes),
      length-take offset x.bytes,
      length-drop (offset + length bytes) x.bytes,
    )

-- ---- deadlines

after-sound : (now timeout : ℕ) → IfSome (deadline_after now timeout) (λ d. (true ≡ true) × (d.0 < 2 ^ 64 - 1))
after-sound now timeout = by_test (nat_lt (now + timeout) (2 ^ 64 - 1)) refl
  where
    by_test : (b : Bool) → nat_lt (now + timeout) (2 ^ 64 - 1) ≡ b
        → IfSome (if b then Some (record { 0 = now + timeout }) else None) (λ (d : Moment). (true ≡ true) × (d.0 < 2 ^ 64 - 1))
    by_test true less = (refl, grind (arith, nat_tests))
    by_test false less = tt

-- the deadline of a call that comes is one that it may have
pub deadline-sound : (now : ℕ) (kind : PlainKind) → IfSome (deadline_of now kind) (λ d. (has_deadline kind ≡ true) × (d.0 < 2 ^ 64 - 1))
unfolding deadline_of
deadline-sound now (Sysv (requests.Semop id timeout operations)) = after-sound now timeout
deadline-sound now (Posix (posix.SemWait fd deadline)) = after-sound 0 deadline
deadline-sound now kind = search (rules, after-sound)

-- ---- objects that are held, and those of the definitions

module _ {X : Type 0} (o : HeldObjects ℤ X) (s : Keyed X) (same : o.objects ≡ s) {most : ℕ} {IsSoundOne : X → Type 0} (sound : AreKeyed most IsSoundOne s) where
  -- their identifiers are above 0, and their keys name them
  pub held-named : HaveKeys o.objects
  held-named = subst HaveKeys (sym same) (record { numbers = sound.numbered.numbers; bounds = sound.bounds })

  pub held-positive : ArePositive o.objects.entries
  held-positive = named-positive o.objects.entries o.objects.next held-named.numbers
