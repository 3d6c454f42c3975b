-- What is shown of what a System V call leaves and answers: it is good (from a sound state a sound one, with a body that fits,
-- what others wait for and each object is as it was, but for its own), and all but queues, sets and adjustments is as it was.
use Rattle.std.proofs.Common.{◌≡◌, ◌≢◌, ◌∙◌, ℕ, ℤ, Bool, false, List, Option, Some, None, refl, sym, ap, arith}
use Rattle.std.specs.Prelude.{if◌then◌else◌, is_some, nat_eq, unwrap_or}
use Rattle.std.specs.FinMap as fin
use Rattle.ipc_limits.specs.declared.limits.Limits.{Limits}
use Rattle.ipc_base.specs.Table.{value_at}
use Rattle.ipc_wire.specs.declared.reply.Body.TheVariants.{Empty}
use Rattle.ipc_wire.specs.Reply.{PlainBody}
use Rattle.sem_undo.specs.Undo.{Key, Undo, adjustment}
use Rattle.sysv_msg.specs.Queue.{Queue}
use Rattle.sysv_sem.specs.Set.{Set}
use Rattle.ipc_state.specs.declared.parked.Awaited.{Awaited}
use Rattle.ipc_state.specs.declared.parked.Awaited.TheVariants as awaited
use Rattle.ipc_state.specs.declared.parked.Object.{Object}
use Rattle.ipc_state.specs.declared.parked.ObjectKind.{ObjectKind}
use Rattle.ipc_state.specs.declared.parked.ObjectKind.TheVariants as kinds
use Rattle.ipc_keys.specs.declared.check.NameKind.TheVariants as names
use Rattle.sysv_calls.specs.Calls.{made_by, queue_at, set_at}
use Rattle.ipc_state.specs.Finish.{Attempt, Done, Finish, answer, done_firing}
use Rattle.ipc_state.specs.Keyed.{Keyed, keyed}
use Rattle.ipc_state.specs.Numbered.{entry_of}
use Rattle.ipc_state.specs.Opening.{object_as}
use Rattle.ipc_state.specs.Sound.{FitsBody, HasSoundParts}
use Rattle.ipc_state.specs.State.{State, is_waiting}
use Rattle.ipc_state.specs.Touching.{IsAsBefore, IsSameIn, object_of}
use Rattle.ipc_state.proofs.CallerLemmas.{AreFewer, AtEnd, IsGood, at-value, same-awaited, same-fewer, same-objects, same-processes}

-- it leaves the processes and the POSIX queues as they are, and fires no registration
record IsAlone (s : State) (d : Done) : Type 0 where
  processes : d.state.processes ≡ s.processes
  mq : d.state.mq ≡ s.mq
  fired : d.fired ≡ None

pub record Leaves (limits : Limits) (s : State) (touches : Option Object) (d : Done) : Type 0 where
  pub good : IsGood limits s touches (done_firing d.state d.body d.fired)
  alone : IsAlone s d

-- a call of a process leaves the objects of each other process; it fires no registration, and makes none
pub record IsApart (s : State) (pid : ℕ) (f : Finish) : Type 0 where
  pub objects : (p : ℕ) → p ≢ pid → (on : Awaited) → object_of f.state p on ≡ object_of s p on
  pub mq : AreFewer s.mq f.state.mq
  pub fired : f.fired ≡ None

-- what holds of a call of a process that may change its descriptors, and so of every call, if the process does not wait
pub record LeavesBy (limits : Limits) (s : State) (pid : ℕ) (touches : Option Object) (d : Done) : Type 0 where
  pub good : is_waiting s pid ≡ false → IsGood limits s touches (done_firing d.state d.body d.fired)
  pub apart : IsApart s pid (done_firing d.state d.body d.fired)

-- of one that leaves the processes too
pub by-alone : {limits : Limits} {s : State} {touches : Option Object} {never : Bool} {a : Attempt Done} (pid : ℕ)
    → AtEnd never (Leaves limits s touches) a → AtEnd never (LeavesBy limits s pid touches) a
by-alone {s = s} pid end =
    record {
      holds = λ d is. let left = end.holds d is in record {
        good = λ free. left.good;
        apart = record {
          objects = λ p other on. same-objects s d.state p on left.alone.processes;
          mq = same-fewer s.mq d.state.mq left.alone.mq;
          fired = left.alone.fired;
        };
      };
      runs = end.runs;
    }

-- a queue and a set by their identifier, as what a call may change
abbrev pub queue : ℕ → Option Object
queue id = Some (queue_at id)

abbrev pub set : ℕ → Option Object
set id = Some (set_at id)

pub other_queue : {id n : ℕ} → queue id ≢ Some (queue_at n) → n ≢ id
other_queue apart same = apart (ap queue (sym same))

other_set : {id n : ℕ} → set id ≢ Some (set_at n) → n ≢ id
other_set apart same = apart (ap set (sym same))

-- a get that finds none by its key makes the next one
pub other_made : {X : Type 0} (at : ℕ → Object) (o : Keyed X) (key : ℤ) (n : ℕ) → keyed o key ≡ None → made_by at o key ≢ Some (at n) → n ≢ o.next
other_made at o key n unused apart same =
    apart (ap (λ (r : Option ℕ). if is_some r then None else Some (at o.next)) unused ∙ ap (λ (k : ℕ). Some (at k)) (sym same))

-- the adjustments of a process in a table of them
abbrev pub those : List (ℕ × Undo) → ℕ → Undo
those undo pid = unwrap_or (value_at nat_eq undo pid) fin.empty

module _ {limits : Limits} {s : State} {never : Bool} where
  module _ {touches : Option Object} where
    -- with other queues, sets and adjustments
    ends-with : (msg : Keyed Queue) (semset : Keyed Set) (undo : List (ℕ × Undo)) (body : PlainBody)
        → (HasSoundParts limits s → HasSoundParts limits (record s { msg = msg; semset = semset; undo = undo }))
        → (HasSoundParts limits s → FitsBody limits body)
        → ((n : ℕ) → touches ≢ Some (queue_at n) → entry_of msg n ≡ entry_of s.msg n)
        → ((n : ℕ) → touches ≢ Some (set_at n) → (entry_of semset n ≡ entry_of s.semset n)
        × ((pid num : ℕ) → adjustment (those undo pid) (n, num) ≡ adjustment (those s.undo pid) (n, num)))
        → AtEnd never (Leaves limits s touches) (answer (record s { msg = msg; semset = semset; undo = undo }) body)
    ends-with msg semset undo body sound fits queues sets =
        at-value _ (record {
          good = record {
            state = sound;
            body = fits;
            kept = same-processes s _ refl;
            clock = refl;
            wait = refl;
            others = λ h pid on waits apart there. same pid on apart;
            same = λ h o apart. same_in o.kind o.number apart;
          };
          alone = record { processes = refl; mq = refl; fired = refl };
        })
      where
        same_in : (kind : ObjectKind) (n : ℕ) → touches ≢ Some (object_as kind n)
            → IsSameIn (object_as kind n) s (record s { msg = msg; semset = semset; undo = undo })
        same_in kinds.MsgQueue n apart e is = sym (queues n apart) ∙ is
        same_in kinds.Semset n apart e is = sym (sets n apart).0 ∙ is
        same_in kinds.Shm n apart e is = is
        same_in (kinds.Named names.Mq) n apart e is = is
        same_in (kinds.Named names.Psem) n apart e is = is
        same_in (kinds.Named names.Pshm) n apart e is = is

        same : (pid : ℕ) (on : Awaited) → touches ≢ object_of s pid on → IsAsBefore pid on s (record s { msg = msg; semset = semset; undo = undo })
        same pid (awaited.MsgQueue n) apart = queues n.0 apart
        same pid (awaited.Semset n) apart = sets n.0 apart
        same pid (awaited.Descriptor fd) apart = (
          refl,
          λ kind n waits is. same-awaited s (record s { msg = msg; semset = semset; undo = undo }) refl refl kind n waits,
        )

    -- all is as it was
    pub read-ends : (body : PlainBody) → (HasSoundParts limits s → FitsBody limits body) → AtEnd never (Leaves limits s touches) (answer s body)
    read-ends body fits = ends-with s.msg s.semset s.undo body (λ h. h) fits (λ n apart. refl) (λ n apart. (refl, λ pid num. refl))

    -- the queues alone are others
    pub queues-ends : (msg : Keyed Queue) (body : PlainBody) → (HasSoundParts limits s → HasSoundParts limits (record s { msg = msg }))
        → (HasSoundParts limits s → FitsBody limits body)
        → ((n : ℕ) → touches ≢ Some (queue_at n) → entry_of msg n ≡ entry_of s.msg n)
        → AtEnd never (Leaves limits s touches) (answer (record s { msg = msg }) body)
    queues-ends msg body sound fits queues = ends-with msg s.semset s.undo body sound fits queues (λ n apart. (refl, λ pid num. refl))

    -- the sets alone are others
    pub sets-ends : (semset : Keyed Set) (body : PlainBody) → (HasSoundParts limits s → HasSoundParts limits (record s { semset = semset }))
        → (HasSoundParts limits s → FitsBody limits body)
        → ((n : ℕ) → touches ≢ Some (set_at n) → entry_of semset n ≡ entry_of s.semset n)
        → AtEnd never (Leaves limits s touches) (answer (record s { semset = semset }) body)
    sets-ends semset body sound fits sets =
        ends-with s.msg semset s.undo body sound fits (λ n apart. refl) (λ n apart. (sets n apart, λ pid num. refl))

  -- one set alone, or adjustments at it
  pub one_set-ends : (id : ℕ) (semset : Keyed Set) (undo : List (ℕ × Undo))
      → (HasSoundParts limits s → HasSoundParts limits (record s { semset = semset; undo = undo }))
      → ((n : ℕ) → n ≢ id → entry_of semset n ≡ entry_of s.semset n)
      → ((pid : ℕ) (k : Key) → k.0 ≢ id → adjustment (those undo pid) k ≡ adjustment (those s.undo pid) k)
      → AtEnd never (Leaves limits s (set id)) (answer (record s { semset = semset; undo = undo }) Empty)
  one_set-ends id semset undo sound others elsewhere =
      ends-with s.msg semset undo Empty sound (λ _. omega arith) (λ n apart. refl)
      (λ n apart. (others n (other_set apart), λ pid num. elsewhere pid (n, num) (other_set apart)))
