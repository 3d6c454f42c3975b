-- A sound state in which no call waits is sound under limits none of which is less, if it has no more than those of
-- version 3 allow; and a restart leaves no call waiting, and no adjustment.
use Rattle.std.proofs.Common.{◌≡◌, ◌+◌, ◌*◌, ◌≤◌, ◌<◌, ℕ, List, [], ◌∷◌, get_or, refl, ap, subst, sym, ◌∙◌, arith}
use Rattle.std.specs.FinMap as fin
use Rattle.std.specs.Prelude.{All, None, Some, Option, Bool, true, false, not, nat_le, if◌then◌else◌, length}
use Rattle.std.proofs.lemmas.List.Elements.{All-nil, All-weaker}
use Rattle.std.proofs.lemmas.List.Folds.{list_all_at}
use Rattle.std.specs.List.{list_all}
use Rattle.std.proofs.lemmas.Nat.{mul-le}
use Rattle.ipc_limits.specs.declared.limits.Limits.{Limits}
use Rattle.ipc_limits.specs.Limits.{exceeds, if_of_three, message_limit, queue_bytes_limit}
use Rattle.ipc_base.specs.Table.{keys_of, EachValue}
use Rattle.ipc_base.proofs.CallerLemmas.{rising-weaker}
use Rattle.ipc_keys.specs.declared.check.NameKind.{NameKind}
use Rattle.ipc_keys.specs.declared.check.NameKind.TheVariants as names
use Rattle.posix_mq.specs.Queue.{Queue as Mq}
use Rattle.sysv_msg.specs.Queue.{Queue, PlainMessage}
use Rattle.ipc_state.specs.declared.parked.ObjectKind.{ObjectKind}
use Rattle.ipc_state.specs.declared.parked.ObjectKind.TheVariants as kinds
use Rattle.ipc_state.specs.declared.processes.Process.{Process}
use Rattle.ipc_state.specs.Bound.{AreBound}
use Rattle.ipc_state.specs.Kinds.{Content, Objects, Those, no_bound, same_bound}
use Rattle.ipc_state.specs.Numbered.{Numbered, AreNumbered}
use Rattle.sem_undo.specs.Undo.{Undo}
use Rattle.ipc_state.specs.Sound.{AreFew, AreSound, AreSoundDescriptors, AreSoundProcesses, AreSoundTogether, HasSoundParts, IsSoundContent}
use Rattle.ipc_state.specs.Sound.{IsSoundMessage, IsSoundMq, IsSoundMsgQueue, most_of}
use Rattle.ipc_state.specs.Keyed.{KeyedEntry}
use Rattle.ipc_state.specs.declared.objects.Entry.{Entry}
use Rattle.ipc_state.specs.State.{State, mq_bytes, named_of, objects_in, restart}
use Rattle.ipc_state.specs.Waiting.{PlainWaiting, IsSoundWaiting}
use Rattle.ipc_engine.specs.Sound.{HasToWait, IsSound}
use Rattle.ipc_image.proofs.CallerLemmas.{EachAtLeast}
use Rattle.ipc_image.specs.Format.{format}
use Rattle.ipc_image.specs.Sizes.{sectors, process_sectors, object_sectors, area_of}
use Rattle.ipc_store.specs.Larger.{exceeded_field, has_few_adjustments_in, has_few_bytes_in, has_few_messages_in}

-- a restart leaves no call waiting
pub restart-waits : (limits : Limits) (s : State) → (restart limits s).wait ≡ []
restart-waits limits s = refl

-- what a negation and a test without an answer say
not-true : (a : Bool) → not a ≡ true → a ≡ false
not-true true is = cc
not-true false is = refl

if-none : (a : Bool) (n : ℕ) (r : Option ℕ) → (if a then r else Some n) ≡ None → (a ≡ true) × (r ≡ None)
if-none true n r is = (refl, is)
if-none false n r is = cc

-- it leaves no adjustment
pub restart-undo : (limits : Limits) (s : State) → (restart limits s).undo ≡ []
restart-undo limits s = refl

-- an object has no more parts than the limits of version 3 allow
abbrev HasFew : Limits → (kind : ObjectKind) → Content kind → Type 0
HasFew m kinds.MsgQueue q = exceeds (length q.messages) (message_limit m) ≡ false
HasFew m kinds.Semset s = Unit {0}
HasFew m kinds.Shm x = Unit {0}
HasFew m (kinds.Named kind) x = Unit {0}

-- a state has no more than they allow
pub record IsFew (m : Limits) (s : State) : Type 0 where
  pub messages : All (λ e. HasFew m kinds.MsgQueue e.1.object) s.msg.entries
  pub adjustments : EachValue (AreFew m) s.undo
  pub bytes : exceeds (mq_bytes s.mq) (queue_bytes_limit m) ≡ false

module _ (m : Limits) (two : m.version ≡ 2) where
  -- version 2 has no limit of version 3
  no-limit : (most : ℕ) → if_of_three m most ≡ None
  no-limit most = ap (λ (v : ℕ). if nat_le 3 v then Some most else None) two

  few : (undo : List (ℕ × Undo)) → EachValue (AreFew m) undo
  few [] = tt
  few (e ∷ undo) = (ap (exceeds (fin.len e.1)) (no-limit m.semume), few undo)

  each-few : (entries : List (ℕ × KeyedEntry Queue)) → All (λ e. HasFew m kinds.MsgQueue e.1.object) entries
  each-few entries = λ k d lt. ap (exceeds (length (get_or entries k d).1.object.messages)) (no-limit m.msgqlen)

  pub few-of-two : (s : State) → IsFew m s
  few-of-two s = record {
    messages = each-few s.msg.entries;
    adjustments = few s.undo;
    bytes = ap (exceeds (mq_bytes s.mq)) (no-limit m.queue_bytes);
  }

-- no field is exceeded by a state that has no adjustment
module _ (m : Limits) where
  -- a test that all pass is passed by each
  passed-by : {X : Type 0} (p : X → Bool) (xs : List X) (k : ℕ) (d : X) → k < length xs → list_all p xs ≡ true → (b : Bool) → p (get_or xs k d) ≡ b
      → b ≡ true
  passed-by p xs k d lt all true is = refl
  passed-by p xs k d lt all false is = let bad : true ≡ false = sym all ∙ list_all_at p xs k d lt is in cc

  from-messages : (entries : List (ℕ × KeyedEntry Queue)) → has_few_messages_in m entries ≡ true
      → All (λ e. HasFew m kinds.MsgQueue e.1.object) entries
  from-messages entries is = λ k d lt.
      not-true (exceeds (length (get_or entries k d).1.object.messages) (message_limit m))
      (passed-by (λ e. not (exceeds (length e.1.object.messages) (message_limit m))) entries k d lt is _ refl)

  pub few-of-three : (s : State) → s.undo ≡ [] → exceeded_field m s ≡ None → IsFew m s
  few-of-three s none is =
      let messages = if-none (has_few_messages_in m s.msg.entries) 19 _ is in
      let adjustments = if-none (has_few_adjustments_in m s.undo) 20 _ messages.1 in
      record {
        messages = from-messages s.msg.entries messages.0;
        adjustments = subst (λ (undo : List (ℕ × Undo)). EachValue (AreFew m) undo) (sym none) tt;
        bytes = not-true _ (if-none (has_few_bytes_in m s.mq.entries) 21 None adjustments.1).0;
      }

module _ (l m : Limits) (le : EachAtLeast m l) where
  most : (kind : ObjectKind) → most_of l kind ≤ most_of m kind
  most kinds.MsgQueue = le.msgmni
  most kinds.Semset = le.semmni
  most kinds.Shm = le.shmmni
  most (kinds.Named names.Mq) = le.queues
  most (kinds.Named names.Psem) = le.named_semaphores
  most (kinds.Named names.Pshm) = le.segments

  -- ---- an object

  message : (x : PlainMessage) → IsSoundMessage l x → IsSoundMessage m x
  message x h = record { above = h.above; short = omega (arith, h.short, le.msgmax) }

  msg_queue : (q : Queue) → HasFew m kinds.MsgQueue q → IsSoundMsgQueue l q → IsSoundMsgQueue m q
  msg_queue q few h = record {
    bytes = omega (arith, h.bytes, le.msgmnb);
    count = omega (arith, h.count, le.msgmnb);
    limit = few;
    qbytes = omega (arith, h.qbytes, le.msgmnb);
    messages = All-weaker (IsSoundMessage l) (IsSoundMessage m) message q.messages h.messages;
  }

  mq : (q : Mq) → IsSoundMq l q → IsSoundMq m q
  mq q h = record {
    maxmsg = (h.maxmsg.0, omega (arith, h.maxmsg.1, le.maxmsg));
    msgsize = (h.msgsize.0, omega (arith, h.msgsize.1, le.msgsize));
    count = h.count;
    messages = h.messages;
  }

  content : (kind : ObjectKind) (x : Content kind) → HasFew m kind x → IsSoundContent l kind x → IsSoundContent m kind x
  content kinds.MsgQueue q few h = msg_queue q few h
  content kinds.Semset s few h = record { some = h.some; few = omega (arith, h.few, le.semmsl); values = h.values }
  content kinds.Shm x few h = (h.0, omega (arith, h.1, le.shmmax))
  content (kinds.Named names.Mq) q few h = mq q h
  content (kinds.Named names.Psem) value few h = h
  content (kinds.Named names.Pshm) x few h = tt

  -- ---- those of a kind

  -- what those of a kind have together
  abbrev HasFewTogether : (kind : ObjectKind) → Those kind → Type 0
  HasFewTogether kinds.MsgQueue o = Unit {0}
  HasFewTogether kinds.Semset o = Unit {0}
  HasFewTogether kinds.Shm o = Unit {0}
  HasFewTogether (kinds.Named names.Mq) o = exceeds (mq_bytes o) (queue_bytes_limit m) ≡ false
  HasFewTogether (kinds.Named names.Psem) o = Unit {0}
  HasFewTogether (kinds.Named names.Pshm) o = Unit {0}

  together : (processes : List (ℕ × Process)) (kind : ObjectKind) (o : Those kind) → HasFewTogether kind o
      → AreSoundTogether l processes kind o → AreSoundTogether m processes kind o
  together processes kinds.MsgQueue o few h = tt
  together processes kinds.Semset o few h = omega (arith, h, le.semmns)
  together processes kinds.Shm o few h = omega (arith, h, le.shmall)
  together processes (kinds.Named names.Mq) o few h = record { registered = h.registered; bytes = few }
  together processes (kinds.Named names.Psem) o few h = tt
  together processes (kinds.Named names.Pshm) o few h = omega (arith, h, le.segment_bytes)

  numbered : {X : Type 0} (few more : ℕ) (o : Numbered X) → few ≤ more → AreNumbered few o → AreNumbered more o
  numbered few more o less h = record { numbers = h.numbers; next = h.next; count = omega (arith, h.count, less) }

  each : (kind : ObjectKind) {B : Type 0} (entries : List (ℕ × Entry B (Content kind))) → All (λ e. HasFew m kind e.1.object) entries
      → All (λ e. IsSoundContent l kind e.1.object) entries → All (λ e. IsSoundContent m kind e.1.object) entries
  each kind entries has h = λ k d lt. content kind (get_or entries k d).1.object (has k d lt) (h k d lt)

  bound : (kind : ObjectKind) (o : Those kind) → All (λ e. HasFew m kind e.1.object) o.entries
      → AreBound (same_bound kind) (no_bound kind) (most_of l kind) (IsSoundContent l kind) o
      → AreBound (same_bound kind) (no_bound kind) (most_of m kind) (IsSoundContent m kind) o
  bound kind o few h = record {
    numbered = numbered (most_of l kind) (most_of m kind) o (most kind) h.numbered;
    bounds = h.bounds;
    modes = h.modes;
    each = each kind o.entries few h.each;
  }

  objects : (processes : List (ℕ × Process)) (kind : ObjectKind) (o : Those kind) → All (λ e. HasFew m kind e.1.object) o.entries → HasFewTogether kind o
      → AreSound l processes kind o → AreSound m processes kind o
  objects processes kind o few all h = record {
    held = record { bound = bound kind o few h.held.bound; forms = h.held.forms; stay = h.held.stay };
    together = together processes kind o all h.together;
  }

  -- a kind of which no object has a limit of version 3
  unlimited : {X : Type 0} (entries : List X) → All (λ (e : X). Unit {0}) entries
  unlimited entries = λ k d lt. tt

  -- ---- processes

  descriptors : (o : Objects) (p : ℕ × Process) → AreSoundDescriptors l o p.1.descriptors → AreSoundDescriptors m o p.1.descriptors
  descriptors o p h = record {
    numbers = rising-weaker 0 (keys_of p.1.descriptors) l.descriptors m.descriptors le.descriptors h.numbers;
    each = h.each;
  }

  process : (o : Objects) (processes : Numbered Process) → AreSoundProcesses l o processes → AreSoundProcesses m o processes
  process o processes h = record {
    numbered = numbered l.processes m.processes processes le.processes h.numbered;
    descriptors = All-weaker (λ p. AreSoundDescriptors l o p.1.descriptors) (λ p. AreSoundDescriptors m o p.1.descriptors) (descriptors o)
        processes.entries h.descriptors;
  }

  -- ---- the state

  parts : (s : State) → s.wait ≡ [] → IsFew m s → HasSoundParts l s → HasSoundParts m s
  parts s none few h = record {
    processes = process (objects_in s) s.processes h.processes;
    wait = rw none (record { pids = tt; few = omega arith; each = All-nil IsSoundWaiting });
    undo = record { pids = h.undo.pids; each = h.undo.each; kept = h.undo.kept; few = few.adjustments };
    msg = objects s.processes.entries kinds.MsgQueue s.msg few.messages tt h.msg;
    semset = objects s.processes.entries kinds.Semset s.semset (unlimited s.semset.entries) tt h.semset;
    shm = objects s.processes.entries kinds.Shm s.shm (unlimited s.shm.entries) tt h.shm;
    named = λ kind. named s few h kind;
  }
    where
      named : (s : State) → IsFew m s → HasSoundParts l s → (kind : NameKind)
          → AreSound m s.processes.entries (kinds.Named kind) (named_of s kind)
      named s few h names.Mq = objects s.processes.entries (kinds.Named names.Mq) s.mq (unlimited s.mq.entries) few.bytes (h.named names.Mq)
      named s few h names.Psem = objects s.processes.entries (kinds.Named names.Psem) s.psem (unlimited s.psem.entries) tt (h.named names.Psem)
      named s few h names.Pshm = objects s.processes.entries (kinds.Named names.Pshm) s.pshm (unlimited s.pshm.entries) tt (h.named names.Pshm)

pub sound-greater : (l m : Limits) (s : State) → EachAtLeast m l → s.wait ≡ [] → IsFew m s → IsSound l s → IsSound m s
sound-greater l m s le none few h = record {
  parts = parts l m le s none few h.parts;
  waits = subst (λ (calls : List PlainWaiting). All (HasToWait m s) calls) (sym none) (All-nil (HasToWait m s));
}

-- an area grows with the limits
pub area-greater : (l m : Limits) → EachAtLeast m l → area_of l ≤ area_of m
area-greater l m le =
    let descriptors = mul-le l.processes (16 + 16 * l.descriptors) m.processes (16 + 16 * m.descriptors) le.processes (omega (arith, le.descriptors)) in
    let adjustments = mul-le (12 * l.processes) l.semmns (12 * m.processes) m.semmns (omega (arith, le.processes)) le.semmns in
    let processes : process_sectors format l ≤ process_sectors format m = omega (arith, le.processes, descriptors, adjustments) in
    let queues = mul-le l.msgmni (sectors (64 + 13 * l.msgmnb)) m.msgmni (sectors (64 + 13 * m.msgmnb)) le.msgmni (omega (arith, le.msgmnb)) in
    let sets = mul-le l.semmni (sectors (44 + 6 * l.semmsl)) m.semmni (sectors (44 + 6 * m.semmsl)) le.semmni (omega (arith, le.semmsl)) in
    let messages = mul-le l.maxmsg (8 + l.msgsize) m.maxmsg (8 + m.msgsize) le.maxmsg (omega (arith, le.msgsize)) in
    let mqs =
    mul-le l.queues (sectors (299 + l.maxmsg * (8 + l.msgsize))) m.queues (sectors (299 + m.maxmsg * (8 + m.msgsize))) le.queues
    (omega (arith, messages)) in
    let objects : object_sectors format l ≤ object_sectors format m =
    omega (arith, queues, sets, mqs, le.named_semaphores, le.segments, le.segment_bytes, le.shmmni, le.shmall) in
    omega (arith, processes, objects, le.msgmni, le.semmni, le.queues, le.named_semaphores, le.segments, le.shmmni)
