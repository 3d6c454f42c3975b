-- What it says that a call went on.
use Rattle.std.proofs.Common.{◌≡◌, ℕ, ℤ, pos, negsuc, ◌<◌, ◌≤◌, Bool, true, false, List, [], Option, Some, None, refl, ap, subst, arith}
use Rattle.std.specs.Prelude.{Ok, Err, Result, if◌then◌else◌, is_some, not, option_map, length, ◌==◌, ◌||◌, min, nat_le, nat_lt}
use Rattle.std.specs.Result.{is_ok}
use Rattle.std.proofs.lemmas.Bool.{le-leb, ltb-false}
use Rattle.std.proofs.lemmas.Bool.Decides.{nat_tests}
use Rattle.ipc_limits.specs.declared.limits.Limits.{Limits}
use Rattle.ipc_state.specs.Sound.{HasSoundParts, IsSoundMq}
use Rattle.ipc_state.proofs.CallerLemmas.{content-sound, empty_mq-sound}
use Rattle.ipc_state.specs.Finish.{Blocks}
use Rattle.ipc_state.proofs.CallerLemmas.{AtEnd, after, after-orelse, after-orstop, after-refuse, after-stop, at-failure, at-value, by-if_some, may-wait}
use Rattle.ipc_base.specs.declared.errno.Errno.{Errno}
use Rattle.ipc_base.specs.declared.errno.Errno.TheVariants.{EACCES, EBADF, EEXIST, EINVAL, EMSGSIZE, ENOENT}
use Rattle.ipc_base.specs.declared.identity.Cred.{Cred}
use Rattle.ipc_keys.specs.Names.{check_name}
use Rattle.ipc_keys.specs.declared.check.NameKind.{NameKind}
use Rattle.ipc_keys.specs.declared.check.NameKind.TheVariants as names
use Rattle.posix_mq.specs.Queue.{Queue as Mq, PlainMessage, empty_queue, is_full, received_message}
use Rattle.ipc_state.specs.declared.descriptors.Descriptor.{Descriptor}
use Rattle.ipc_state.specs.declared.parked.Object.{Object}
use Rattle.ipc_state.specs.declared.parked.ObjectKind.{ObjectKind}
use Rattle.ipc_state.specs.declared.parked.ObjectKind.TheVariants as kinds
use Rattle.ipc_state.specs.Kinds.{Content, EntryOf}
use Rattle.ipc_state.specs.Named.{Named, NamedEntry, named}
use Rattle.ipc_state.specs.Numbered.{entry_of}
use Rattle.ipc_state.specs.Opening.{descriptor_at, object_as, opened_as, same_kind}
use Rattle.ipc_state.specs.State.{State, objects_of}
use Rattle.ipc_state.specs.Touching.{mq_object, object_at, psem_value}
use Rattle.ipc_state.specs.Held.{Ready}
use Rattle.ipc_state.specs.Held.Ready.{Mq as ForMq, Psem as ForPsem, Pshm as ForPshm}
use Rattle.posix_calls.specs.Mq.{Found, asked_or, attributes, limited, open_mq, open_to, receivable, sendable, waits_or_fails}
use Rattle.posix_calls.specs.declared.psem.FoundPsem.{FoundPsem}
use Rattle.posix_calls.specs.Psem.{lowerable, open_semaphore}
use Rattle.posix_calls.specs.Pshm.{FoundPshm, open_pshm, writable}
use Rattle.posix_calls.specs.Open.{number_in, passed, proper, reads, sought, unlinkable, usable, writes}

-- ---- a queue that is open

-- the descriptor by which it is
pub record IsOpen (s : State) (pid fd : ℕ) (found : Found) : Type 0 where
  pub descriptor : Descriptor
  pub at : descriptor_at s.processes.entries pid fd ≡ Some descriptor
  pub on : descriptor.on ≡ opened_as names.Mq found.number
  pub flags : descriptor.flags ≡ found.flags
  pub there : mq_object s found.number ≡ Some found.queue

pub number-is : (kind : NameKind) (on : Object) (n : ℕ) → number_in kind on ≡ Some n → on ≡ opened_as kind n
number-is kind on n = by_kinds on.kind kind
  where
    by_kinds : (k : ObjectKind) (this : NameKind) → (if same_kind k (kinds.Named this) then Some on.number else None) ≡ Some n
        → object_as k on.number ≡ opened_as this n
    by_kinds (kinds.Named names.Mq) names.Mq is = cc
    by_kinds (kinds.Named names.Psem) names.Psem is = cc
    by_kinds (kinds.Named names.Pshm) names.Pshm is = cc
    by_kinds k this is = cc

pub open-ends : {never : Bool} (s : State) (pid fd : ℕ) → AtEnd never (IsOpen s pid fd) (open_mq s pid fd)
open-ends s pid fd =
    after-orelse EBADF (λ d at. after-orelse EBADF (λ n on. after-orelse EBADF (λ q there.
    at-value _ (record { descriptor = d; at = at; on = number-is names.Mq d.on n on; flags = refl; there = there }))))

-- the object of a number has an entry
pub record HasEntry (s : State) (kind : ObjectKind) (n : ℕ) (x : Content kind) : Type 0 where
  pub entry : EntryOf kind
  pub there : entry_of (objects_of s kind) n ≡ Some entry
  pub object : entry.object ≡ x

pub has-entry : (s : State) (kind : ObjectKind) (n : ℕ) (x : Content kind) → object_at s kind n ≡ Some x → HasEntry s kind n x
has-entry s kind n x is = by_entry (entry_of (objects_of s kind) n) refl is
  where
    by_entry : (r : Option (EntryOf kind)) → entry_of (objects_of s kind) n ≡ r
        → option_map (λ (e : EntryOf kind). e.object) r ≡ Some x → HasEntry s kind n x
    by_entry None there is = cc
    by_entry (Some e) there is = record { entry = e; there = there; object = cc }

-- it is sound, and whoever is registered with it has it open
pub queue-sound : (limits : Limits) (s : State) (n : ℕ) (q : Mq) → mq_object s n ≡ Some q → HasSoundParts limits s → IsSoundMq limits q
queue-sound limits s n q is h =
    let e = has-entry s (kinds.Named names.Mq) n q is in subst (IsSoundMq limits) e.object (content-sound limits s (kinds.Named names.Mq) n e.entry e.there h)

-- ---- what is reserved

-- the name of the object for which there is memory
abbrev pub name_of : Ready → List ℕ
name_of (ForMq name) = name
name_of (ForPsem name) = name
name_of (ForPshm name) = name
name_of _ = []

-- ---- calls that may wait

opens-to : {never : Bool} (allows : ℕ → Bool) (s : State) (pid fd : ℕ) → AtEnd never (IsOpen s pid fd) (open_to allows s pid fd)
opens-to allows s pid fd = after (open-ends s pid fd) (λ f o. after-refuse EBADF (λ _. at-value f o))

-- what holds of a message that may be sent now, and of the queue
pub record Sends (s : State) (pid fd priority : ℕ) (text : List ℕ) (found : Found) : Type 0 where
  pub queue : IsOpen s pid fd found
  pub low : nat_lt 32767 priority ≡ false
  pub short : nat_lt found.queue.msgsize (length text) ≡ false
  pub room : is_full found.queue ≡ false

-- a send waits for what a descriptor that is there is open on alone
pub sends : (s : State) (pid fd priority : ℕ) (text : List ℕ)
    → AtEnd (not (is_some (descriptor_at s.processes.entries pid fd))) (Sends s pid fd priority text) (sendable s pid fd priority text)
sends s pid fd priority text =
    after-refuse EINVAL (λ low. after (opens-to writes s pid fd) (λ f o. after-refuse EMSGSIZE (λ short.
    after-stop (may-wait o.at) (waits_or_fails f.flags) (λ room. at-value f (record { queue = o; low = low; short = short; room = room })))))

-- a text that one queue allows is no longer than the longest of any
no-longer : (most msgsize bytes : ℕ) → msgsize ≤ most → nat_lt msgsize bytes ≡ false → not (nat_le bytes most) ≡ false
no-longer most msgsize bytes few short = ap not (le-leb bytes most (omega (arith, few, ltb-false msgsize bytes short)))

-- a send of a longer text is refused before it waits
pub sends-short : (limits : Limits) (s : State) (pid fd priority : ℕ) (text : List ℕ) → HasSoundParts limits s
    → AtEnd (not (nat_le (length text) limits.msgsize)) (IsOpen s pid fd) (sendable s pid fd priority text)
sends-short limits s pid fd priority text h =
    after-refuse EINVAL {b = nat_lt 32767 priority} (λ _. after (opens-to writes s pid fd) (λ f o. after-refuse EMSGSIZE (λ short.
    after-stop (no-longer limits.msgsize f.queue.msgsize (length text) (queue-sound limits s f.number f.queue o.there h).msgsize.1 short)
    (waits_or_fails f.flags) {b = is_full f.queue} (λ _. at-value f o))))

-- what holds of a queue from which a message may be received now, and of the message
pub record Receives (s : State) (pid fd : ℕ) (found : Found × PlainMessage) : Type 0 where
  pub queue : IsOpen s pid fd found.0
  pub message : received_message found.0.queue ≡ Some found.1

pub receives : (s : State) (pid fd size : ℕ)
    → AtEnd (not (is_some (descriptor_at s.processes.entries pid fd))) (Receives s pid fd) (receivable s pid fd size)
receives s pid fd size =
    after (opens-to reads s pid fd) (λ f o. after-refuse EMSGSIZE (λ _. after-orstop (may-wait o.at) (waits_or_fails f.flags) (λ m is.
    at-value (f, m) (record { queue = o; message = is }))))

-- ---- a semaphore that is open

-- the descriptor by which it is
pub record IsOpenPsem (s : State) (pid fd : ℕ) (found : FoundPsem) : Type 0 where
  pub descriptor : Descriptor
  pub at : descriptor_at s.processes.entries pid fd ≡ Some descriptor
  pub on : descriptor.on ≡ opened_as names.Psem found.number
  pub there : psem_value s found.number ≡ Some found.value

pub open_psem-ends : {never : Bool} (s : State) (pid fd : ℕ) → AtEnd never (IsOpenPsem s pid fd) (open_semaphore s pid fd)
open_psem-ends s pid fd =
    after-orelse EINVAL (λ d at. after-orelse EINVAL (λ n on. after-orelse EINVAL (λ value there.
    at-value _ (record { descriptor = d; at = at; on = number-is names.Psem d.on n on; there = there }))))

-- one that may be lowered now
pub record Lowers (s : State) (pid fd : ℕ) (found : FoundPsem) : Type 0 where
  pub semaphore : IsOpenPsem s pid fd found
  pub some : (found.value == 0) ≡ false

pub lowers : (s : State) (pid fd : ℕ) → AtEnd (not (is_some (descriptor_at s.processes.entries pid fd))) (Lowers s pid fd) (lowerable s pid fd)
lowers s pid fd =
    after (open_psem-ends s pid fd) (λ f o. after-stop (may-wait o.at) Blocks (λ some. at-value f (record { semaphore = o; some = some })))

-- ---- a segment that is open

-- the descriptor by which it is
pub record IsOpenPshm (s : State) (pid fd : ℕ) (found : FoundPshm) : Type 0 where
  pub descriptor : Descriptor
  pub at : descriptor_at s.processes.entries pid fd ≡ Some descriptor
  pub on : descriptor.on ≡ opened_as names.Pshm found.number
  pub there : entry_of s.pshm found.number ≡ Some found.entry

pub open_pshm-ends : {never : Bool} (s : State) (pid fd : ℕ) → AtEnd never (IsOpenPshm s pid fd) (open_pshm s pid fd)
open_pshm-ends s pid fd =
    after-orelse EBADF (λ d at. after-orelse EBADF (λ n on. after-orelse EBADF (λ e there.
    at-value _ (record { descriptor = d; at = at; on = number-is names.Pshm d.on n on; there = there }))))

pub writable-ends : {never : Bool} (s : State) (pid fd : ℕ) → AtEnd never (IsOpenPshm s pid fd) (writable s pid fd)
writable-ends s pid fd = after (open_pshm-ends s pid fd) (λ f o. after-refuse EBADF (λ _. at-value f o))

-- ---- what a name finds

-- a step whose answer is a refusal or none
pub passed-ends : {never : Bool} {X : Type 0} (r : Result X Errno) → AtEnd never (λ (x : X). r ≡ Ok x) (passed r)
passed-ends (Ok x) = at-value x refl
passed-ends (Err e) = at-failure e

module _ {never : Bool} where
  -- a name that passes its check
  pub proper-ends : (kind : NameKind) (name : List ℕ) → AtEnd never (λ (x : Unit {0}). is_ok (check_name kind name) ≡ true) (proper kind name)
  proper-ends kind name = by_result (check_name kind name)
    where
      by_result : (r : Result (Unit {0}) Errno) → AtEnd never (λ (x : Unit {0}). is_ok r ≡ true) (passed r)
      by_result (Ok x) = at-value x refl
      by_result (Err e) = at-failure e

  -- if an open finds nothing, no object has the name
  pub sought-ends : {X : Type 0} (o : Named X) (name : List ℕ) (flags : ℕ)
      → AtEnd never (λ (found : Option ℕ). named o name ≡ found) (sought o name flags)
  sought-ends o name flags =
      by-if_some {o = named o name} (λ n is. after-refuse EEXIST (λ _. at-value (Some n) is))
      (λ none. after-refuse ENOENT (λ _. at-value None none))

  pub usable-ends : {X : Type 0} (o : Named X) (cred : Cred) (n asked : ℕ)
      → AtEnd never (λ (e : NamedEntry X). entry_of o n ≡ Some e) (usable o cred n asked)
  usable-ends o cred n asked = after-orelse ENOENT (λ e there. after-refuse EACCES (λ _. at-value e there))

  pub unlinkable-ends : {X : Type 0} (o : Named X) (cred : Cred) (name : List ℕ)
      → AtEnd never (λ (n : ℕ). named o name ≡ Some n) (unlinkable o cred name)
  unlinkable-ends o cred name =
      after-orelse ENOENT {o = named o name} (λ n is. after-orelse ENOENT {o = entry_of o n} (λ e _. after-refuse EACCES (λ _. at-value n is)))

  limited-ends : (limit : ℕ) (asked : ℤ) → AtEnd never (λ (n : ℕ). (0 < n) × (n ≤ limit)) (limited limit asked)
  limited-ends limit (negsuc k) = at-failure EINVAL
  limited-ends limit (pos k) = after-refuse EINVAL (λ few. at-value k (by_test (k == 0) refl few))
    where
      by_test : (b : Bool) → (k == 0) ≡ b → b || nat_lt limit k ≡ false → (0 < k) × (k ≤ limit)
      by_test true none is = cc
      by_test false some is = (grind (arith, nat_tests), grind (arith, nat_tests))

  -- a new queue is sound
  pub attributes-ends : (limits : Limits) (attr : ℕ) (maxmsg msgsize : ℤ)
      → AtEnd never (λ (given : ℕ × ℕ). IsSoundMq limits (empty_queue given.0 given.1 None)) (attributes limits attr maxmsg msgsize)
  attributes-ends limits attr maxmsg msgsize =
      after (limited-ends limits.maxmsg (asked_or attr (min 10 limits.maxmsg) maxmsg)) (λ most few.
      after (limited-ends limits.msgsize (asked_or attr (min 8192 limits.msgsize) msgsize)) (λ bytes short.
      at-value (most, bytes) (empty_mq-sound limits most bytes few.0 few.1 short.0 short.1)))
