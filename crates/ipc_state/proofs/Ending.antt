-- A call is shown by its steps: from a sound state it leaves a sound state, the body of its answer fits, and what others
-- wait for is as before, and each object but its own.
use Rattle.std.proofs.Common.{◌≡◌, ◌≢◌, ℕ, Bool, true, false, List, [], ◌∷◌, Option, Some, None, refl, sym, ap, subst, ◌∙◌, arith}
use Rattle.std.specs.Prelude.{Ok, Err, is_some, option_map, unwrap_or, nat_eq, if◌then◌else◌}
use Rattle.std.proofs.lemmas.Bool.Decides.{nat_tests}
use Rattle.ipc_base.specs.declared.errno.Errno.{Errno}
use Rattle.ipc_base.specs.declared.identity.Cred.{Cred}
use Rattle.ipc_limits.specs.declared.limits.Limits.{Limits}
use Rattle.ipc_base.specs.Table.{keys_of, value_at}
use Rattle.ipc_keys.specs.declared.check.NameKind.TheVariants as names
use Rattle.posix_mq.specs.Queue.{Queue as Mq}
use Rattle.ipc_state.specs.declared.descriptors.Descriptor.{Descriptor}
use Rattle.ipc_state.specs.declared.parked.Awaited.{Awaited}
use Rattle.ipc_state.specs.declared.parked.Awaited.TheVariants as awaited
use Rattle.ipc_state.specs.declared.parked.Object.{Object}
use Rattle.ipc_state.specs.declared.parked.ObjectKind.{ObjectKind}
use Rattle.ipc_state.specs.declared.parked.ObjectKind.TheVariants as kinds
use Rattle.ipc_state.specs.declared.processes.Process.{Process}
use Rattle.ipc_state.specs.Descriptors.{Table}
use Rattle.ipc_state.specs.Finish.{Finish, IfFinishes, Attempt, Fails, Blocks, Done, ended, done_firing, refused}
use Rattle.ipc_state.specs.Named.{Named, NamedEntry}
use Rattle.ipc_state.specs.Numbered.{Numbered, entry_of}
use Rattle.ipc_state.specs.Opening.{descriptor_at, with_table}
use Rattle.ipc_state.specs.Sound.{HasSoundParts, FitsBody}
use Rattle.ipc_state.specs.State.{State, cred_of, is_process, is_waiting}
use Rattle.ipc_state.specs.Touching.{is_awaited, object_at, object_of, is_there, IsAsBefore, IsSameIn}
use Rattle.ipc_state.proofs.SoundOpening as opening

pub as_before : (pid : ℕ) (on : Awaited) (s : State) → IsAsBefore pid on s s
as_before pid (awaited.MsgQueue id) s = refl
as_before pid (awaited.Semset id) s = (refl, λ pid num. refl)
as_before pid (awaited.Descriptor fd) s = (refl, λ kind n may is. refl)

-- what a call that names a descriptor may wait on is the same, if the POSIX queues and the named semaphores are
pub same-awaited : (s t : State) → t.mq ≡ s.mq → t.psem ≡ s.psem → (kind : ObjectKind) (n : ℕ) → is_awaited kind ≡ true
    → object_at t kind n ≡ object_at s kind n
same-awaited s t mqs sems (kinds.Named names.Mq) n may = ap (λ (o : Named Mq). option_map (λ (e : NamedEntry Mq). e.object) (entry_of o n)) mqs
same-awaited s t mqs sems (kinds.Named names.Psem) n may = ap (λ (o : Named ℕ). option_map (λ (e : NamedEntry ℕ). e.object) (entry_of o n)) sems
same-awaited s t mqs sems kind n may = cc

-- the same keys have values
same_keys : {X : Type 0} (es fs : List (ℕ × X)) (k : ℕ) → keys_of fs ≡ keys_of es → is_some (value_at nat_eq fs k) ≡ is_some (value_at nat_eq es k)
same_keys [] [] k same = refl
same_keys [] (f ∷ fs) k same = cc
same_keys (e ∷ es) [] k same = cc
same_keys (e ∷ es) (f ∷ fs) k same =
    let key : f.0 ≡ e.0 = cc in
    let rest : keys_of fs ≡ keys_of es = cc in
    ap (λ (n : ℕ). is_some (if nat_eq n k then Some f.1 else value_at nat_eq fs k)) key ∙ by_test (nat_eq e.0 k) (same_keys es fs k rest)
  where
    by_test : (b : Bool) → is_some (value_at nat_eq fs k) ≡ is_some (value_at nat_eq es k)
        → is_some (if b then Some f.1 else value_at nat_eq fs k) ≡ is_some (if b then Some e.1 else value_at nat_eq es k)
    by_test true rest = refl
    by_test false rest = rest

-- the user and the group of a process; those of nobody, if it is none
abbrev cred_in : Option Process → Cred
cred_in r = unwrap_or (option_map (λ (p : Process). p.cred) r) (record { uid = 65534; gid = 65534 })

-- the same processes are connected, each of the user and the group that it had
pub record HasSameProcesses (before after : State) : Type 0 where
  pub next : after.processes.next ≡ before.processes.next
  pub pids : keys_of after.processes.entries ≡ keys_of before.processes.entries
  pub creds : (pid : ℕ) → cred_of after pid ≡ cred_of before pid

pub same-processes : (before after : State) → after.processes ≡ before.processes → HasSameProcesses before after
same-processes before after same =
    record {
      next = ap (λ (o : Numbered Process). o.next) same;
      pids = ap (λ (o : Numbered Process). keys_of o.entries) same;
      creds = λ pid. ap (λ (o : Numbered Process). cred_in (entry_of o pid)) same;
    }

-- other descriptors of a process change nobody
pub same-but-table : (before after : State) (pid : ℕ) (table : Table) → after.processes ≡ with_table before.processes pid table → HasSameProcesses before after
same-but-table before after pid table put =
    record {
      next = ap (λ (o : Numbered Process). o.next) put ∙ opening.table-next before.processes pid table;
      pids = ap (λ (o : Numbered Process). keys_of o.entries) put ∙ opening.table-keys before.processes pid table;
      creds = λ p. ap (λ (o : Numbered Process). cred_in (entry_of o p)) put ∙ by_pid p (nat_eq p pid) refl;
    }
  where
    own-cred : (r : Option Process) → entry_of before.processes pid ≡ r
        → cred_in (entry_of (with_table before.processes pid table) pid) ≡ cred_in (entry_of before.processes pid)
    own-cred None is = ap (λ (o : Numbered Process). cred_in (entry_of o pid)) (opening.table-none before.processes pid table is)
    own-cred (Some q) is = ap cred_in (opening.table-own before.processes pid table q is) ∙ sym (ap cred_in is)

    by_pid : (p : ℕ) (b : Bool) → nat_eq p pid ≡ b → cred_in (entry_of (with_table before.processes pid table) p) ≡ cred_in (entry_of before.processes p)
    by_pid p true is =
        let same : p ≡ pid = grind (arith, nat_tests) in
        subst (λ (n : ℕ). cred_in (entry_of (with_table before.processes pid table) n) ≡ cred_in (entry_of before.processes n)) (sym same)
        (own-cred (entry_of before.processes pid) refl)
    by_pid p false is = let other : p ≢ pid = λ same. grind (arith, nat_tests) in ap cred_in (opening.table-other before.processes pid table p other)

-- so whoever was connected is
pub same-connected : (before after : State) (pid : ℕ) → HasSameProcesses before after → is_process after pid ≡ is_process before pid
same-connected before after pid same = same_keys before.processes.entries after.processes.entries pid same.pids

-- and has the same objects, if the descriptors are the same
pub same-objects : (s t : State) (pid : ℕ) (on : Awaited) → t.processes ≡ s.processes → object_of t pid on ≡ object_of s pid on
same-objects s t pid (awaited.MsgQueue id) same = refl
same-objects s t pid (awaited.Semset id) same = refl
same-objects s t pid (awaited.Descriptor fd) same =
    ap (λ (ps : Numbered Process). option_map (λ (d : Descriptor). d.on) (descriptor_at ps.entries pid fd)) same

-- What is to be shown of what a call that began in a state leaves and answers, if it may change this object alone: the
-- state stays sound, the body of the answer fits, and all else that others wait for is as it was, and each other object.
pub record IsGood (limits : Limits) (s : State) (touches : Option Object) (f : Finish) : Type 0 where
  pub state : HasSoundParts limits s → HasSoundParts limits f.state
  pub body : HasSoundParts limits s → FitsBody limits f.body
  pub kept : HasSameProcesses s f.state
  pub clock : f.state.clock ≡ s.clock
  pub wait : f.state.wait ≡ s.wait
  pub others : HasSoundParts limits s → (pid : ℕ) (on : Awaited) → is_waiting s pid ≡ true → touches ≢ object_of s pid on → is_there pid on s ≡ true
      → IsAsBefore pid on s f.state
  pub same : HasSoundParts limits s → (o : Object) → touches ≢ Some o → IsSameIn o s f.state

-- what holds of a call that is done, and of one that is refused, holds where it comes to its end
pub by-finish : (P : Finish → Type 0) (s : State) (a : Attempt Done) → ((d : Done) → a ≡ Ok d → P (done_firing d.state d.body d.fired))
    → ((e : Errno) → P (refused s e)) → IfFinishes P (ended s a)
by-finish P s (Ok d) ends fails = ends d refl
by-finish P s (Err (Fails e)) ends fails = fails e
by-finish P s (Err Blocks) ends fails = tt

-- a call that is refused changes nothing
pub refused-good : (limits : Limits) (s : State) (touches : Option Object) (e : Errno) → IsGood limits s touches (refused s e)
refused-good limits s touches e =
    record {
      state = λ h. h;
      body = λ h. omega arith;
      kept = same-processes s s refl;
      clock = refl;
      wait = refl;
      others = λ h pid on waits apart there. as_before pid on s;
      same = λ h o apart e is. is;
    }
