-- What a list of operations leaves and answers (semop(2)), and how many of them wait (semctl(2)).
use Rattle.std.proofs.Common.{◌≡◌, ◌≢◌, ◌∙◌, ℕ, ℤ, pos, ◌<◌, Bool, true, false, cond, List, [], ◌∷◌, length, Option, Some, None, refl, ap, arith}
use Rattle.std.specs.Prelude.{if◌then◌else◌, nat_eq, unwrap_or}
use Rattle.std.specs.FinMap as fin
use Rattle.std.specs.List.{fold}
use Rattle.std.proofs.lemmas.List.Elements.{All-weaker}
use Rattle.ipc_base.specs.declared.identity.Cred.{Cred}
use Rattle.ipc_base.specs.declared.identity.Pid.{Pid}
use Rattle.ipc_limits.specs.declared.limits.Limits.{Limits}
use Rattle.ipc_base.specs.Table.{value_at, with_value}
use Rattle.ipc_base.proofs.CallerLemmas.{at-with, other-with}
use Rattle.ipc_wire.specs.declared.reply.Body.TheVariants.{Number}
use Rattle.sem_undo.specs.Undo.{Key, Undo, adjustment, subtracted}
use Rattle.sem_undo.proofs.CallerLemmas.{subtracted_others}
use Rattle.sysv_sem.specs.declared.operation.Operation.{Operation}
use Rattle.sysv_sem.specs.Operation.{has_undo}
use Rattle.sysv_sem.specs.Set.{Set, carried, values_of}
use Rattle.sysv_sem.proofs.CallerLemmas.{length-carried}
use Rattle.ipc_state.specs.declared.parked.ObjectKind.TheVariants as kinds
use Rattle.ipc_state.specs.Bound.{holding}
use Rattle.ipc_state.specs.Keyed.{KeyedEntry}
use Rattle.ipc_state.specs.Numbered.{entry_of}
use Rattle.ipc_state.specs.Sound.{HasSoundParts, has_semaphore}
use Rattle.ipc_state.specs.State.{State, undo_of, with_semset}
use Rattle.ipc_state.proofs.CallerLemmas.{AtEnd, after, at-all, carried-sound, content-sound, undo_of-at, undo_of-kept, with_held-sound, with_undo-sound}
use Rattle.sysv_calls.specs.Access.{read}
use Rattle.sysv_calls.specs.Semop.{count_stopped, held_by, noted, operated, operations_of, semctl_getcnt, semop}
use Rattle.sysv_calls.proofs.Ending.{Leaves, read-ends, set, one_set-ends, those}
use Rattle.sysv_calls.proofs.Reaching.{Operates, operates, semaphore-ends}
use Rattle.sysv_calls.proofs.Noting.{has-within, noted-all, noted-kept}

-- if a process has the same there as before, all have
pub put-apart : (undo : List (ℕ × Undo)) (pid : ℕ) (new : Undo) (k : Key) → adjustment new k ≡ adjustment (those undo pid) k
    → (p : ℕ) → adjustment (those (with_value nat_eq undo pid new) p) k ≡ adjustment (those undo p) k
put-apart [] pid new k same p = refl
put-apart (e ∷ es) pid new k same p = by_owner (nat_eq e.0 pid) same (λ later. put-apart es pid new k later p)
  where
    by_reader : (b : Bool) (x y : Undo) (r t : Option Undo) → adjustment x k ≡ adjustment y k
        → adjustment (unwrap_or r fin.empty) k ≡ adjustment (unwrap_or t fin.empty) k
        → adjustment (unwrap_or (cond b (Some x) r) fin.empty) k ≡ adjustment (unwrap_or (cond b (Some y) t) fin.empty) k
    by_reader true x y r t first rest = first
    by_reader false x y r t first rest = rest

    by_owner : (b : Bool) → adjustment new k ≡ adjustment (unwrap_or (cond b (Some e.1) (value_at nat_eq es pid)) fin.empty) k
        → (adjustment new k ≡ adjustment (those es pid) k → adjustment (those (with_value nat_eq es pid new) p) k ≡ adjustment (those es p) k)
        → adjustment (those (cond b ((e.0, new) ∷ es) (e ∷ with_value nat_eq es pid new)) p) k ≡ adjustment (those (e ∷ es) p) k
    by_owner true first later = by_reader (nat_eq e.0 p) new e.1 (value_at nat_eq es p) (value_at nat_eq es p) first refl
    by_owner false first later = by_reader (nat_eq e.0 p) e.1 e.1 (value_at nat_eq (with_value nat_eq es pid new) p) (value_at nat_eq es p) refl (later first)

-- operations on a set change no adjustment at another
pub noted-apart : (id : ℕ) (undo : Undo) (ops : List Operation) (k : Key) → k.0 ≢ id → adjustment (fold (noted id) undo ops) k ≡ adjustment undo k
noted-apart id undo [] k apart = refl
noted-apart id undo (o ∷ rest) k apart = noted-apart id (noted id undo o) rest k apart ∙ by_test (has_undo o)
  where
    by_test : (b : Bool) → adjustment (if b then subtracted undo (id, o.num) o.sem_op else undo) k ≡ adjustment undo k
    by_test true =
        ap (λ (r : Option ℤ). unwrap_or r (pos 0)) (subtracted_others undo (id, o.num) k o.sem_op (λ same. apart (ap (λ (q : Key). q.0) same)))
    by_test false = refl

module _ (limits : Limits) (s : State) where
  -- what a list of operations leaves is sound
  operated-sound : (pid id : ℕ) (ops : List Operation) (found : KeyedEntry Set × List ℕ) → Operates limits s pid id ops found → HasSoundParts limits s
      → HasSoundParts limits (operated s pid id ops found)
  operated-sound pid id ops found ok h =
      let e : KeyedEntry Set = found.0 in
      let p : Pid = record { 0 = pid } in
      let new : Set = carried e.object found.1 ops p s.clock in
      let t : State = with_semset s id (holding e new) in
      let held = held_by s pid id in
      let long = length-carried e.object held ok.done.0 ops found.1 p s.clock ok.done.1 in
      let good = carried-sound limits e.object held ok.done.0 ops found.1 p s.clock ok.done.1 (content-sound limits s kinds.Semset id e ok.there h) in
      let whole : HasSoundParts limits t = with_held-sound limits s kinds.Semset id e new ok.there good long h in
      let there : entry_of t.semset id ≡ Some (holding e new) = at-with s.semset.entries id (holding e new) e ok.there in
      with_undo-sound limits t pid (fold (noted id) (undo_of s pid) ops) whole (noted-all t.semset id (undo_of s pid) ops (undo_of-at limits t pid whole)
      (All-weaker (λ o. o.num < length e.object.semaphores) (λ o. has_semaphore t.semset (id, o.num) ≡ true)
      (λ o is. has-within t.semset id o.num (holding e new) there (omega (arith, is, long))) ops ok.within))
      (noted-kept id 0 (values_of e.object) held ops found.1 ok.done.0 (undo_of s pid) ok.done.1 (λ n. refl) (undo_of-kept limits s pid h)) ok.noted

  pub semop-ends : (cred : Cred) (pid : ℕ) (again : Bool) (id : ℕ) (operations : List ℕ)
      → AtEnd false (Leaves limits s (set id)) (semop limits s cred pid again id operations)
  semop-ends cred pid again id operations =
      let ops = operations_of operations in
      after (at-all (operates limits s cred pid again id ops)) (λ found ok.
      one_set-ends id _ _ (operated-sound pid id ops found ok)
      (λ n. other-with s.semset.entries id n (holding found.0 (carried found.0.object found.1 ops (record { 0 = pid }) s.clock)))
      (λ p k apart. put-apart s.undo pid (fold (noted id) (undo_of s pid) ops) k (noted-apart id (undo_of s pid) ops k apart) p))

  pub semctl_getcnt-ends : {never : Bool} (cred : Cred) (zero : Bool) (id num : ℕ)
      → AtEnd never (Leaves limits s None) (semctl_getcnt limits s cred zero id num)
  semctl_getcnt-ends cred zero id num =
      after (semaphore-ends s cred id num read) (λ found _. read-ends (Number (count_stopped limits s zero id num)) (λ _. omega arith))
