-- What each call of semaphore sets leaves and answers: semget(2) and semctl(2).
use Rattle.std.proofs.Common.{◌≡◌, ◌≢◌, ◌∙◌, ℕ, ℤ, pos, negsuc, ◌+◌, ◌<◌, ◌≤◌, Bool, false, List, ◌++◌, length, map}
use Rattle.std.proofs.Common.{Option, Some, None, refl, ap, subst, arith}
use Rattle.std.specs.Prelude.{◌==◌, nat_eq, nat_lt, option_map, unwrap_or}
use Rattle.std.specs.FinMap as fin
use Rattle.std.proofs.lemmas.Bool.{ltb-false}
use Rattle.std.proofs.lemmas.Bool.Decides.{nat_tests}
use Rattle.std.proofs.lemmas.List.{length-map, length-replicate, length-set}
use Rattle.std.proofs.lemmas.Simd.{map-map}
use Rattle.ipc_base.specs.declared.errno.Errno.TheVariants.{EINVAL, ENOSPC, ERANGE}
use Rattle.ipc_base.specs.declared.field.Field.TheVariants.{U16}
use Rattle.ipc_base.specs.declared.identity.Cred.{Cred}
use Rattle.ipc_base.specs.declared.identity.Pid.{Pid}
use Rattle.ipc_limits.specs.declared.limits.Limits.{Limits}
use Rattle.ipc_base.specs.Numbers.{record_bytes}
use Rattle.ipc_base.specs.Table.{seen_as, value_at}
use Rattle.ipc_base.proofs.CallerLemmas.{at-map, other-push, other-with, value_at-without}
use Rattle.ipc_perm.specs.declared.perm.Perm.{Perm}
use Rattle.ipc_perm.specs.Perm.{owned_by, asked_by}
use Rattle.ipc_wire.specs.Values.{numbers_in}
use Rattle.ipc_wire.specs.declared.reply.Body.TheVariants.{Empty, Number, Record}
use Rattle.sem_undo.specs.Undo.{Key, Undo, adjustment, cleared}
use Rattle.sem_undo.proofs.CallerLemmas.{cleared_others}
use Rattle.sysv_sem.specs.declared.set.Semaphore.{Semaphore}
use Rattle.sysv_sem.specs.Operation.{most_value}
use Rattle.sysv_sem.specs.Set.{Set, changed, new_set, values_of, with_value, with_values}
use Rattle.ipc_state.specs.declared.parked.ObjectKind.TheVariants as kinds
use Rattle.ipc_state.specs.Finish.{answer}
use Rattle.ipc_state.specs.Bound.{holding, permitting}
use Rattle.ipc_state.specs.Keyed.{Keyed, KeyedEntry, keyed}
use Rattle.ipc_state.specs.Numbered.{is_full}
use Rattle.ipc_state.specs.Sound.{semaphore_count}
use Rattle.ipc_state.specs.State.{State, semset_of, without_adjustments}
use Rattle.ipc_state.proofs.CallerLemmas.{AtEnd, after, after-orelse, after-refuse, by-if_some}
use Rattle.ipc_state.proofs.CallerLemmas.{changed_set-sound, content-sound, new_set-sound, owned_by-mode, permitted-sound, with_held-sound, with_new-sound}
use Rattle.ipc_state.proofs.CallerLemmas.{with_value-sound, with_values-sound, without_adjustments-sound, without_semset-sound}
use Rattle.sysv_calls.specs.Access.{read, write}
use Rattle.sysv_calls.specs.Calls.{made_by, set_at}
use Rattle.sysv_calls.specs.Records.{perm_fields, set_fields}
use Rattle.sysv_calls.specs.Sem.{count_of, has_fewer, made_set, semctl_getall, semctl_getpid, semctl_getval, semctl_rmid, semctl_set, semctl_setall}
use Rattle.sysv_calls.specs.Sem.{semctl_setval, semctl_stat, semget, value_of}
use Rattle.sysv_calls.proofs.Ending.{Leaves, other_made, read-ends, set, one_set-ends, sets-ends, those}
use Rattle.sysv_calls.proofs.Reaching.{accessible-ends, count-few, owned-ends, removed-ends, semaphore-ends, settable-ends, sought-ends}
use Rattle.sysv_calls.proofs.Reaching.{values-length, within-limit}

-- what is cleared at a set changes no adjustment at another
cleared-apart : (undo : List (ℕ × Undo)) (id : ℕ) (num : Option ℕ) (pid : ℕ) (k : Key) → k.0 ≢ id
    → adjustment (those (seen_as (cleared id num) undo) pid) k ≡ adjustment (those undo pid) k
cleared-apart undo id num pid k apart =
    ap (λ (r : Option Undo). adjustment (unwrap_or r fin.empty) k) (at-map (cleared id num) undo pid) ∙ by_value (value_at nat_eq undo pid)
  where
    by_value : (r : Option Undo) → adjustment (unwrap_or (option_map (cleared id num) r) fin.empty) k ≡ adjustment (unwrap_or r fin.empty) k
    by_value None = refl
    by_value (Some u) = cleared_others u id num k apart

value-fits : (value : ℤ) (v : ℕ) → value_of value ≡ Some v → v ≤ most_value
value-fits (pos k) v is = let w = within-limit k most_value v is in omega (arith, w.0, w.1)
value-fits (negsuc k) v is = cc

-- a semaphore of a new set
abbrev fresh : Semaphore
fresh = record { value = 0; pid = record { 0 = 0 } }

some-of : (n : ℕ) → (n == 0) ≡ false → 0 < n
some-of n is = grind (arith, nat_tests)

module _ (limits : Limits) (s : State) (cred : Cred) {never : Bool} where
  made-ends : (key : ℤ) (flags n : ℕ) → keyed s.semset key ≡ None → n ≤ limits.semmsl
      → AtEnd never (Leaves limits s (made_by set_at s.semset key)) (made_set limits s cred key flags n)
  made-ends key flags n unused few =
      after-refuse EINVAL {b = n == 0} (λ some. after-refuse ENOSPC {b = is_full limits.semmni s.semset} (λ room.
      after-refuse ENOSPC {b = nat_lt limits.semmns (semaphore_count s.semset + n)} (λ all.
      sets-ends _ (Number s.semset.next) (with_new-sound limits s kinds.Semset key cred flags (new_set n s.clock) unused room tt
      (new_set-sound limits n s.clock (some-of n some) few)
      (omega (arith, length-replicate n fresh, ltb-false limits.semmns (semaphore_count s.semset + n) all)))
      (λ _. omega arith) (λ n apart. other-push s.semset.entries s.semset.next n _ (other_made set_at s.semset key n unused apart)))))

  pub semget-ends : (key nsems : ℤ) (flags : ℕ) → AtEnd never (Leaves limits s (made_by set_at s.semset key)) (semget limits s cred key nsems flags)
  semget-ends key nsems flags =
      after-orelse EINVAL {o = count_of limits nsems} (λ n is. after (sought-ends s.semset key flags) (λ found unused. by-if_some {o = found}
      (λ id _. after-refuse EINVAL {b = has_fewer (semset_of s id) n} (λ _.
      after (accessible-ends false s.semset cred id (asked_by flags)) (λ e _. read-ends (Number id) (λ _. omega arith))))
      (λ none. made-ends key flags n (unused none) (count-few limits nsems n is))))

  pub semctl_getval-ends : (id num : ℕ) → AtEnd never (Leaves limits s None) (semctl_getval s cred id num)
  semctl_getval-ends id num = after (semaphore-ends s cred id num read) (λ found _. read-ends (Number found.1.value) (λ _. omega arith))

  pub semctl_getpid-ends : (id num : ℕ) → AtEnd never (Leaves limits s None) (semctl_getpid s cred id num)
  semctl_getpid-ends id num = after (semaphore-ends s cred id num read) (λ found _. read-ends (Number found.1.pid.0) (λ _. omega arith))

  pub semctl_setval-ends : (pid id num : ℕ) (value : ℤ) → AtEnd never (Leaves limits s (set id)) (semctl_setval s cred pid id num value)
  semctl_setval-ends pid id num value =
      after (semaphore-ends s cred id num write) (λ found ok. after-orelse ERANGE {o = value_of value} (λ v is.
      let e : KeyedEntry Set = found.0 in
      let p : Pid = record { 0 = pid } in
      let new : Set = with_value e.object num v p s.clock in
      one_set-ends id _ _ (λ h. without_adjustments-sound limits _ id (Some num) (with_held-sound limits s kinds.Semset id e new ok.there
      (with_value-sound limits e.object num v p s.clock (value-fits value v is) (content-sound limits s kinds.Semset id e ok.there h))
      (length-set e.object.semaphores num (record { value = v; pid = p })) h))
      (λ n. other-with s.semset.entries id n (holding e new)) (cleared-apart s.undo id (Some num))))

  pub semctl_getall-ends : (id : ℕ) → AtEnd never (Leaves limits s None) (semctl_getall s cred id)
  semctl_getall-ends id =
      after (accessible-ends false s.semset cred id read) (λ e there. read-ends (Record (record_bytes (map U16 (values_of e.object)))) (λ h.
      omega (
        arith,
        ap (λ fs. length (record_bytes fs)) (map-map U16 (λ (x : Semaphore). x.value) e.object.semaphores),
        values-length e.object.semaphores,
        (content-sound limits s kinds.Semset id e there h).few,
      )))

  pub semctl_setall-ends : (pid id : ℕ) (bytes : List ℕ) → AtEnd never (Leaves limits s (set id)) (semctl_setall s cred pid id bytes)
  semctl_setall-ends pid id bytes =
      after (settable-ends s cred id (numbers_in bytes)) (λ e ok.
      let values : List ℕ = numbers_in bytes in
      let p : Pid = record { 0 = pid } in
      let new : Set = with_values e.object values p s.clock in
      one_set-ends id _ _ (λ h. without_adjustments-sound limits _ id None (with_held-sound limits s kinds.Semset id e new ok.there
      (with_values-sound limits e.object values p s.clock ok.count ok.values (content-sound limits s kinds.Semset id e ok.there h))
      (length-map values (λ v. let x : Semaphore = record { value = v; pid = p } in x) ∙ ok.count) h))
      (λ n. other-with s.semset.entries id n (holding e new)) (cleared-apart s.undo id None))

  pub semctl_stat-ends : (id : ℕ) → AtEnd never (Leaves limits s None) (semctl_stat s cred id)
  semctl_stat-ends id =
      after (accessible-ends false s.semset cred id read)
      (λ e _. read-ends (Record (record_bytes (perm_fields e e.perm.mode ++ set_fields e.object))) (λ _. omega arith))

  pub semctl_set-ends : (id uid gid mode : ℕ) → AtEnd never (Leaves limits s (set id)) (semctl_set s cred id uid gid mode)
  semctl_set-ends id uid gid mode =
      after (owned-ends s.semset cred id) (λ e there.
      let perm : Perm = owned_by e.perm uid gid mode in
      let new : Set = changed e.object s.clock in
      one_set-ends id _ s.undo (λ h. permitted-sound limits s kinds.Semset id e perm new there (owned_by-mode e.perm uid gid mode) refl
      (changed_set-sound limits e.object s.clock (content-sound limits s kinds.Semset id e there h)) refl h)
      (λ n. other-with s.semset.entries id n (holding (permitting e perm) new)) (λ pid k apart. refl))

  pub semctl_rmid-ends : (id : ℕ) → AtEnd never (Leaves limits s (set id)) (semctl_rmid s cred id)
  semctl_rmid-ends id =
      after (removed-ends s.semset cred id) (λ sets is.
      subst (λ (m : Keyed Set). AtEnd never (Leaves limits s (set id)) (answer (without_adjustments id None (record s { semset = m })) Empty)) is
      (one_set-ends id _ _ (without_semset-sound limits s id) (value_at-without s.semset.entries id) (cleared-apart s.undo id None)))
