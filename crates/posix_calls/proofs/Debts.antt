-- How many registrations a process has, when a queue is changed, and what of a process stays as it is.
use Rattle.std.proofs.Common.{◌≡◌, ℕ, ◌+◌, ◌≤◌, get_or, length, Bool, true, false, cond, List, [], ◌∷◌, Option, Some, None, refl, sym, ap, ◌∙◌, arith}
use Rattle.std.specs.Prelude.{All, ◌==◌, ◌&&◌, nat_eq, is_some, option_map, unwrap_or, sum_by, if◌then◌else◌}
use Rattle.std.proofs.lemmas.Bool.Decides.{nat_tests}
use Rattle.std.proofs.lemmas.List.Elements.{All-head, All-tail}
use Rattle.std.proofs.lemmas.List.Sums.{sum_by-cons, sum_by-le}
use Rattle.ipc_base.specs.Table.{value_at, with_value}
use Rattle.ipc_limits.specs.declared.limits.Limits.{Limits}
use Rattle.ipc_wire.specs.declared.reply.Body.TheVariants.{Empty}
use Rattle.posix_mq.specs.Queue.{Queue as Mq, PlainMessage, deregistered as without_registration}
use Rattle.posix_mq.specs.declared.queue.Registration.{Registration}
use Rattle.ipc_state.specs.declared.parked.ObjectKind.TheVariants as kinds
use Rattle.ipc_state.specs.declared.descriptors.Descriptor.{Descriptor}
use Rattle.ipc_state.specs.declared.parked.Awaited.TheVariants as awaited
use Rattle.ipc_state.specs.Bound.{holding, rebound, unbound, without_bound}
use Rattle.ipc_state.specs.Named.{NamedEntry}
use Rattle.ipc_state.specs.Numbered.{entry_of, with_entry}
use Rattle.ipc_keys.specs.declared.check.NameKind.{NameKind}
use Rattle.ipc_keys.specs.declared.check.NameKind.TheVariants as names
use Rattle.ipc_state.specs.Opening.{is_by, is_by_descriptor, is_on, is_registered, opened_as, stays}
use Rattle.ipc_state.specs.Sound.{HasSoundParts}
use Rattle.ipc_state.specs.State.{State, closed, exit, is_process, restart, unlinked}
use Rattle.ipc_state.specs.State.{with_mq, without_descriptor, without_process}
use Rattle.ipc_state.specs.declared.processes.Process.{Process}
use Rattle.ipc_state.specs.Touching.{mq_object}
use Rattle.ipc_state.proofs.CallerLemmas.{fewer-kept, fewer-swept}
use Rattle.posix_calls.specs.Mq.{arrived, firing, is_own}
use Rattle.posix_calls.specs.Mq.{notified, registration}
use Rattle.posix_calls.specs.Registrations.{may_make, own, registrations}
use Rattle.posix_calls.proofs.Reaching.{has-entry}

-- ---- registrations of one process

module _ (p : ℕ) where
  abbrev pub of-entry : ℕ × NamedEntry Mq → ℕ
  of-entry e = own p e.1.object.registration

  put : (es : List (ℕ × NamedEntry Mq)) (n : ℕ) (e x : NamedEntry Mq) → value_at nat_eq es n ≡ Some e
      → sum_by of-entry (with_value nat_eq es n x) + own p e.object.registration ≡ sum_by of-entry es + own p x.object.registration
  put [] n e x is = cc
  put (g ∷ es) n e x is = by_test (nat_eq g.0 n) is (put es n e x)
    where
      by_test : (b : Bool) → cond b (Some g.1) (value_at nat_eq es n) ≡ Some e
          → (value_at nat_eq es n ≡ Some e
          → sum_by of-entry (with_value nat_eq es n x) + own p e.object.registration ≡ sum_by of-entry es + own p x.object.registration)
          → sum_by of-entry (cond b ((g.0, x) ∷ es) (g ∷ with_value nat_eq es n x)) + own p e.object.registration
          ≡ sum_by of-entry (g ∷ es) + own p x.object.registration
      by_test true there rest =
          let same : g.1 ≡ e = cc in
          let own-same : own p g.1.object.registration ≡ own p e.object.registration = ap (λ (f : NamedEntry Mq). own p f.object.registration) same in
          let new : ℕ × NamedEntry Mq = (g.0, x) in
          omega (arith, sum_by-cons of-entry new es, sum_by-cons of-entry g es, own-same)
      by_test false there rest =
          omega (arith, sum_by-cons of-entry g es, sum_by-cons of-entry g (with_value nat_eq es n x), rest there)

  -- another queue in the place of one
  pub put-mq : (s : State) (n : ℕ) (q new : Mq) → mq_object s n ≡ Some q
      → registrations (with_mq s n new) p + own p q.registration ≡ registrations s p + own p new.registration
  put-mq s n q new is =
      let e = has-entry s (kinds.Named names.Mq) n q is in
      let whole = put s.mq.entries n e.entry (holding e.entry new) e.there in
      let same : own p e.entry.object.registration ≡ own p q.registration = ap (λ (r : Mq). own p r.registration) e.object in
      let state : registrations (with_mq s n new) p ≡ sum_by of-entry (with_value nat_eq s.mq.entries n (holding e.entry new)) =
      ap
      (λ (r : Option (NamedEntry Mq)). sum_by of-entry (unwrap_or (option_map (λ (f : NamedEntry Mq). with_entry s.mq n (holding f new)) r) s.mq).entries)
      e.there in
      omega (arith, whole, same, state)

  pub fewer-closed : (s : State) (pid fd : ℕ) → registrations (closed s pid fd) p ≤ registrations s p
  fewer-closed s pid fd = fewer-swept (own p) refl (without_descriptor s pid fd).processes.entries (is_by (Some pid) (Some fd)) s.mq.entries

  fewer-exited : (s : State) (gone : ℕ) → registrations (exit s gone) p ≤ registrations s p
  fewer-exited s gone = fewer-swept (own p) refl (without_process s gone).processes.entries (is_by (Some gone) None) s.mq.entries

  fewer-restarted : (limits : Limits) (s : State) → registrations (restart limits s) p ≤ registrations s p
  fewer-restarted limits s = fewer-swept (own p) refl [] (is_by None None) s.mq.entries

  -- one with each queue at most
  few-registrations : (es : List (ℕ × NamedEntry Mq)) → sum_by of-entry es ≤ length es
  few-registrations es = omega (arith, sum_by-le of-entry 1 es (λ k d i. one (is_own p (get_or es k d).1.object.registration)))
    where
      one : (b : Bool) → (if b then 1 else 0) ≤ 1
      one true = omega arith
      one false = omega arith

  -- who is registered has a descriptor, and so is a process
  none-registered : (ps : List (ℕ × Process)) → is_some (value_at nat_eq ps p) ≡ false → (es : List (ℕ × NamedEntry Mq))
      → All (λ (e : ℕ × NamedEntry Mq). is_registered ps e ≡ true) es → sum_by of-entry es ≡ 0
  none-registered ps gone [] all = refl
  none-registered ps gone (e ∷ es) all =
      omega (
        arith,
        sum_by-cons of-entry e es,
        none-of e.1.object.registration (All-head (λ (d : ℕ × NamedEntry Mq). is_registered ps d ≡ true) e es all),
        none-registered ps gone es (All-tail (λ (d : ℕ × NamedEntry Mq). is_registered ps d ≡ true) e es all),
      )
    where
      no-descriptor : (r : Option Process) → is_some r ≡ false → (fd : ℕ)
          → unwrap_or (option_map (λ (d : Descriptor). is_on (opened_as names.Mq e.0) d.on)
          (value_at nat_eq (unwrap_or (option_map (λ (q : Process). q.descriptors) r) []) fd)) false ≡ false
      no-descriptor None is fd = refl
      no-descriptor (Some q) is fd = cc

      none-of : (r : Option Registration) → is_by_descriptor ps e.0 r ≡ true → own p r ≡ 0
      none-of None is = refl
      none-of (Some r) is = by_test (r.pid.0 == p) refl
        where
          by_test : (b : Bool) → (r.pid.0 == p) ≡ b → ◌≡◌ {A = ℕ} (if b then 1 else 0) 0
          by_test false other = refl
          by_test true same =
              let one : r.pid.0 ≡ p = grind (arith, nat_tests, same) in
              let none = no-descriptor (value_at nat_eq ps r.pid.0) (ap (λ (q : ℕ). is_some (value_at nat_eq ps q)) one ∙ gone) r.descriptor in
              absurd (let both : true ≡ false = sym is ∙ none in cc)

  pub fewer-unlinked : (s : State) (kind : NameKind) (n : ℕ) → registrations (unlinked s (kinds.Named kind) n) p ≤ registrations s p
  fewer-unlinked s names.Psem n = fewer-kept (own p) refl (stays (kinds.Named names.Mq) s.processes.entries) s.mq.entries
  fewer-unlinked s names.Pshm n = fewer-kept (own p) refl (stays (kinds.Named names.Mq) s.processes.entries) s.mq.entries
  fewer-unlinked s names.Mq n =
      omega (
        arith,
        fewer-kept (own p) refl (stays (kinds.Named names.Mq) s.processes.entries) (unbound (λ x. x) [] s.mq n).entries,
        by_entry (entry_of s.mq n) refl,
      )
    where
      by_entry : (r : Option (NamedEntry Mq)) → entry_of s.mq n ≡ r → sum_by of-entry (without_bound (λ x. x) [] s.mq n r).entries ≤ registrations s p
      by_entry None is = omega arith
      by_entry (Some e) is = omega (arith, put s.mq.entries n e (rebound (λ x. x) e []) is)

  -- what is sent is no more than was registered
  fewer-notifies : (r : Option Registration) → own p (notified r) ≤ own p r
  fewer-notifies None = omega arith
  fewer-notifies (Some r) = by_test r.sends
    where
      by_test : (b : Bool) → own p (if b then Some r else None) ≤ own p (Some r)
      by_test true = omega arith
      by_test false = omega arith

  pub fewer-arrived : (notifies : Bool) (q : Mq) (m : PlainMessage)
      → own p (firing notifies q) + own p (arrived notifies q m).registration ≤ own p q.registration
  fewer-arrived true q m = omega (arith, fewer-notifies q.registration)
  fewer-arrived false q m = omega arith

  pub fewer-given_up : (own-one : Bool) (q : Mq) → own p (if own-one then without_registration q else q).registration ≤ own p q.registration
  fewer-given_up true q = omega arith
  fewer-given_up false q = omega arith

  pub none-own : (r : Option Registration) → is_some r ≡ false → own p r ≡ 0
  none-own None is = refl
  none-own (Some r) is = cc

  -- a call that makes one answers so
  pub made-one : (pid fd kind cookie : ℕ) → own p (Some (registration pid fd kind cookie)) ≤ may_make pid Empty p
  made-one pid fd kind cookie = by_test (pid == p) refl (nat_eq p pid) refl
    where
      by_test : (a : Bool) → (pid == p) ≡ a → (b : Bool) → nat_eq p pid ≡ b → (if a then 1 else 0) ≤ (if b && true then 1 else 0)
      by_test true same true is = omega arith
      by_test true same false is =
          let one : pid ≡ p = grind (arith, nat_tests, same) in
          let other : nat_eq p pid ≡ true = grind (arith, nat_tests, one) in
          absurd (let both : true ≡ false = sym other ∙ is in cc)
      by_test false same b is = omega arith

-- ---- what the crates above cite of registrations

pub registrations-exited : (s : State) (gone p : ℕ) → registrations (exit s gone) p ≤ registrations s p
registrations-exited s gone p = fewer-exited p s gone

pub registrations-restarted : (limits : Limits) (s : State) (p : ℕ) → registrations (restart limits s) p ≤ registrations s p
registrations-restarted limits s p = fewer-restarted p limits s

pub registrations-few : (limits : Limits) (s : State) (p : ℕ) → HasSoundParts limits s → registrations s p ≤ limits.queues
registrations-few limits s p h = omega (arith, few-registrations p s.mq.entries, (h.named names.Mq).held.bound.numbered.count)

pub registrations-none : (limits : Limits) (s : State) (p : ℕ) → HasSoundParts limits s → is_process s p ≡ false → registrations s p ≡ 0
registrations-none limits s p h gone = none-registered p s.processes.entries gone s.mq.entries (h.named names.Mq).together.registered
