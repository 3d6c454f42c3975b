-- What each call of System V segments leaves and answers: shmget(2), shmop(2) and shmctl(2). An attach and a detach change
-- the descriptors of the caller besides.
use Rattle.std.proofs.Common.{◌≡◌, ◌≢◌, ◌∙◌, ℕ, ℤ, ◌+◌, ◌<◌, ◌≤◌, Bool, true, false, List, length, drop, Option, Some, None, refl, sym, ap, subst, arith}
use Rattle.std.specs.Prelude.{◌==◌, ◌||◌, nat_eq, nat_lt, is_some, option_map}
use Rattle.std.proofs.lemmas.Bool.{ltb-false, not-false, or_parts}
use Rattle.std.proofs.lemmas.Bool.Decides.{nat_tests}
use Rattle.std.proofs.lemmas.List.{length-replicate, length-take}
use Rattle.ipc_base.specs.declared.errno.Errno.{Errno}
use Rattle.ipc_base.specs.declared.errno.Errno.TheVariants.{EBADF, EINVAL, EMFILE, ENOSPC}
use Rattle.ipc_base.specs.declared.identity.Cred.{Cred}
use Rattle.ipc_limits.specs.declared.limits.Limits.{Limits}
use Rattle.ipc_base.specs.Numbers.{record_bytes}
use Rattle.ipc_base.specs.Table.{without as without_value}
use Rattle.ipc_base.proofs.CallerLemmas.{is_some-with_value, other-push, other-with}
use Rattle.ipc_keys.specs.declared.check.NameKind.TheVariants as names
use Rattle.ipc_perm.specs.declared.perm.Perm.{Perm}
use Rattle.ipc_perm.specs.Perm.{asked_by, owned_by}
use Rattle.ipc_wire.specs.declared.reply.Body.TheVariants.{Empty, Number, Record}
use Rattle.ipc_wire.specs.Reply.{PlainBody}
use Rattle.shm_segment.specs.Segment.{part}
use Rattle.shm_segment.specs.SysSegment.{SysSegment, attached, changed, new_segment, written}
use Rattle.ipc_state.specs.declared.descriptors.Descriptor.{Descriptor}
use Rattle.ipc_state.specs.declared.parked.Awaited.{Awaited}
use Rattle.ipc_state.specs.declared.parked.Awaited.TheVariants as awaited
use Rattle.ipc_state.specs.declared.parked.Object.{Object}
use Rattle.ipc_state.specs.declared.parked.ObjectKind.{ObjectKind}
use Rattle.ipc_state.specs.declared.parked.ObjectKind.TheVariants as kinds
use Rattle.ipc_state.specs.Bound.{holding, permitting}
use Rattle.ipc_state.specs.Descriptors.{Table, lowest_unused, opened}
use Rattle.ipc_state.specs.Finish.{answer}
use Rattle.ipc_state.specs.Keyed.{Keyed, KeyedEntry, keyed}
use Rattle.ipc_state.specs.Numbered.{entry_of, is_full, with_entry}
use Rattle.ipc_state.specs.Opening.{descriptor_at, descriptors_of, is_by, object_as, stays, with_table}
use Rattle.ipc_state.specs.Sound.{FitsBody, HasSoundParts, shm_bytes}
use Rattle.ipc_state.specs.State.{State, closed, has_all_descriptors, is_waiting, shm_of, unlinked, with_descriptor, with_descriptors, with_shm}
use Rattle.ipc_state.specs.Touching.{IsAsBefore, IsSameIn, closed_on, is_segment, object_of}
use Rattle.ipc_state.proofs.CallerLemmas.{AreFewer, AtEnd, after, after-orelse, after-refuse, at-value, before-then, by-if_some, same-fewer}
use Rattle.ipc_state.proofs.CallerLemmas.{closed-sound, content-sound, elsewhere-closed, elsewhere-table, elsewhere-unlinked, fewer-kept, fewer-swept}
use Rattle.ipc_state.proofs.CallerLemmas.{owned_by-mode, shm-bound}
use Rattle.ipc_state.proofs.CallerLemmas.{permitted-sound, same-awaited, same-but-table, same-objects, same-processes, same_in-closed, same_in-put}
use Rattle.ipc_state.proofs.CallerLemmas.{same_in-unlinked, table-objects, unlinked-sound, with_descriptor-sound, with_held-sound, with_new-sound}
use Rattle.ipc_state.proofs.CallerLemmas.{written-length}
use Rattle.sysv_calls.specs.Access.{read}
use Rattle.sysv_calls.specs.Calls.{made_by, segment_at}
use Rattle.sysv_calls.specs.Shm.{FoundShm, asked_by_attach, attached_by, attached_read, attached_write, attachment_or, attachment_to, is_shorter}
use Rattle.sysv_calls.specs.Shm.{made_shm, shmat, shmctl_rmid, shmctl_set, shmctl_stat, shmdt, shmget, stat_fields, writable}
use Rattle.sysv_calls.proofs.Ending.{LeavesBy, other_made}
use Rattle.sysv_calls.proofs.Reaching.{accessible-ends, owned-ends, sought-ends}

abbrev segment : ℕ → Option Object
segment id = Some (segment_at id)

other_segment : {id n : ℕ} → segment id ≢ Some (segment_at n) → n ≢ id
other_segment apart same = apart (ap segment (sym same))

-- a descriptor that was found is open on a segment
pub record IsAttachment (s : State) (pid fd : ℕ) (d : Descriptor) : Type 0 where
  pub at : descriptor_at s.processes.entries pid fd ≡ Some d
  pub kind : is_segment d.on.kind ≡ true

pub attachment-ends : {never : Bool} (e : Errno) (s : State) (pid fd : ℕ) → AtEnd never (IsAttachment s pid fd) (attachment_or e s pid fd)
attachment-ends e s pid fd =
    after-orelse e (λ d at. after-refuse e (λ is. at-value d (record { at = at; kind = not-false (is_segment d.on.kind) is })))

-- so is the segment that it finds
pub record IsAttached (s : State) (pid fd : ℕ) (f : FoundShm) : Type 0 where
  pub there : shm_of s f.id ≡ Some f.entry
  pub on : object_of s pid (awaited.Descriptor fd) ≡ Some (object_as kinds.Shm f.id)

pub attached-ends : {never : Bool} (s : State) (pid fd : ℕ) → AtEnd never (IsAttached s pid fd) (attached_by s pid fd)
attached-ends s pid fd =
    after (attachment-ends EBADF s pid fd) (λ d is. after-orelse EBADF (λ e there. at-value _ (record {
      there = there;
      on = ap (option_map (λ (c : Descriptor). c.on)) is.at ∙ ap (λ (o : Object). Some o) (on-segment d.on is.kind);
    })))
  where
    on-segment : (on : Object) → is_segment on.kind ≡ true → on ≡ object_as kinds.Shm on.number
    on-segment on same = λ i. record { kind = by_kind on.kind same i; number = on.number }
      where
        by_kind : (kind : ObjectKind) → is_segment kind ≡ true → kind ≡ kinds.Shm
        by_kind kinds.MsgQueue is = cc
        by_kind kinds.Semset is = cc
        by_kind kinds.Shm is = refl
        by_kind (kinds.Named kind) is = cc

pub writable-ends : {never : Bool} (s : State) (pid fd : ℕ) → AtEnd never (IsAttached s pid fd) (writable s pid fd)
writable-ends s pid fd = after (attached-ends s pid fd) (λ f is. after-refuse EBADF (λ _. at-value f is))

-- a segment of as many bytes, and marked as it was, is sound in the place of one
hold-sound : (limits : Limits) (s : State) (id : ℕ) (e : KeyedEntry SysSegment) (x : SysSegment) → shm_of s id ≡ Some e
    → length x.memory.bytes ≡ length e.object.memory.bytes → x.is_marked ≡ e.object.is_marked → HasSoundParts limits s
    → HasSoundParts limits (with_shm s id (holding e x))
hold-sound limits s id e x there long mark h =
    let good = content-sound limits s kinds.Shm id e there h in
    with_held-sound limits s kinds.Shm id e x there (omega (arith, good.0, long), omega (arith, good.1, long)) (long, mark) h

module _ (limits : Limits) (s : State) (pid : ℕ) {never : Bool} where
  module _ {touches : Option Object} where
    -- with other segments
    segments-end : (segments : Keyed SysSegment) (body : PlainBody) → (HasSoundParts limits s → HasSoundParts limits (record s { shm = segments }))
        → (HasSoundParts limits s → FitsBody limits body)
        → ((n : ℕ) → touches ≢ Some (segment_at n) → entry_of segments n ≡ entry_of s.shm n)
        → AtEnd never (LeavesBy limits s pid touches) (answer (record s { shm = segments }) body)
    segments-end segments body sound fits alike =
        at-value _ (record {
          good = λ free. record {
            state = sound;
            body = fits;
            kept = same-processes s _ refl;
            clock = refl;
            wait = refl;
            others = λ h p on waits apart there. same p on;
            same = λ h o apart. same_in-put s o kinds.Shm segments (λ n is. alike n (λ one. apart (one ∙ ap (λ (this : Object). Some this) (sym is))));
          };
          apart = record { objects = λ p other on. same-objects s (record s { shm = segments }) p on refl; mq = same-fewer s.mq s.mq refl; fired = refl };
        })
      where
        same : (p : ℕ) (on : Awaited) → IsAsBefore p on s (record s { shm = segments })
        same p (awaited.MsgQueue n) = refl
        same p (awaited.Semset n) = (refl, λ q num. refl)
        same p (awaited.Descriptor fd) = (refl, λ kind n waits is. same-awaited s (record s { shm = segments }) refl refl kind n waits)

    -- all is as it was
    read-end : (body : PlainBody) → (HasSoundParts limits s → FitsBody limits body) → AtEnd never (LeavesBy limits s pid touches) (answer s body)
    read-end body fits = segments-end s.shm body (λ h. h) fits (λ n apart. refl)

    -- the descriptors of the caller are others
    table-end : (t : State) (body : PlainBody) (table : Table) → t.processes ≡ with_table s.processes pid table → t.clock ≡ s.clock → t.wait ≡ s.wait
        → (HasSoundParts limits s → HasSoundParts limits t) → FitsBody limits body
        → (HasSoundParts limits s → (p : ℕ) (on : Awaited) → p ≢ pid → touches ≢ object_of s p on → IsAsBefore p on s t)
        → (HasSoundParts limits s → (o : Object) → touches ≢ Some o → IsSameIn o s t)
        → AreFewer s.mq t.mq → AtEnd never (LeavesBy limits s pid touches) (answer t body)
    table-end t body table same clock wait sound fits others rest mq =
        at-value _ (record {
          good = λ free. record {
            state = sound;
            body = λ _. fits;
            kept = same-but-table s t pid table same;
            clock = clock;
            wait = wait;
            others = λ h p on waits apart there.
                others h p on (λ one. let both : true ≡ false = sym waits ∙ (ap (is_waiting s) one ∙ free) in cc) apart;
            same = rest;
          };
          apart = record {
            objects = λ p other on. same-objects (with_descriptors s pid table) t p on same ∙ table-objects s pid table p other on;
            mq = mq;
            fired = refl;
          };
        })

  -- another segment in the place of one
  put-end : (id : ℕ) (e f : KeyedEntry SysSegment) → shm_of s id ≡ Some e → (HasSoundParts limits s → HasSoundParts limits (with_shm s id f))
      → AtEnd never (LeavesBy limits s pid (segment id)) (answer (with_shm s id f) Empty)
  put-end id e f there sound =
      segments-end (with_entry s.shm id f) Empty sound (λ _. omega arith) (λ n apart. other-with s.shm.entries id n f (other_segment apart))

  made-end : (cred : Cred) (key : ℤ) (flags size : ℕ) → keyed s.shm key ≡ None
      → AtEnd never (LeavesBy limits s pid (made_by segment_at s.shm key)) (made_shm limits s cred pid key flags size)
  made-end cred key flags size unused =
      after-refuse EINVAL {b = size == 0 || nat_lt limits.shmmax size} (λ long. after-refuse ENOSPC {b = is_full limits.shmmni s.shm} (λ room.
      after-refuse ENOSPC {b = nat_lt limits.shmall (shm_bytes s.shm + size)} (λ all.
      let parts = or_parts (size == 0) (nat_lt limits.shmmax size) long in
      let some : 0 < size = grind (arith, nat_tests) in
      let few : size ≤ limits.shmmax = ltb-false limits.shmmax size parts.1 in
      let many = length-replicate {A = ℕ} size 0 in
      let x : SysSegment = new_segment size (record { 0 = pid }) s.clock in
      segments-end _ (Number s.shm.next)
      (with_new-sound limits s kinds.Shm key cred flags x unused room refl (omega (arith, some, many), omega (arith, few, many))
      (omega (arith, many, ltb-false limits.shmall (shm_bytes s.shm + size) all)))
      (λ _. omega arith) (λ n apart. other-push s.shm.entries s.shm.next n _ (other_made segment_at s.shm key n unused apart)))))

  pub shmget-ends : (cred : Cred) (key : ℤ) (size flags : ℕ)
      → AtEnd never (LeavesBy limits s pid (made_by segment_at s.shm key)) (shmget limits s cred pid key size flags)
  shmget-ends cred key size flags =
      after (sought-ends s.shm key flags) (λ found unused. by-if_some {o = found}
      (λ id _. after-refuse EINVAL {b = is_shorter (shm_of s id) size} (λ _.
      after (accessible-ends false s.shm cred id (asked_by flags)) (λ e _. read-end (Number id) (λ _. omega arith))))
      (λ none. made-end cred key flags size (unused none)))

  pub shmat-ends : (cred : Cred) (id flags : ℕ) → AtEnd never (LeavesBy limits s pid (segment id)) (shmat limits s cred pid id flags)
  shmat-ends cred id flags =
      after (accessible-ends false s.shm cred id (asked_by_attach flags)) (λ e there. after-refuse EMFILE {b = has_all_descriptors limits s pid} (λ few.
      let x : SysSegment = attached e.object (record { 0 = pid }) s.clock in
      let t : State = with_shm s id (holding e x) in
      let d : Descriptor = attachment_to id flags in
      let table : Table = opened (descriptors_of s.processes.entries pid) d in
      let found : is_some (shm_of t id) ≡ true = is_some-with_value nat_eq s.shm.entries id id (holding e x) ∙ ap is_some there in
      table-end (with_descriptor t pid d) (Number (lowest_unused (descriptors_of s.processes.entries pid))) table refl refl refl
      (λ h. with_descriptor-sound limits t pid d few (rw found refl) (hold-sound limits s id e x there refl refl h)) (omega arith)
      (λ h p on other apart. before-then p on s t _ (same p on t refl) (elsewhere-table t pid table p on other))
      (λ h o apart. same_in-put s o kinds.Shm t.shm (λ n is. other-with s.shm.entries id n (holding e x)
      (other_segment (λ one. apart (one ∙ ap (λ (this : Object). Some this) (sym is)))))) (same-fewer s.mq s.mq refl)))
    where
      same : (p : ℕ) (on : Awaited) (t : State) → t ≡ record s { shm = t.shm } → IsAsBefore p on s t
      same p on t is = subst (IsAsBefore p on s) (sym is) (by_on on)
        where
          by_on : (on : Awaited) → IsAsBefore p on s (record s { shm = t.shm })
          by_on (awaited.MsgQueue n) = refl
          by_on (awaited.Semset n) = (refl, λ q num. refl)
          by_on (awaited.Descriptor fd) = (refl, λ kind n waits is. same-awaited s (record s { shm = t.shm }) refl refl kind n waits)

  pub shmdt-ends : (fd : ℕ) → AtEnd never (LeavesBy limits s pid (closed_on s pid fd)) (shmdt s pid fd)
  shmdt-ends fd =
      after (attachment-ends EINVAL s pid fd) (λ d _.
      table-end (closed s pid fd) Empty (without_value nat_eq (descriptors_of s.processes.entries pid) fd) refl refl refl (closed-sound limits s pid fd)
      (omega arith) (λ h p on other apart. elsewhere-closed limits s h pid fd p on other apart)
      (λ h o apart. same_in-closed s o limits h pid fd apart)
      (record { weigh = λ w none. fewer-swept w none (closed s pid fd).processes.entries (is_by (Some pid) (Some fd)) s.mq.entries }))

  pub shmctl_stat-ends : (cred : Cred) (id : ℕ) → AtEnd never (LeavesBy limits s pid None) (shmctl_stat s cred id)
  shmctl_stat-ends cred id =
      after (accessible-ends false s.shm cred id read) (λ e _. read-end (Record (record_bytes (stat_fields s id e))) (λ _. omega arith))

  pub shmctl_set-ends : (cred : Cred) (id uid gid mode : ℕ) → AtEnd never (LeavesBy limits s pid (segment id)) (shmctl_set s cred id uid gid mode)
  shmctl_set-ends cred id uid gid mode =
      after (owned-ends s.shm cred id) (λ e there.
      let perm : Perm = owned_by e.perm uid gid mode in
      let new : SysSegment = changed e.object s.clock in
      put-end id e (holding (permitting e perm) new) there (λ h.
      permitted-sound limits s kinds.Shm id e perm new there (owned_by-mode e.perm uid gid mode) (shm-bound limits s id e there h)
      (content-sound limits s kinds.Shm id e there h) (refl, refl) h))

  pub shmctl_rmid-ends : (cred : Cred) (id : ℕ) → AtEnd never (LeavesBy limits s pid (segment id)) (shmctl_rmid s cred id)
  shmctl_rmid-ends cred id =
      after (owned-ends s.shm cred id) (λ e there.
      at-value _ (record {
        good = λ free. record {
          state = unlinked-sound limits s kinds.Shm id refl;
          body = λ _. omega arith;
          kept = same-processes s _ refl;
          clock = refl;
          wait = refl;
          others = λ h p on waits apart there. elsewhere-unlinked limits s h kinds.Shm id p on refl;
          same = λ h o apart. same_in-unlinked s o limits h kinds.Shm id apart;
        };
        apart = record {
          objects = λ p other on. same-objects s (unlinked s kinds.Shm id) p on refl;
          mq = record { weigh = λ w none. fewer-kept w none (stays (kinds.Named names.Mq) s.processes.entries) s.mq.entries };
          fired = refl;
        };
      }))

  pub attached_read-ends : (fd offset len : ℕ) → AtEnd never (LeavesBy limits s pid None) (attached_read limits s pid fd offset len)
  attached_read-ends fd offset len =
      after (attached-ends s pid fd) (λ f is. after-refuse EINVAL {b = nat_lt limits.call_bytes len} (λ few. after-refuse EINVAL (λ within.
      let short : len ≤ limits.call_bytes = ltb-false limits.call_bytes len few in
      read-end (Record (part offset len f.entry.object.memory)) (λ _. omega (arith, short, length-take len (drop offset f.entry.object.memory.bytes))))))

  pub attached_write-ends : (fd offset : ℕ) (bytes : List ℕ)
      → AtEnd never (LeavesBy limits s pid (object_of s pid (awaited.Descriptor fd))) (attached_write limits s pid fd offset bytes)
  attached_write-ends fd offset bytes =
      after (writable-ends s pid fd) (λ f is. after-refuse EINVAL (λ _. after-refuse EINVAL (λ within.
      let x : SysSegment = written offset bytes f.entry.object in
      subst (λ (o : Option Object). AtEnd never (LeavesBy limits s pid o) (answer (with_shm s f.id (holding f.entry x)) Empty)) (sym is.on)
      (put-end f.id f.entry (holding f.entry x) is.there
      (hold-sound limits s f.id f.entry x is.there (written-length f.entry.object.memory offset bytes (not-false _ within)) refl)))))
