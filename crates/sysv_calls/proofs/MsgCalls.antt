-- What each call of message queues leaves and answers: msgget(2), msgop(2) and msgctl(2).
use Rattle.std.proofs.Common.{ℕ, ℤ, pos, ◌<◌, ◌≤◌, Bool, List, [], ◌++◌, length, take, refl, arith, subst}
use Rattle.std.specs.Prelude.{None, false, nat_lt}
use Rattle.std.proofs.lemmas.Bool.{ltb-false}
use Rattle.std.proofs.lemmas.List.{length-take}
use Rattle.std.proofs.lemmas.List.Elements.{All-get_or}
use Rattle.std.proofs.lemmas.Option.{unwrap_or-slice_get}
use Rattle.ipc_base.specs.declared.errno.Errno.TheVariants.{EPERM, ENOSPC}
use Rattle.ipc_base.specs.declared.identity.Cred.{Cred}
use Rattle.ipc_limits.specs.declared.limits.Limits.{Limits}
use Rattle.ipc_base.specs.Numbers.{record_bytes}
use Rattle.ipc_base.proofs.CallerLemmas.{other-push, other-with, value_at-without}
use Rattle.ipc_limits.proofs.CallerLemmas.{message-is_bounded}
use Rattle.ipc_perm.specs.declared.perm.Perm.{Perm}
use Rattle.ipc_perm.specs.Perm.{owned_by, asked_by}
use Rattle.ipc_wire.specs.declared.reply.Body.TheVariants.{Empty, Number, Message, Record}
use Rattle.ipc_wire.specs.Reply.{PlainBody}
use Rattle.sysv_msg.specs.Queue.{Queue, PlainMessage, new_queue, sent, taken, changed}
use Rattle.ipc_state.specs.declared.parked.ObjectKind.TheVariants as kinds
use Rattle.ipc_state.specs.Finish.{answer}
use Rattle.ipc_state.specs.Bound.{holding, permitting}
use Rattle.ipc_state.specs.Keyed.{Keyed, KeyedEntry}
use Rattle.ipc_state.specs.Sound.{HasSoundParts, IsSoundMessage, IsSoundMsgQueue, FitsBody}
use Rattle.ipc_state.specs.State.{State, with_msg_queue}
use Rattle.ipc_state.proofs.CallerLemmas.{AtEnd, after, after-refuse, at-all, by-if_some}
use Rattle.ipc_state.proofs.CallerLemmas.{changed-sound, content-sound, new_queue-sound, owned_by-mode, permitted-sound, sent-sound, taken-sound}
use Rattle.ipc_state.proofs.CallerLemmas.{with_held-sound, with_new-sound, without_msg_queue-sound}
use Rattle.sysv_calls.specs.Access.{read}
use Rattle.sysv_calls.specs.Calls.{made_by, queue_at}
use Rattle.sysv_calls.specs.Msg.{message_at, msgctl_rmid, msgctl_set, msgctl_stat, msgget, msgrcv, msgsnd}
use Rattle.sysv_calls.specs.Records.{perm_fields, queue_fields}
use Rattle.sysv_calls.proofs.Ending.{Leaves, other_made, other_queue, queue, queues-ends, read-ends}
use Rattle.sysv_calls.proofs.Reaching.{accessible-ends, owned-ends, receives, removed-ends, sends, sought-ends}

module _ {limits : Limits} {s : State} {never : Bool} where
  -- another queue in the place of one
  put-ends : (id : ℕ) (e : KeyedEntry Queue) (body : PlainBody) → (HasSoundParts limits s → HasSoundParts limits (with_msg_queue s id e))
      → (HasSoundParts limits s → FitsBody limits body) → AtEnd never (Leaves limits s (queue id)) (answer (with_msg_queue s id e) body)
  put-ends id e body sound fits = queues-ends _ body sound fits (λ n apart. other-with s.msg.entries id n e (other_queue apart))

module _ (limits : Limits) (s : State) (cred : Cred) {never : Bool} where
  pub msgget-ends : (key : ℤ) (flags : ℕ) → AtEnd never (Leaves limits s (made_by queue_at s.msg key)) (msgget limits s cred key flags)
  msgget-ends key flags =
      after (sought-ends s.msg key flags) (λ found unused. by-if_some {o = found}
      (λ id _. after (accessible-ends false s.msg cred id (asked_by flags)) (λ e _. read-ends (Number id) (λ _. omega arith)))
      (λ none. after-refuse ENOSPC (λ room.
      queues-ends _ (Number s.msg.next) (with_new-sound limits s kinds.MsgQueue key cred flags (new_queue limits.msgmnb s.clock) (unused none) room tt
      (new_queue-sound limits s.clock) tt)
      (λ _. omega arith) (λ n apart. other-push s.msg.entries s.msg.next n _ (other_made queue_at s.msg key n (unused none) apart)))))

  pub msgctl_stat-ends : (id : ℕ) → AtEnd never (Leaves limits s None) (msgctl_stat s cred id)
  msgctl_stat-ends id =
      after (accessible-ends false s.msg cred id read)
      (λ e _. read-ends (Record (record_bytes (perm_fields e e.perm.mode ++ queue_fields e.object))) (λ _. omega arith))

  pub msgctl_set-ends : (id uid gid mode qbytes : ℕ) → AtEnd never (Leaves limits s (queue id)) (msgctl_set limits s cred id uid gid mode qbytes)
  msgctl_set-ends id uid gid mode qbytes =
      after (owned-ends s.msg cred id) (λ e there. after-refuse EPERM {b = nat_lt limits.msgmnb qbytes} (λ within.
      let perm : Perm = owned_by e.perm uid gid mode in
      let new : Queue = changed e.object qbytes s.clock in
      put-ends id (holding (permitting e perm) new) Empty
      (λ h. permitted-sound limits s kinds.MsgQueue id e perm new there (owned_by-mode e.perm uid gid mode) refl
      (changed-sound limits e.object qbytes s.clock (ltb-false limits.msgmnb qbytes within) (content-sound limits s kinds.MsgQueue id e there h)) tt h)
      (λ _. omega arith)))

  pub msgctl_rmid-ends : (id : ℕ) → AtEnd never (Leaves limits s (queue id)) (msgctl_rmid s cred id)
  msgctl_rmid-ends id =
      after (removed-ends s.msg cred id) (λ queues is.
      subst (λ (m : Keyed Queue). AtEnd never (Leaves limits s (queue id)) (answer (record s { msg = m }) Empty)) is
      (queues-ends _ Empty (without_msg_queue-sound limits s id) (λ _. omega arith)
      (λ n apart. value_at-without s.msg.entries id n (other_queue apart))))

module _ (limits : Limits) (s : State) (cred : Cred) (pid : ℕ) (again : Bool) where
  pub msgsnd-ends : (id flags : ℕ) (mtype : ℤ) (text : List ℕ) → AtEnd false (Leaves limits s (queue id)) (msgsnd limits s cred pid again id flags mtype text)
  msgsnd-ends id flags mtype text =
      after (at-all (sends limits s cred again id flags mtype text)) (λ e ok.
      let m : PlainMessage = record { mtype = mtype; text = text } in
      let new : Queue = sent e.object m pid s.clock in
      put-ends id (holding e new) Empty
      (λ h. with_held-sound limits s kinds.MsgQueue id e new ok.there
      (sent-sound limits e.object m pid s.clock ok.room ok.message (content-sound limits s kinds.MsgQueue id e ok.there h)) tt h) (λ _. omega arith))

  -- a text of a message of a queue, cut
  message_at-fits : (q : Queue) (at size : ℕ) → at < length q.messages → IsSoundMsgQueue limits q
      → FitsBody limits (Message (message_at q at).mtype (take size (message_at q at).text))
  message_at-fits q at size inside good =
      let none : PlainMessage = record { mtype = pos 0; text = [] } in
      let short : length (message_at q at).text ≤ limits.msgmax =
      rw unwrap_or-slice_get (All-get_or (IsSoundMessage limits) q.messages at none inside good.messages).short in
      let cut = length-take size (message_at q at).text in
      omega (arith, message-is_bounded limits (length (take size (message_at q at).text)) (omega (arith, cut, short)))

  pub msgrcv-ends : (id flags size : ℕ) (mtype : ℤ) → AtEnd false (Leaves limits s (queue id)) (msgrcv s cred pid again id flags size mtype)
  msgrcv-ends id flags size mtype =
      after (at-all (receives s cred again id flags size mtype)) (λ found ok.
      let q : Queue = found.0.object in
      let new : Queue = taken q found.1 pid s.clock in
      put-ends id (holding found.0 new) (Message (message_at q found.1).mtype (take size (message_at q found.1).text))
      (λ h. with_held-sound limits s kinds.MsgQueue id found.0 new ok.there
      (taken-sound limits q found.1 pid s.clock ok.inside (content-sound limits s kinds.MsgQueue id found.0 ok.there h)) tt h)
      (λ h. message_at-fits q found.1 size ok.inside (content-sound limits s kinds.MsgQueue id found.0 ok.there h)))
