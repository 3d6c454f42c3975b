-- The requests of calls that wait are short: a text that is too long, or a list of too many operations, is refused
-- before its call waits.
use Rattle.std.proofs.Common.{◌≡◌, ◌≤◌, ◌+◌, ◌*◌, ◌/◌, ℕ, ℤ, pos, Bool, true, false, max, List, [], ◌∷◌, length, Some, refl, sym, ◌∙◌, arith}
use Rattle.std.specs.Prelude.{All, int_lt, nat_lt, not, ◌==◌}
use Rattle.std.specs.Int.{w32, to_be_bytes}
use Rattle.std.proofs.lemmas.Bool.{ltb-false, not-false}
use Rattle.std.proofs.lemmas.List.{length-append, length-map}
use Rattle.std.proofs.lemmas.List.Elements.{All-cons, All-head, All-nil, All-tail}
use Rattle.std.proofs.lemmas.Option.{none-some}
use Rattle.ipc_base.proofs.CallerLemmas.{length-values}
use Rattle.ipc_base.specs.Numbers.{total, values_bytes}
use Rattle.ipc_base.specs.declared.errno.Errno.TheVariants.{E2BIG, EIDRM, EINVAL}
use Rattle.ipc_base.specs.declared.identity.Cred.{Cred}
use Rattle.ipc_limits.specs.declared.limits.Limits.{Limits}
use Rattle.ipc_wire.specs.Fields.{MayHave}
use Rattle.ipc_wire.specs.Posix.{PlainPosix}
use Rattle.ipc_wire.specs.Posix as posix
use Rattle.ipc_wire.specs.Request.{PlainKind, PlainSysv, Hello, Interrupt as Interrupts, Sysv, Posix}
use Rattle.ipc_wire.specs.Request as requests
use Rattle.ipc_wire.specs.SemBufs.{operations_in}
use Rattle.ipc_wire.specs.Spelling.{fields_of, opcode_of, request_bytes}
use Rattle.ipc_wire.specs.Table.{parts_of}
use Rattle.ipc_state.specs.Finish.{Attempt, Done, ended, has_to_wait}
use Rattle.ipc_state.specs.Sound.{HasSoundParts}
use Rattle.ipc_state.specs.State.{State, cred_of, semset_of}
use Rattle.ipc_state.specs.Waiting.{PlainWaiting, IsSoundWaiting, awaited_by}
use Rattle.ipc_state.specs.declared.parked.Awaited.{Awaited}
use Rattle.ipc_state.proofs.CallerLemmas.{AtEnd, after, after-orelse, after-refuse, waits-blocked}
use Rattle.sysv_calls.specs.Msg.{msgsnd}
use Rattle.sysv_calls.specs.Semop.{operation_of, operations_of, semop}
use Rattle.sysv_calls.proofs.CallerLemmas.{by-waiting}
use Rattle.posix_calls.proofs.CallerLemmas.{mq_send-short}
use Rattle.ipc_engine.specs.Sound.{HasToWait, IsSound}
use Rattle.ipc_engine.specs.Step.{tried}

-- ---- a test that a call passes before it waits

-- steps that come after it are past it
past : {X : Type 0} {test : Bool} → test ≡ false → (a : Attempt X) → AtEnd test (λ (x : X). test ≡ false) a
past is a = record { holds = λ x went. is; runs = λ never. let both : true ≡ false = sym never ∙ is in cc }

-- so a call that waits is past it
passed : {P : Done → Type 0} (test : Bool) (s : State) (call : Attempt Done) → AtEnd test P call → has_to_wait (ended s call) ≡ true → test ≡ false
passed true s call end waits = let both : true ≡ false = sym waits ∙ (waits-blocked s call ∙ end.runs refl) in cc
passed false s call end waits = refl

-- the text of a msgsnd
msgsnd-short : (limits : Limits) (s : State) (cred : Cred) (pid id flags : ℕ) (mtype : ℤ) (text : List ℕ)
    → has_to_wait (ended s (msgsnd limits s cred pid true id flags mtype text)) ≡ true → length text ≤ limits.msgmax
msgsnd-short limits s cred pid id flags mtype text waits =
    ltb-false _ _ (passed (nat_lt limits.msgmax (length text)) s (msgsnd limits s cred pid true id flags mtype text)
    (after (after-refuse EINVAL {b = not (int_lt (pos 0) mtype)} (λ _. after-refuse EINVAL (λ short. past short _))) (λ e may. past may _)) waits)

-- the operations of a semop
semop-few : (limits : Limits) (s : State) (cred : Cred) (pid id : ℕ) (bytes : List ℕ)
    → has_to_wait (ended s (semop limits s cred pid true id bytes)) ≡ true → length (operations_of bytes) ≤ limits.semopm
semop-few limits s cred pid id bytes waits =
    ltb-false _ _ (passed (nat_lt limits.semopm (length (operations_of bytes))) s (semop limits s cred pid true id bytes)
    (after (after (after (after
    (after-refuse EINVAL {b = length (operations_of bytes) == 0} (λ _. after-orelse EIDRM {o = semset_of s id} (λ e _. after-refuse E2BIG (λ few. past few _))))
    (λ e may. past may _)) (λ found may. past may _)) (λ found may. past may _)) (λ found may. past may _)) waits)

-- there are a sixth as many as the bytes that spell them
operations_count : (bytes : List ℕ) → length (operations_in bytes) ≡ length bytes / 6
operations_count [] = refl
operations_count (a ∷ []) = refl
operations_count (a ∷ b ∷ []) = refl
operations_count (a ∷ b ∷ c ∷ []) = refl
operations_count (a ∷ b ∷ c ∷ d ∷ []) = refl
operations_count (a ∷ b ∷ c ∷ d ∷ e ∷ []) = refl
operations_count (a ∷ b ∷ c ∷ d ∷ e ∷ f ∷ bytes) = omega (arith, operations_count bytes)

-- ---- the bytes of a request

-- the bytes of its fields, and of the rest after them
fields-length : (kind : PlainKind) → length (fields_of kind) ≡ total (parts_of kind).row.fields + length (parts_of kind).rest
fields-length kind =
    let p = parts_of kind in
    omega (arith, length-append (values_bytes p.row.fields p.values) p.rest, length-values p.row.fields p.values)

module _ (limits : Limits) (s : State) (sound : HasSoundParts limits s) (pid : ℕ) where
  -- what is shown of a call: if it waits, its fields are short
  abbrev IsShort : PlainKind → Type 0
  IsShort kind =
      (on : Awaited) → awaited_by kind ≡ Some on → MayHave (parts_of kind).row.rest (length (parts_of kind).rest)
      → has_to_wait (tried limits s pid true kind) ≡ true
      → length (fields_of kind) ≤ max 20 (max (16 + limits.msgmax) (max (16 + limits.msgsize) (12 + 6 * limits.semopm)))

  sysv-short : (call : PlainSysv) → IsShort (Sysv call)
  sysv-short =
      by-waiting (λ (call : PlainSysv). IsShort (Sysv call))
      (λ id flags mtype text on is rest waits.
      omega (arith, fields-length (Sysv (requests.Msgsnd id flags mtype text)), msgsnd-short limits s (cred_of s pid) pid id flags mtype text waits))
      (λ id flags size mtype on is rest waits. omega (arith, fields-length (Sysv (requests.Msgrcv id flags size mtype))))
      (λ id timeout bytes on is rest waits.
      omega (
        arith,
        fields-length (Sysv (requests.Semop id timeout bytes)),
        semop-few limits s (cred_of s pid) pid id bytes waits,
        length-map (operations_in bytes) operation_of,
        operations_count bytes,
        rest,
      ))
      (λ call other on is rest waits. absurd (none-some on (sym other.never ∙ is)))

  posix-short : (call : PlainPosix) → IsShort (Posix call)
  posix-short (posix.MqSend fd deadline priority text) on is rest waits =
      omega (arith, fields-length (Posix (posix.MqSend fd deadline priority text)), mq_send-short limits s pid fd deadline priority text sound waits)
  posix-short (posix.MqReceive fd deadline size) on is rest waits = omega (arith, fields-length (Posix (posix.MqReceive fd deadline size)))
  posix-short (posix.SemWait fd deadline) on is rest waits = omega (arith, fields-length (Posix (posix.SemWait fd deadline)))
  posix-short call on is rest waits = absurd (none-some on is)

  kind-short : (kind : PlainKind) → IsShort kind
  kind-short (Hello cred) on is rest waits = absurd (none-some on is)
  kind-short Interrupts on is rest waits = absurd (none-some on is)
  kind-short (Sysv call) on is rest waits = sysv-short call on is rest waits
  kind-short (Posix call) on is rest waits = posix-short call on is rest waits

-- a request that waits is, without its length, no longer than the longest of them
abbrev HasShortRequest : Limits → PlainWaiting → Type 0
HasShortRequest limits w =
    length (request_bytes w.call) ≤ max 25 (max (21 + limits.msgmax) (max (21 + limits.msgsize) (17 + 6 * limits.semopm)))

request-short : (limits : Limits) (s : State) → HasSoundParts limits s → (w : PlainWaiting) → IsSoundWaiting w → HasToWait limits s w
    → HasShortRequest limits w
request-short limits s sound w good has =
    let short = kind-short limits s sound w.pid.0 w.call.kind w.on good.on good.frame.rest (not-false _ has.waits) in
    omega (arith, short, length-append (to_be_bytes w32 w.call.serial) (opcode_of w.call.kind ∷ fields_of w.call.kind))

requests-short : (limits : Limits) (s : State) → HasSoundParts limits s → (ws : List PlainWaiting) → All IsSoundWaiting ws → All (HasToWait limits s) ws
    → All (HasShortRequest limits) ws
requests-short limits s sound [] good waits = All-nil (HasShortRequest limits)
requests-short limits s sound (w ∷ ws) good waits =
    All-cons (HasShortRequest limits) w ws
    (request-short limits s sound w (All-head IsSoundWaiting w ws good) (All-head (HasToWait limits s) w ws waits))
    (requests-short limits s sound ws (All-tail IsSoundWaiting w ws good) (All-tail (HasToWait limits s) w ws waits))

pub waiting-requests : (limits : Limits) (s : State) → IsSound limits s
    → All (λ w. length (request_bytes w.call) ≤ max 25 (max (21 + limits.msgmax) (max (21 + limits.msgsize) (17 + 6 * limits.semopm)))) s.wait
waiting-requests limits s sound = requests-short limits s sound.parts s.wait sound.parts.wait.each sound.waits
