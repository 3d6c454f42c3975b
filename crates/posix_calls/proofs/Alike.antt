-- Whether a call that may wait has to wait depends on its descriptor, on what that is open on, and on nothing else.
use Rattle.std.proofs.Common.{◌≡◌, ℕ, Bool, true, List, Some, refl, sym, ap, subst, ◌∙◌}
use Rattle.std.specs.Prelude.{option_map}
use Rattle.std.proofs.lemmas.Option.{none-some}
use Rattle.ipc_base.specs.declared.errno.Errno.TheVariants.{EBADF, EINVAL}
use Rattle.ipc_limits.specs.declared.limits.Limits.{Limits}
use Rattle.ipc_keys.specs.declared.check.NameKind.TheVariants as names
use Rattle.ipc_wire.specs.Posix.{PlainPosix}
use Rattle.ipc_wire.specs.Posix as requests
use Rattle.ipc_wire.specs.Request.{Posix}
use Rattle.ipc_state.specs.declared.parked.ObjectKind.TheVariants as kinds
use Rattle.ipc_state.specs.declared.descriptors.Descriptor.{Descriptor}
use Rattle.ipc_state.specs.declared.parked.Awaited.{Awaited}
use Rattle.ipc_state.specs.declared.parked.Awaited.TheVariants as awaited
use Rattle.ipc_state.specs.declared.parked.Object.{Object}
use Rattle.ipc_state.specs.Finish.{has_to_wait}
use Rattle.ipc_state.specs.Opening.{descriptor_at}
use Rattle.ipc_state.specs.State.{State}
use Rattle.ipc_state.specs.Touching.{is_there, IsAsBefore}
use Rattle.ipc_state.specs.Waiting.{awaited_by}
use Rattle.ipc_state.proofs.CallerLemmas.{AreAlike, alike-waits, orelse-alike, past-alike, same-alike, then-alike, waits-for}
use Rattle.posix_calls.specs.Calls.{attempt}
use Rattle.posix_calls.specs.Mq.{open_mq, open_to, receivable, sendable}
use Rattle.posix_calls.specs.Open.{number_in, reads, writes}
use Rattle.posix_calls.specs.Psem.{lowerable, open_semaphore}
use Rattle.posix_calls.proofs.Reaching.{lowers, number-is, receives, sends}

-- ---- two states that have the same descriptor and the same object

module _ (s t : State) (pid fd : ℕ) (alike : IsAsBefore pid (awaited.Descriptor fd) s t) where
  -- what the descriptor is open on
  on-it : (d : Descriptor) → descriptor_at s.processes.entries pid fd ≡ Some d
      → option_map (λ (e : Descriptor). e.on) (descriptor_at s.processes.entries pid fd) ≡ Some d.on
  on-it d is = ap (option_map (λ (e : Descriptor). e.on)) is

  open-alike : AreAlike (open_mq t pid fd) (open_mq s pid fd)
  open-alike =
      orelse-alike EBADF EBADF alike.0 (λ d is. orelse-alike EBADF EBADF {o = number_in names.Mq d.on} refl (λ n on.
      orelse-alike EBADF EBADF (alike.1 (kinds.Named names.Mq) n refl (on-it d is ∙ ap (λ (o : Object). Some o) (number-is names.Mq d.on n on)))
      (λ q _. same-alike refl)))

  sem-alike : AreAlike (open_semaphore t pid fd) (open_semaphore s pid fd)
  sem-alike =
      orelse-alike EINVAL EINVAL alike.0 (λ d is. orelse-alike EINVAL EINVAL {o = number_in names.Psem d.on} refl (λ n on.
      orelse-alike EINVAL EINVAL (alike.1 (kinds.Named names.Psem) n refl (on-it d is ∙ ap (λ (o : Object). Some o) (number-is names.Psem d.on n on)))
      (λ v _. same-alike refl)))

  opens-alike : (allows : ℕ → Bool) → AreAlike (open_to allows t pid fd) (open_to allows s pid fd)
  opens-alike allows = then-alike open-alike (λ f. same-alike refl)

  send-alike : (priority : ℕ) (text : List ℕ) → AreAlike (sendable t pid fd priority text) (sendable s pid fd priority text)
  send-alike priority text = past-alike _ (then-alike (opens-alike writes) (λ f. same-alike refl))

  receive-alike : (size : ℕ) → AreAlike (receivable t pid fd size) (receivable s pid fd size)
  receive-alike size = then-alike (opens-alike reads) (λ f. same-alike refl)

  wait-alike : AreAlike (lowerable t pid fd) (lowerable s pid fd)
  wait-alike = then-alike sem-alike (λ f. same-alike refl)

-- ---- a call that waits on a descriptor

-- what holds of that on which it waits holds of this
as-awaited : (P : Awaited → Type 0) {this on : Awaited} → Some this ≡ Some on → P on → P this
as-awaited P {this} {on} is = let same : this ≡ on = cc in subst P (sym same)

pub waits-alike : (limits : Limits) (s t : State) (pid : ℕ) (call : PlainPosix) (on : Awaited) → awaited_by (Posix call) ≡ Some on → IsAsBefore pid on s t
    → has_to_wait (attempt limits t pid call) ≡ has_to_wait (attempt limits s pid call)
waits-alike limits s t pid (requests.MqSend fd deadline priority text) on is alike =
    alike-waits s t _ _ (send-alike s t pid fd (as-awaited (λ (o : Awaited). IsAsBefore pid o s t) is alike) priority text)
waits-alike limits s t pid (requests.MqReceive fd deadline size) on is alike =
    alike-waits s t _ _ (receive-alike s t pid fd (as-awaited (λ (o : Awaited). IsAsBefore pid o s t) is alike) size)
waits-alike limits s t pid (requests.SemWait fd deadline) on is alike =
    alike-waits s t _ _ (wait-alike s t pid fd (as-awaited (λ (o : Awaited). IsAsBefore pid o s t) is alike))
waits-alike limits s t pid call on is alike = absurd (none-some on is)

-- what waits on a descriptor finds it there
pub waits-there : (limits : Limits) (s : State) (pid : ℕ) (call : PlainPosix) (on : Awaited) → awaited_by (Posix call) ≡ Some on
    → has_to_wait (attempt limits s pid call) ≡ true → is_there pid on s ≡ true
waits-there limits s pid (requests.MqSend fd deadline priority text) on is waits =
    as-awaited (λ (o : Awaited). is_there pid o s ≡ true) (sym is) (waits-for s _ _ (sends s pid fd priority text) waits)
waits-there limits s pid (requests.MqReceive fd deadline size) on is waits =
    as-awaited (λ (o : Awaited). is_there pid o s ≡ true) (sym is) (waits-for s _ _ (receives s pid fd size) waits)
waits-there limits s pid (requests.SemWait fd deadline) on is waits =
    as-awaited (λ (o : Awaited). is_there pid o s ≡ true) (sym is) (waits-for s _ _ (lowers s pid fd) waits)
waits-there limits s pid call on is waits = absurd (none-some on is)
