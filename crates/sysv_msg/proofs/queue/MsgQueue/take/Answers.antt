use Rattle.std.proofs.Common.{◌≡◌, ◌+◌, ℕ, List, length, ap, refl, sym, ◌∙◌, sum_by, arith}
use Rattle.std.specs.Prelude.{Some, option_map, slice_get}
use Rattle.std.specs.List.{remove}
use Rattle.std.proofs.lemmas.List.Sums.{sum_by-remove}
use Rattle.std.proofs.lemmas.Option.{get_or_from_slice_get, slice_get-map, slice_get_within}
use Rattle.ipc_arrivals.specs.Arrivals.{Arrived}
use Rattle.sysv_msg.specs.Queue.{Queue, plain}
use Rattle.sysv_msg.specs.declared.message.Message.{Message}
use Rattle.ipc_arrivals.proofs.CallerLemmas.{map-remove}
use Rattle.sysv_msg.proofs.queue.MsgQueue.take.Goals as goal

abbrev size : Message → ℕ
size m = length m.text.items

-- the bytes of a message and of the others
parted : (ms : List Message) (at : ℕ) (m : Message) → slice_get ms at ≡ Some m → sum_by size (remove ms at) + size m ≡ sum_by size ms
parted ms at m is =
    ap (λ x. sum_by size (remove ms at) + size x) (sym (get_or_from_slice_get ms at m m is)) ∙ sum_by-remove size ms at m (slice_get_within ms at m is)

pub overflow_sub-self : goal.overflow_sub-self
overflow_sub-self c =
    let m = c.remove-message.result in
    omega (arith, parted c.self.inside.messages.items c.args.at m c.remove-message.ensures.value, c.self.invariant.0, c.len.ensures, m.text.ok.0)

pub invariant_of-self : goal.invariant_of-self
invariant_of-self c =
    let m = c.remove-message.result in
    let rest = ap (λ (a : Arrived Message). sum_by size a.items) c.remove-message.ensures.rest in
    let places = ap (λ (a : Arrived Message). a.places) c.remove-message.ensures.rest in (
      omega (arith, parted c.self.inside.messages.items c.args.at m c.remove-message.ensures.value, c.self.invariant.0, c.len.ensures, m.text.ok.0, rest),
      omega (arith, c.self.invariant.1, places),
    )

pub returns-clause-message : goal.returns-clause-message
returns-clause-message c =
    ap (λ (q : Queue). slice_get q.messages c.args.at) (sym c.self.view_is) ∙ slice_get-map plain c.self.inside.messages.items c.args.at
    ∙ ap (option_map plain) c.remove-message.ensures.value

pub returns-clause-queue : goal.returns-clause-queue
returns-clause-queue c = rw (c.remove-message.ensures.rest, ← c.self.view_is, map-remove) refl
