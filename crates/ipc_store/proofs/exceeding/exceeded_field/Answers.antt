-- The first of the fields that is exceeded, by what each test answers.
use Rattle.std.proofs.Common.{◌≡◌, Bool, true, false, List, [], map, None, Some, ℕ, refl, sym, ap, ◌∙◌}
use Rattle.std.specs.Prelude.{if◌then◌else◌, not, length, sum_by, sum}
use Rattle.std.proofs.lemmas.List.Folds.{list_all-map}
use Rattle.std.proofs.lemmas.List.Sums.{sum-map}
use Rattle.std.proofs.lemmas.Simd.{map-map}
use Rattle.ipc_limits.specs.declared.limits.Limits.{Limits}
use Rattle.ipc_limits.specs.Limits.{exceeds, message_limit, queue_bytes_limit}
use Rattle.ipc_state.specs.Rows.{item_row}
use Rattle.ipc_state.specs.Named.{NamedEntry}
use Rattle.ipc_state.specs.State.{State}
use Rattle.ipc_state.specs.declared.numbered.Item.{Item}
use Rattle.posix_mq.specs.Queue.{Queue as Mq}
use Rattle.ipc_store.specs.Larger.{exceeded_field, has_few_bytes_in, has_few_messages_in, room}
use Rattle.ipc_store.proofs.exceeding.exceeded_field.Goals as goal

field-of : (limits : Limits) (s : State) (m b : Bool) → has_few_messages_in limits s.msg.entries ≡ m → s.undo ≡ []
    → has_few_bytes_in limits s.mq.entries ≡ b → (if m then (if b then None else Some 21) else Some 19) ≡ exceeded_field limits s
field-of limits s m b messages none bytes = rw (messages, none, bytes) refl

pub returns-then-not-has_few_messages : goal.returns-then-not-has_few_messages
returns-then-not-has_few_messages c =
    let limits : Limits = c.args.limits.now in
    let s : State = c.args.state.now.state in
    let messages = ap (has_few_messages_in limits) (sym c.msg_queues.ensures)
    ∙ list_all-map (λ e. not (exceeds (length e.1.object.messages) (message_limit limits))) item_row c.msg_queues.result.now
    ∙ sym c.has_few_messages.ensures in
    field-of limits s false (has_few_bytes_in limits s.mq.entries) (messages ∙ c.if-not-has_few_messages.true) c.requires.none refl

-- what the POSIX queues count, as the test sees them
bytes-of : (limits : Limits) (s : State) (items : List (Item (NamedEntry Mq))) → map item_row items ≡ s.mq.entries
    → has_few_bytes_in limits s.mq.entries ≡ not (exceeds (sum_by (λ e. room e.value.object) items) (queue_bytes_limit limits))
bytes-of limits s items is =
    ap (has_few_bytes_in limits) (sym is)
    ∙ ap (λ (n : ℕ). not (exceeds n (queue_bytes_limit limits)))
    (sym (sum-map (λ e. room e.1.object) (map item_row items)) ∙ ap sum (map-map (λ e. room e.1.object) item_row items)
    ∙ sum-map (λ e. room e.value.object) items)

pub returns-then-not-has_few_bytes : goal.returns-then-not-has_few_bytes
returns-then-not-has_few_bytes c =
    let limits : Limits = c.args.limits.now in
    let s : State = c.args.state.now.state in
    let messages = ap (has_few_messages_in limits) (sym c.msg_queues.ensures)
    ∙ list_all-map (λ e. not (exceeds (length e.1.object.messages) (message_limit limits))) item_row c.msg_queues.result.now
    ∙ sym c.has_few_messages.ensures in
    field-of limits s true false (messages ∙ c.if-not-has_few_messages.false) c.requires.none
    (bytes-of limits s c.mqs.result.now c.mqs.ensures ∙ sym c.has_few_bytes.ensures ∙ c.if-not-has_few_bytes.true)

pub returns : goal.returns
returns c =
    let limits : Limits = c.args.limits.now in
    let s : State = c.args.state.now.state in
    let messages = ap (has_few_messages_in limits) (sym c.msg_queues.ensures)
    ∙ list_all-map (λ e. not (exceeds (length e.1.object.messages) (message_limit limits))) item_row c.msg_queues.result.now
    ∙ sym c.has_few_messages.ensures in
    field-of limits s true true (messages ∙ c.if-not-has_few_messages.false) c.requires.none
    (bytes-of limits s c.mqs.result.now c.mqs.ensures ∙ sym c.has_few_bytes.ensures ∙ c.if-not-has_few_bytes.false)
