use Rattle.std.proofs.Common.{◌≡◌, ◌<◌, ◌^◌, ◌∙◌, ◌++◌, ℕ, ℤ, true, List, sym, ap, subst, length}
use Rattle.std.specs.Prelude.{All, Err}
use Rattle.std.specs.Int.{w32}
use Rattle.std.proofs.lemmas.Int.{to_z-of_z}
use Rattle.ipc_base.specs.Numbers.{fields_bytes, FitFields}
use Rattle.ipc_base.proofs.CallerLemmas.{fields_one, numbers_are}
use Rattle.sysv_msg.specs.Queue.{Queue}
use Rattle.ipc_state.specs.Keyed.{KeyedEntry}
use Rattle.ipc_image.specs.Saved.{head_numbers, head_sizes, messages_bytes, queue_bytes, queue_numbers, queue_sizes, FitsMessage, FitsQueue}
use Rattle.ipc_image.specs.SavedParts.{queue_from}
use Rattle.ipc_image.proofs.marked_queue.MarkedQueueStored.read.Goals as goal

pub returns-in_err-head-clause-damaged : goal.returns-in_err-head-clause-damaged
returns-in_err-head-clause-damaged c is e fit =
    let none = rw c.in_err-head.ensures.ok_part at c.take_head.ensures.none in
    none (head_numbers e.bound e.perm) _ fit.head

-- what is left after the head, and after the numbers
after-numbers : (e : KeyedEntry Queue) → FitsQueue e → (bytes heads rest ns left : List ℕ) → bytes ≡ queue_bytes true e
    → bytes ≡ fields_bytes head_sizes heads ++ rest → FitFields head_sizes heads → rest ≡ fields_bytes queue_sizes ns ++ left → FitFields queue_sizes ns
    → left ≡ messages_bytes true e.object.messages
after-numbers e fit bytes heads rest ns left same is head next has =
    let first = (fields_one head_sizes heads (head_numbers e.bound e.perm) rest _ head fit.head (sym is ∙ same)).1 in
    (fields_one queue_sizes ns (queue_numbers e.object) left _ has fit.numbers (sym next ∙ first)).1

pub returns-in_err-object-clause-damaged : goal.returns-in_err-object-clause-damaged
returns-in_err-object-clause-damaged c is e fit same =
    let why = rw is at c.from_residual-in_err-object.ensures in
    let head = rw c.in_ok-head.ensures.ok_part at c.take_head.ensures.some in
    let rest = (fields_one head_sizes (head_numbers c.in_ok-head.head.bound c.in_ok-head.head.perm) (head_numbers e.bound e.perm)
    c.in_ok-head.rest.now _ head.1 fit.head (sym head.2 ∙ same)).1 in
    c.in_err-object.ensures.damaged (ap (λ e. Err e) (sym why.1)) (queue_numbers e.object) _ fit.numbers rest

pub returns-in_err-read_messages-clause-damaged : goal.returns-in_err-read_messages-clause-damaged
returns-in_err-read_messages-clause-damaged c is e fit same =
    let why = rw is at c.from_residual-in_err-read_messages.ensures in
    let head = rw c.in_ok-head.ensures.ok_part at c.take_head.ensures.some in
    let own = c.in_ok-object.ensures.ok in
    c.in_err-read_messages.ensures.damaged (ap (λ e. Err e) (sym why.1)) e.object.messages fit.count fit.parts
    (after-numbers e fit c.args.bytes.now (head_numbers c.in_ok-head.head.bound c.in_ok-head.head.perm) c.in_ok-head.rest.now own.0
    c.in_ok-object.rest.now same head.2 head.1 own.2 own.1)

pub returns-clause-ok : goal.returns-clause-ok
returns-clause-ok c =
    let head = rw c.in_ok-head.ensures.ok_part at c.take_head.ensures.some in
    let own = c.in_ok-object.ensures.ok in
    let read = c.in_ok-read_messages.ensures.ok in
    let is : c.read_messages.new.queue ≡ queue_from own.0 read.0 =
    read.4 ∙ ap (λ (q : Queue). record q { messages = q.messages ++ read.0 }) own.3 in
    let numbers : queue_numbers c.read_messages.new.queue ≡ own.0 = ap queue_numbers is ∙ sym (numbers_are queue_sizes own.0 own.1) in
    let messages : c.read_messages.new.queue.messages ≡ read.0 = ap (λ (q : Queue). q.messages) is in
    let perm = c.in_ok-head.head.perm in
    subst (λ (k : ℤ). let e : KeyedEntry Queue = record { bound = k; perm = perm; object = c.read_messages.new.queue } in
    FitsQueue e × (c.args.bytes.now ≡ queue_bytes true e))
    (sym (to_z-of_z w32 c.in_ok-head.head.bound head.0)) (
      record {
        key = head.0;
        head = head.1;
        numbers = subst (FitFields queue_sizes) (sym numbers) own.1;
        count = subst (λ l. length l < 2 ^ 32) (sym messages) read.1;
        parts = subst (All FitsMessage) (sym messages) read.2;
      },
      head.2 ∙ ap (λ (l : List ℕ). fields_bytes head_sizes (head_numbers c.in_ok-head.head.bound perm) ++ l)
          (own.2 ∙ ap (λ (l : List ℕ). fields_bytes queue_sizes own.0 ++ l) read.3
          ∙ (λ i. fields_bytes queue_sizes (sym numbers i) ++ messages_bytes true (sym messages i))),
    )
