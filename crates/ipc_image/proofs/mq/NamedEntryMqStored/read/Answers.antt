use Rattle.std.proofs.Common.{◌≡◌, ◌<◌, ◌^◌, ℕ, List, ◌++◌, take, drop, get_or, Option, sym, ap, subst, ◌∙◌, arith}
use Rattle.std.specs.Prelude.{Err}
use Rattle.std.specs.List.{flat_map}
use Rattle.std.proofs.lemmas.List.{append_assoc, take-append-drop}
use Rattle.ipc_base.specs.Numbers.{fields_bytes, FitFields}
use Rattle.ipc_base.proofs.CallerLemmas.{numbers_are}
use Rattle.ipc_image.specs.Saved.{mq_sizes, mq_numbers, mq_message_bytes, mq_bytes, FitsMq}
use Rattle.ipc_image.specs.SavedParts.{with_mq_messages}
use Rattle.posix_mq.specs.Queue.{Queue as Mq}
use Rattle.posix_mq.specs.declared.queue.Registration.{Registration}
use Rattle.ipc_state.specs.Named.{NamedEntry}
use Rattle.ipc_image.proofs.MqObjects.{is-cut, is-registered, is-counted, is-left, mq-read}
use Rattle.ipc_image.proofs.mq.NamedEntryMqStored.read.Goals as goal

pub returns-in_err-numbers-clause-damaged : goal.returns-in_err-numbers-clause-damaged
returns-in_err-numbers-clause-damaged c is e fits same =
    let none = rw c.in_err-numbers.ensures.ok_part at c.take_fields.ensures.none in
    none (mq_numbers e) _ fits.tree.0 (same ∙ append_assoc (fields_bytes mq_sizes (mq_numbers e)) e.bound (flat_map mq_message_bytes e.object.messages))

pub returns-in_err-name-clause-damaged : goal.returns-in_err-name-clause-damaged
returns-in_err-name-clause-damaged c is e fits same =
    let found = rw c.in_ok-numbers.ensures.ok_part at c.take_fields.ensures.some in
    let short = rw c.in_err-name.ensures.ok_part at c.split_at_checked.ensures.cases in
    is-cut c.args.bytes.now c.in_ok-numbers.numbers c.in_ok-numbers.after.now found.0 found.1 e fits same (omega (arith, short))

pub returns-in_err-registration-clause-damaged : goal.returns-in_err-registration-clause-damaged
returns-in_err-registration-clause-damaged c is e fits same =
    let found = rw c.in_ok-numbers.ensures.ok_part at c.take_fields.ensures.some in
    let none = rw c.in_err-registration.ensures.ok_part at c.registration_in.ensures.none in
    none e.object.registration (is-registered c.args.bytes.now c.in_ok-numbers.numbers c.in_ok-numbers.after.now found.0 found.1 e fits same)

pub overflow_cast-numbers-3 : goal.overflow_cast-numbers-3
overflow_cast-numbers-3 c =
    let found = rw c.in_ok-numbers.ensures.ok_part at c.take_fields.ensures.some in
    let all = subst (FitFields mq_sizes) (numbers_are mq_sizes c.in_ok-numbers.numbers found.0) found.0 in
    let small : get_or c.in_ok-numbers.numbers 9 0 < 2 ^ 32 = all.1.1.1.1.1.1.1.1.1.0 in
    search (arith, small)

-- what was cut after the numbers
cut : (after name rest : List ℕ) (n : ℕ) → (name ≡ take n after) → (rest ≡ drop n after) → after ≡ name ++ rest
cut after name rest n front back = sym (take-append-drop n after) ∙ (λ i. sym front i ++ sym back i)

pub returns-in_err-read_list-clause-damaged : goal.returns-in_err-read_list-clause-damaged
returns-in_err-read_list-clause-damaged c is e fits same =
    let ns : List ℕ = c.in_ok-numbers.numbers in
    let after = c.in_ok-numbers.after.now in
    let found = rw c.in_ok-numbers.ensures.ok_part at c.take_fields.ensures.some in
    let split = rw c.in_ok-name.ensures.ok_part at c.split_at_checked.ensures.cases in
    let why = rw is at c.from_residual-in_err-read_list.ensures in
    c.in_err-read_list.ensures.damaged (ap (λ e. Err e) (sym why.1)) e.object.messages
    (is-counted c.args.bytes.now ns after found.0 found.1 e fits same) fits.object
    (is-left c.args.bytes.now ns after found.0 found.1 e fits same c.in_ok-name.name.now c.in_ok-name.rest.now
    (cut after c.in_ok-name.name.now c.in_ok-name.rest.now (get_or ns 10 0) split.1 split.2) split.3)

pub returns-clause-ok : goal.returns-clause-ok
returns-clause-ok c =
    let ns : List ℕ = c.in_ok-numbers.numbers in
    let after = c.in_ok-numbers.after.now in
    let text : List ℕ = c.in_ok-name.name.now in
    let rest : List ℕ = c.in_ok-name.rest.now in
    let found = rw c.in_ok-numbers.ensures.ok_part at c.take_fields.ensures.some in
    let split = rw c.in_ok-name.ensures.ok_part at c.split_at_checked.ensures.cases in
    let registered = rw c.in_ok-registration.ensures.ok_part at c.registration_in.ensures.some in
    let r : Option Registration = c.in_ok-registration.registration in
    let read = c.in_ok-read_list.ensures.ok in
    let object = read.4 ∙ ap (λ (q : Mq). with_mq_messages q (q.messages ++ read.0)) c.in_ok-object.ensures in
    let Is : NamedEntry Mq → Type 0 = λ e. FitsMq e × (c.args.bytes.now ≡ mq_bytes e) in
    let made = mq-read c.args.bytes.now ns after found.0 found.1 text rest r read.0 (cut after text rest (get_or ns 10 0) split.1 split.2) split.3
    registered read.2 read.1 read.3 in
    let name = sym c.in_ok-name-2.ensures in
    let perm = sym c.own_perm.ensures.perm in
    subst Is (λ i. record { bound = name i; perm = perm i; object = sym object i }) made
