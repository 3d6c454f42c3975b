-- A POSIX queue is known by the bytes of its object.
use Rattle.std.proofs.Common.{◌≡◌, ℕ, Bool, true, false, List, [], ◌∷◌, ◌++◌, get_or, length, Option, Some, None}
use Rattle.std.proofs.Common.{refl, sym, ap, ◌∙◌}
use Rattle.std.specs.Prelude.{if◌then◌else◌}
use Rattle.std.specs.List.{flat_map}
use Rattle.ipc_base.specs.declared.identity.Pid.{Pid}
use Rattle.ipc_base.proofs.CallerLemmas.{spelled-same}
use Rattle.posix_mq.specs.Queue.{Queue as Mq, PlainMessage as MqMessage}
use Rattle.posix_mq.specs.declared.queue.Registration.{Registration}
use Rattle.ipc_state.specs.Named.{NamedEntry, is_own}
use Rattle.ipc_image.specs.Saved.{registration_numbers, mq_shape, mq_tree, mq_bytes, FitsMq}
use Rattle.ipc_image.specs.Saved.{mq_message_shape, mq_message_tree, mq_message_bytes, FitsMqMessage}
use Rattle.ipc_image.specs.SavedParts.{registration_from, mq_message_of, mq_from}
use Rattle.ipc_image.specs.Relations.Named.{own_known}
use Rattle.ipc_image.specs.Relations.Shapes.{tree_one, plain_one}
use Rattle.ipc_image.specs.Relations.Trees.{one_if_back}

-- two messages
pub mq_message_one : (m n : MqMessage) → FitsMqMessage m → FitsMqMessage n → mq_message_tree m ≡ mq_message_tree n
    → m ≡ n
mq_message_one = one_if_back mq_message_tree mq_message_of FitsMqMessage (λ m fit. refl)

-- a registration is known by its numbers
sends_known : (b : Bool) (pid : Pid) (fd cookie : ℕ) (more : List ℕ)
    → registration_from ((if b then 2 else 1) ∷ pid.0 ∷ fd ∷ cookie ∷ more)
    ≡ Some (record { pid = pid; descriptor = fd; sends = b; cookie = cookie })
sends_known true pid fd cookie more = refl
sends_known false pid fd cookie more = refl

registration_known : (r : Option Registration) (more : List ℕ) → registration_from (registration_numbers r ++ more) ≡ r
registration_known None more = refl
registration_known (Some r) more = sends_known r.sends r.pid r.descriptor r.cookie more

-- a queue by its numbers, its name and its messages
pub mq_known : (e : NamedEntry Mq) → is_own e.perm ≡ true → mq_from (mq_tree e) e.object.messages ≡ e
mq_known e own =
    let perm = own_known e.perm own in
    let registered = registration_known e.object.registration (length e.object.messages ∷ length e.bound ∷ []) in
    λ i. record e { perm = perm i; object = record e.object { registration = registered i } }

-- what its numbers say of the messages and of the name
pub count_after : (r : Option Registration) (n m : ℕ) → get_or (registration_numbers r ++ n ∷ m ∷ []) 4 0 ≡ n
count_after None n m = refl
count_after (Some r) n m = refl

pub length_after : (r : Option Registration) (n m : ℕ) → get_or (registration_numbers r ++ n ∷ m ∷ []) 5 0 ≡ m
length_after None n m = refl
length_after (Some r) n m = refl

-- two queues
pub mq_one : (e f : NamedEntry Mq) → FitsMq e → FitsMq f → mq_bytes e ≡ mq_bytes f → e ≡ f
mq_one e f fit also same =
    let count : NamedEntry Mq → ℕ = λ g. length g.object.messages in
    let trees = tree_one mq_shape (mq_tree e) (mq_tree f) (flat_map mq_message_bytes e.object.messages)
    (flat_map mq_message_bytes f.object.messages) fit.tree also.tree same in
    let long : count e ≡ count f =
    sym (count_after e.object.registration (count e) (length e.bound))
    ∙ ap (λ (t : List ℕ × List ℕ). get_or t.0 9 0) trees.0
    ∙ count_after f.object.registration (count f) (length f.bound) in
    let one = plain_one mq_message_shape mq_message_tree FitsMqMessage (λ m fits. fits) mq_message_one in
    let messages = spelled-same mq_message_bytes FitsMqMessage one e.object.messages f.object.messages [] []
    fit.object also.object long (ap (λ (l : List ℕ). l ++ []) trees.1) in
    sym (mq_known e fit.own) ∙ ap (λ (t : List ℕ × List ℕ). mq_from t e.object.messages) trees.0
    ∙ ap (mq_from (mq_tree f)) messages.0 ∙ mq_known f also.own
