-- A message with marks is known by its bytes, and so is a queue by its object, in each form.
use Rattle.std.proofs.Common.{◌≡◌, ℕ, ℤ, true, List, [], ◌∷◌, ◌++◌, length, get_or}
use Rattle.std.proofs.Common.{refl, sym, ap, ◌∙◌, arith}
use Rattle.std.specs.Prelude.{FitsSigned}
use Rattle.std.specs.Int.{w32, w64, cast_signed}
use Rattle.std.proofs.lemmas.Int.{to_z-of_z}
use Rattle.ipc_base.specs.declared.field.Size.TheVariants.{Four, Eight}
use Rattle.ipc_base.proofs.CallerLemmas.{fields_one, spelled-same}
use Rattle.sysv_msg.specs.Queue.{Queue, PlainMessage}
use Rattle.ipc_state.specs.Keyed.{KeyedEntry}
use Rattle.ipc_image.specs.Shape.{IsTree}
use Rattle.ipc_image.specs.Saved.{head_sizes, head_numbers, queue_sizes, queue_numbers, message_shape, message_tree}
use Rattle.ipc_image.specs.Saved.{message_bytes, queue_bytes, FitsMessage, FitsQueue}
use Rattle.ipc_image.specs.SavedParts.{message_from, perm_from, queue_from}
use Rattle.ipc_image.specs.Relations.Shapes.{plain_one}
use Rattle.ipc_image.specs.Relations.Trees.{one_if_back}

-- the numbers of a message that nobody has taken
abbrev pub untaken : ℕ → ℕ → List ℕ
untaken mtype len = mtype ∷ 0 ∷ 0 ∷ 0 ∷ 0 ∷ len ∷ []

pub marked_known : (m : PlainMessage) → FitsMessage m → IsTree (message_shape true) (message_tree true m)
marked_known m fit =
    let own = fit.1.0 in
    ((own.0, (omega arith, (omega arith, (omega arith, (omega arith, (own.1.0, tt)))))), refl)

abbrev marked_of : List ℕ × List ℕ → PlainMessage
marked_of t = message_from t.1 (cast_signed w64 (get_or t.0 0 0))

pub marked_one : (m n : PlainMessage) → FitsMessage m → FitsMessage n → message_tree true m ≡ message_tree true n
    → m ≡ n
marked_one =
    one_if_back (message_tree true) marked_of FitsMessage
    (λ m fit. ap (message_from m.text) (to_z-of_z w64 m.mtype fit.0))

-- two queues of one object with marks
pub queue_one : (e f : KeyedEntry Queue) → FitsQueue e → FitsQueue f → queue_bytes true e ≡ queue_bytes true f → e ≡ f
queue_one e f fit also same =
    let head = fields_one head_sizes (head_numbers e.bound e.perm) (head_numbers f.bound f.perm) _ _ fit.head also.head
    same in
    let numbers = fields_one queue_sizes (queue_numbers e.object) (queue_numbers f.object) _ _ fit.numbers also.numbers
    head.1 in
    let count = fields_one (Four ∷ []) (length e.object.messages ∷ []) (length f.object.messages ∷ []) _ _
    (fit.count, tt) (also.count, tt) numbers.1 in
    let token = fields_one (Eight ∷ []) (1 ∷ []) (1 ∷ []) _ _ (omega arith, tt) (omega arith, tt) count.1 in
    let long : length e.object.messages ≡ length f.object.messages = ap (λ (ns : List ℕ). get_or ns 0 0) count.0 in
    let one = plain_one (message_shape true) (message_tree true) FitsMessage marked_known marked_one in
    let messages = (spelled-same (message_bytes true) FitsMessage one e.object.messages f.object.messages [] []
    fit.parts also.parts long (ap (λ (l : List ℕ). l ++ []) token.1)).0 in
    let object : e.object ≡ f.object =
    ap (λ (ns : List ℕ). queue_from ns e.object.messages) numbers.0
    ∙ ap (queue_from (queue_numbers f.object)) messages in
    let made : List ℕ → Queue → KeyedEntry Queue =
    λ ns q. record { bound = cast_signed w32 (get_or ns 0 0); perm = perm_from ns; object = q } in
    let known : (d : KeyedEntry Queue) → FitsSigned w32 d.bound → made (head_numbers d.bound d.perm) d.object ≡ d =
    λ d fits. ap (λ (k : ℤ). record { bound = k; perm = d.perm; object = d.object }) (to_z-of_z w32 d.bound fits) in
    sym (known e fit.key) ∙ ap (λ (ns : List ℕ). made ns e.object) head.0
    ∙ ap (made (head_numbers f.bound f.perm)) object ∙ known f also.key
