-- What has a tree is known by it: two things of one tree are one.
use Rattle.std.proofs.Common.{◌≡◌, ◌<◌, ◌^◌, ◌-◌, ℕ, ℤ, Bool, true, false, cond, nat_eq, Option, Some, None, IfSome}
use Rattle.std.proofs.Common.{FitsSigned, List, [], ◌++◌, get_or, refl, sym, ap, ◌∙◌, arith}
use Rattle.std.specs.Int.{w16, w64}
use Rattle.std.proofs.lemmas.Bool.Decides.{nat_tests}
use Rattle.std.proofs.lemmas.Int.{ints, to_z-of_z}
use Rattle.ipc_base.specs.declared.identity.Moment.{Moment}
use Rattle.ipc_base.proofs.CallerLemmas.{spelled-same}
use Rattle.ipc_state.specs.declared.descriptors.Descriptor.{Descriptor}
use Rattle.ipc_keys.specs.declared.check.NameKind.TheVariants as names
use Rattle.ipc_state.specs.declared.parked.ObjectKind.{ObjectKind}
use Rattle.ipc_state.specs.declared.parked.ObjectKind.TheVariants as kinds
use Rattle.ipc_state.specs.Opening.{object_as}
use Rattle.ipc_state.specs.declared.processes.Process.{Process}
use Rattle.ipc_state.specs.Waiting.{PlainWaiting, awaited_by}
use Rattle.ipc_wire.specs.Request.{PlainRequest}
use Rattle.ipc_wire.specs.Spelling.{request_bytes}
use Rattle.ipc_wire.specs.Stream.{frame_of}
use Rattle.ipc_wire.proofs.CallerLemmas.{framed}
use Rattle.sem_undo.specs.Undo.{is_adjustment}
use Rattle.sysv_msg.specs.Queue.{PlainMessage}
use Rattle.sysv_sem.specs.declared.set.Semaphore.{Semaphore}
use Rattle.ipc_image.specs.Saved.{descriptor_shape, descriptor_numbers, descriptor_bytes, FitsDescriptor}
use Rattle.ipc_image.specs.Saved.{kind_number}
use Rattle.ipc_image.specs.Saved.{process_numbers, process_tree, FitsProcess, deadline_number, waiting_tree}
use Rattle.ipc_image.specs.Saved.{FitsWaiting}
use Rattle.ipc_image.specs.Saved.{Adjustment, adjustment_numbers, FitsAdjustment, message_tree, FitsMessage}
use Rattle.ipc_image.specs.Saved.{semaphore_numbers, FitsSemaphore}
use Rattle.ipc_image.specs.SavedParts.{descriptor_of, kind_from, process_from}
use Rattle.ipc_image.specs.SavedParts.{request_in, awaited_or_any, deadline_from}
use Rattle.ipc_image.specs.SavedParts.{waiting_of, adjustment_of}
use Rattle.ipc_image.specs.SavedParts.{message_from, message_of, semaphore_from}
use Rattle.ipc_image.specs.Relations.Shapes.{plain_one}

-- if the tree gives each of them back
pub one_if_back : {X T : Type 0} (tree : X → T) (back : T → X) (Fits : X → Type 0)
    → ((x : X) → Fits x → back (tree x) ≡ x)
    → (x y : X) → Fits x → Fits y → tree x ≡ tree y → x ≡ y
one_if_back tree back Fits known x y fit also same = sym (known x fit) ∙ ap back same ∙ known y also

-- two descriptors
kind_known : (kind : ObjectKind) → kind_from (kind_number kind) ≡ kind
kind_known kinds.MsgQueue = refl
kind_known kinds.Semset = refl
kind_known (kinds.Named names.Mq) = refl
kind_known (kinds.Named names.Psem) = refl
kind_known (kinds.Named names.Pshm) = refl
kind_known kinds.Shm = refl

pub descriptor_one : (d e : ℕ × Descriptor) → FitsDescriptor d → FitsDescriptor e
    → descriptor_numbers d ≡ descriptor_numbers e → d ≡ e
descriptor_one =
    one_if_back descriptor_numbers descriptor_of FitsDescriptor
    (λ d fit. ap (λ (kind : ObjectKind). (d.0, record { on = object_as kind d.1.on.number; flags = d.1.flags }))
    (kind_known d.1.on.kind))

-- two processes
pub process_one : (p q : ℕ × Process) → FitsProcess p → FitsProcess q → process_tree p ≡ process_tree q → p ≡ q
process_one p q fit also same =
    let numbers = ap (λ (t : List ℕ × List ℕ). t.0) same in
    let one = plain_one descriptor_shape descriptor_numbers FitsDescriptor (λ d fits. fits) descriptor_one in
    let descriptors = spelled-same descriptor_bytes FitsDescriptor one p.1.descriptors q.1.descriptors [] [] fit.1
    also.1 (ap (λ (ns : List ℕ). get_or ns 3 0) numbers) (ap (λ (t : List ℕ × List ℕ). t.1 ++ []) same) in
    ap (λ (ns : List ℕ). process_from ns p.1.descriptors) numbers
    ∙ ap (process_from (process_numbers q)) descriptors.0

-- two semaphores
pub semaphore_one : (x y : Semaphore) → FitsSemaphore x → FitsSemaphore y → semaphore_numbers x ≡ semaphore_numbers y
    → x ≡ y
semaphore_one = one_if_back semaphore_numbers semaphore_from FitsSemaphore (λ x fit. refl)

-- two messages
pub message_one : (m n : PlainMessage) → FitsMessage m → FitsMessage n → message_tree false m ≡ message_tree false n
    → m ≡ n
message_one =
    one_if_back (message_tree false) message_of FitsMessage
    (λ m fit. ap (message_from m.text) (to_z-of_z w64 m.mtype fit.0))

-- two adjustments
adjustment-fits : (a : ℤ) → is_adjustment a ≡ true → FitsSigned w16 a
adjustment-fits a h = grind (arith, ints)

pub adjustment_one : (x y : Adjustment) → FitsAdjustment x → FitsAdjustment y
    → adjustment_numbers x ≡ adjustment_numbers y → x ≡ y
adjustment_one =
    one_if_back adjustment_numbers adjustment_of FitsAdjustment (λ x fit.
    ap (λ (a : ℤ). let z : Adjustment = (x.0, (x.1.0, a)) in z) (to_z-of_z w16 x.1.1 (adjustment-fits x.1.1 fit.0.1)))

-- a deadline is known by its number
deadline_known : (deadline : Option Moment) → IfSome deadline (λ m. m.0 < 2 ^ 64 - 1)
    → deadline_from (deadline_number deadline) ≡ deadline
deadline_known None less = refl
deadline_known (Some m) less =
    let other : nat_eq m.0 (2 ^ 64 - 1) ≡ false = grind (arith, nat_tests, less) in
    ap (λ (b : Bool). cond b None (Some m)) other

-- two calls that wait
waiting_known : (w : PlainWaiting) → FitsWaiting w → waiting_of (waiting_tree w) ≡ w
waiting_known w fit =
    let call : request_in (frame_of (request_bytes w.call)) ≡ w.call = ap request_in (framed w.call fit.frame) in
    let on : awaited_or_any (awaited_by (request_in (frame_of (request_bytes w.call))).kind) ≡ w.on =
    ap (λ (r : PlainRequest). awaited_or_any (awaited_by r.kind)) call ∙ ap awaited_or_any fit.on in
    let deadline = deadline_known w.deadline fit.deadline in
    λ i. record { pid = w.pid; on = on i; deadline = deadline i; call = call i }

pub waiting_one : (v w : PlainWaiting) → FitsWaiting v → FitsWaiting w → waiting_tree v ≡ waiting_tree w → v ≡ w
waiting_one = one_if_back waiting_tree waiting_of FitsWaiting waiting_known
