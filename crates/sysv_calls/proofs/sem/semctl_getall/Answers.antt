use Rattle.std.proofs.Common.{◌≡◌, ◌∙◌, ◌++◌, [], ℕ, List, map, false, length, refl, ap, sym, arith, rules}
use Rattle.std.specs.Global.{Vec}
use Rattle.std.specs.Prelude.{vec_len, vec_capacity, Ok}
use Rattle.std.proofs.lemmas.Simd.{map-map}
use Rattle.ipc_base.specs.Numbers.{record_bytes}
use Rattle.ipc_base.specs.declared.field.Field.TheVariants.{U16}
use Rattle.ipc_wire.specs.declared.reply.Body.TheVariants.{Record}
use Rattle.sysv_sem.specs.declared.set.Semaphore.{Semaphore}
use Rattle.sysv_sem.specs.Set.{values_of}
use Rattle.ipc_state.specs.declared.parked.ObjectKind.TheVariants as kinds
use Rattle.ipc_state.specs.Finish.{Finishes, done}
use Rattle.ipc_state.proofs.CallerLemmas.{content-sound}
use Rattle.sysv_calls.specs.Access.{read, accessible}
use Rattle.sysv_calls.proofs.Reaching.{accessible-there}
use Rattle.sysv_calls.proofs.sem.semctl_getall.Goals.{After-semaphores}
use Rattle.sysv_calls.proofs.sem.semctl_getall.Goals as goal

-- the set of a caller that may read it
reads : (c : After-semaphores) → accessible false c.args.state.now.state.semset c.args.cred c.args.id.0 read ≡ Ok c.in_ok-entry.entry.now
reads c = search rules

-- the buffer is empty at first
empty : (c : After-semaphores) → c.take_spare-body.result.items ≡ []
empty c = ap (λ (b : Vec ℕ). b.items) c.take_spare-body.ensures.taken ∙ c.requires.spare.empty

pub push_values-requires : goal.push_values-requires
push_values-requires c =
    let g = (goal.at.push_values-requires c).After-semaphores in
    let limits = c.args.state.now.limits in
    let s = c.args.state.now.state in
    let e = c.in_ok-entry.entry.now in
    let there = accessible-there s.semset c.args.cred c.args.id.0 e read (reads g) in
    let few = (content-sound limits s kinds.Semset c.args.id.0 e there c.requires.sound).few in
    let len : vec_len c.take_spare-body.result ≡ length c.take_spare-body.result.items = search rules in
    let all = ap length c.semaphores.ensures.semaphores in
    let room = ap vec_capacity c.take_spare-body.ensures.taken in
    omega (arith, len, ap length (empty g), all, few, room, c.requires.spare.room)

pub returns-clause-finish : goal.returns-clause-finish
returns-clause-finish c =
    let g = (goal.at.returns-clause-finish c).After-semaphores in
    let e = c.in_ok-entry.entry.now in
    let two : List Semaphore → List ℕ = λ xs. record_bytes (map (λ (x : Semaphore). U16 x.value) xs) in
    let bytes : c.push_values.new.body.items ≡ record_bytes (map U16 (values_of e.object)) =
    c.push_values.ensures.bytes ∙ ap (λ (l : List ℕ). l ++ two c.semaphores.result.now) (empty g)
    ∙ ap two c.semaphores.ensures.semaphores
    ∙ ap record_bytes (sym (map-map U16 (λ (x : Semaphore). x.value) e.object.semaphores)) in
    ap (λ (l : List ℕ). Finishes (done c.args.state.now.state (Record l))) bytes ∙ rw (reads g) refl
