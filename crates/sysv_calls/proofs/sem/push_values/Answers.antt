use Rattle.std.proofs.Common.{◌≡◌, ◌∙◌, ◌+◌, ◌++◌, ◌∷◌, [], ℕ, List, length, map, take, get_or, ap, sym, append_assoc, arith, rules}
use Rattle.std.specs.Prelude.{vec_len}
use Rattle.std.proofs.lemmas.List.{append-nil, length-append, length-take, map-append, take_more, take_all}
use Rattle.std.proofs.lemmas.Grind.{flat_map-append}
use Rattle.ipc_base.specs.declared.field.Field.{Field}
use Rattle.ipc_base.specs.declared.field.Field.TheVariants.{U16}
use Rattle.ipc_base.specs.Numbers.{field_bytes, record_bytes}
use Rattle.sysv_sem.specs.declared.set.Semaphore.{Semaphore}
use Rattle.sysv_calls.proofs.Reaching.{values-length}
use Rattle.sysv_calls.proofs.sem.push_values.Goals as goal

abbrev field : Semaphore → Field
field x = U16 x.value

pub loop-semaphore-init : goal.loop-semaphore-init
loop-semaphore-init c = record { bytes = sym (append-nil c.args.body.now.items); room = omega arith }

pub push_fields-requires : goal.push_fields-requires
push_fields-requires c =
    let xs = c.args.semaphores.now in
    let i : ℕ = c.loop-semaphore.semaphore-index in
    let old : vec_len c.args.body.now ≡ length c.args.body.now.items = search rules in
    let now : vec_len c.loop-semaphore.body ≡ length c.loop-semaphore.body.items = search rules in
    omega (
      arith,
      c.requires,
      c.loop-semaphore.invariant.room,
      old,
      now,
      ap length c.loop-semaphore.invariant.bytes,
      length-append c.args.body.now.items (record_bytes (map field (take i xs))),
      values-length (take i xs),
      length-take i xs,
      c.loop-semaphore-test.true,
    )

pub loop-semaphore-preserved : goal.loop-semaphore-preserved
loop-semaphore-preserved c =
    let xs = c.args.semaphores.now in
    let i : ℕ = c.loop-semaphore.semaphore-index in
    let none : Semaphore = record { value = 0; pid = record { 0 = 0 } } in
    let x : Semaphore = get_or xs i none in
    let more : record_bytes (map field (take i xs)) ++ record_bytes (field x ∷ []) ≡ record_bytes (map field (take (i + 1) xs)) =
    sym (ap (λ (ys : List Semaphore). record_bytes (map field ys)) (take_more xs i none c.loop-semaphore-test.true)
    ∙ ap record_bytes (map-append field (take i xs) (x ∷ []))
    ∙ flat_map-append field_bytes (map field (take i xs)) (field x ∷ [])) in
    record {
      bytes = c.push_fields.ensures.bytes ∙ ap (λ (l : List ℕ). l ++ record_bytes (field x ∷ [])) c.loop-semaphore.invariant.bytes
          ∙ append_assoc c.args.body.now.items (record_bytes (map field (take i xs))) (record_bytes (field x ∷ []))
          ∙ ap (λ (l : List ℕ). c.args.body.now.items ++ l) more;
      room = omega (arith, c.push_fields.ensures.room, c.loop-semaphore.invariant.room);
    }

pub returns-clause-bytes : goal.returns-clause-bytes
returns-clause-bytes c =
    c.loop-semaphore.invariant.bytes
    ∙ ap (λ (ys : List Semaphore). c.args.body.now.items ++ record_bytes (map field ys))
    (take_all c.loop-semaphore.semaphore-index c.args.semaphores.now c.loop-semaphore-test.false)

pub returns-clause-room : goal.returns-clause-room
returns-clause-room c = c.loop-semaphore.invariant.room
