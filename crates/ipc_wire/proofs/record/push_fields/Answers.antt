use Rattle.std.proofs.Common.{◌≡◌, ◌∙◌, ◌+◌, ◌++◌, [], ℕ, suc, List, length, take, get_or, ap, sym, append_assoc, arith, rules}
use Rattle.std.specs.Prelude.{vec_len}
use Rattle.std.proofs.Math.Seq.{take-suc}
use Rattle.std.proofs.lemmas.List.{length-append, flat_map_more}
use Rattle.std.proofs.lemmas.List.Folds.{length-flat_map-take}
use Rattle.ipc_base.specs.declared.field.Field.{Field}
use Rattle.ipc_base.specs.declared.field.Field.TheVariants.{U8}
use Rattle.ipc_base.specs.Numbers.{field_bytes, record_bytes}
use Rattle.ipc_wire.proofs.record.push_fields.Goals as goal

pub push_field-requires : goal.push_field-requires
push_field-requires c =
    let old : vec_len c.args.body.now ≡ length c.args.body.now.items = search rules in
    let now : vec_len c.loop-field.body ≡ length c.loop-field.body.items = search rules in
    let front : List ℕ = record_bytes (take c.loop-field.field-index c.args.fields.now) in
    omega (
      arith,
      c.requires,
      c.loop-field.invariant.room,
      old,
      now,
      ap length c.loop-field.invariant.bytes,
      length-append c.args.body.now.items front,
      length-flat_map-take field_bytes c.args.fields.now c.loop-field.field-index (U8 0) c.loop-field-test.true,
    )

pub loop-field-preserved : goal.loop-field-preserved
loop-field-preserved c =
    let i : ℕ = c.loop-field.field-index in
    let fields : List Field = c.args.fields.now in
    let after : suc i ≡ i + 1 = omega arith in
    let front : List ℕ = record_bytes (take i fields) in
    let more : front ++ field_bytes (get_or fields i (U8 0)) ≡ record_bytes (take (i + 1) fields) =
    flat_map_more field_bytes [] (take i fields) (get_or fields i (U8 0))
    ∙ ap record_bytes (sym (take-suc fields i (U8 0) c.loop-field-test.true) ∙ ap (λ (n : ℕ). take n fields) after) in
    record {
      bytes = c.push_field.ensures.bytes ∙ ap (λ (l : List ℕ). l ++ field_bytes (get_or fields i (U8 0))) c.loop-field.invariant.bytes
          ∙ append_assoc c.args.body.now.items front (field_bytes (get_or fields i (U8 0))) ∙ ap (λ (l : List ℕ). c.args.body.now.items ++ l) more;
      room = omega (arith, c.push_field.ensures.room, c.loop-field.invariant.room);
    }
