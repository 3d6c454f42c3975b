use Rattle.std.proofs.Common.{◌≡◌, ◌∙◌, ◌<◌, pos, List, length, take, get_or, ap, sym, refl, arith}
use Rattle.std.specs.Prelude.{unwrap_or, Option, bit_or}
use Rattle.std.specs.List.{fold}
use Rattle.std.proofs.lemmas.List.{take_all}
use Rattle.std.proofs.lemmas.List.Sums.{fold_more}
use Rattle.std.proofs.lemmas.Option.{unwrap_or-slice_get}
use Rattle.ipc_wire.specs.SemBufs.{bytes_of, operations_in}
use Rattle.ipc_wire.specs.declared.sem_bufs.SemBuf.{SemBuf}
use Rattle.ipc_state.specs.Bits.{bit_of, with_bit}
use Rattle.ipc_state.proofs.operations.bits_of.Goals as goal

pub loop-place-init : goal.loop-place-init
loop-place-init c = record { inside = omega arith; named = refl }

pub loop-place-preserved : goal.loop-place-preserved
loop-place-preserved c =
    let spelt : List SemBuf = operations_in (bytes_of c.args.operations.now) in
    let at = c.loop-place.place in
    let none : SemBuf = record { num = 0; op = pos 0; flags = 0 } in
    let before : at < length spelt = omega (arith, c.loop-place-test.true, c.len-place-end.ensures) in
    let is : get_or spelt at none ≡ c.at.result =
    sym (unwrap_or-slice_get spelt at none) ∙ ap (λ (o : Option SemBuf). unwrap_or o none) c.at.ensures in
    record {
      inside = omega (arith, before);
      named = (λ i. bit_or (c.loop-place.invariant.named i) ((c.bit_of-word.ensures ∙ ap bit_of c.from.ensures) i))
          ∙ sym (fold_more with_bit 0 spelt at none before ∙ ap (λ (o : SemBuf). with_bit (fold with_bit 0 (take at spelt)) o) is);
    }

pub returns : goal.returns
returns c =
    let spelt : List SemBuf = operations_in (bytes_of c.args.operations.now) in
    let all : c.loop-place.place ≡ length spelt =
    omega (arith, c.loop-place.invariant.inside, c.loop-place-test.false, c.len-place-end.ensures) in
    c.loop-place.invariant.named ∙ ap (fold with_bit 0) (take_all c.loop-place.place spelt (omega (arith, all)))
