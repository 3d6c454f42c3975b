use Rattle.std.proofs.Common.{◌≡◌, ◌∙◌, ◌<◌, ◌≤◌, ◌^◌, ◌+◌, ℕ, List, drop, take, length, option_map, Some, sym, ap, arith}
use Rattle.std.specs.Int.{w32, from_be_bytes}
use Rattle.std.specs.Prelude.{slice_index}
use Rattle.std.proofs.lemmas.List.{length-drop, get_or-take, get_or-drop, drop-drop}
use Rattle.ipc_base.proofs.CallerLemmas.{AreBytes, bytes-drop}
use Rattle.ipc_wire.specs.Sizes.{greatest_fields}
use Rattle.ipc_wire.specs.Request.{plain_kind}
use Rattle.ipc_wire.specs.Stream.{kind_of, frame_of}
use Rattle.ipc_wire.specs.Stream.PlainFrame.{Whole}
use Rattle.ipc_wire.proofs.Read.{kind_framed, frame_read, request_read}
use Rattle.ipc_wire.proofs.reading.whole_frame.Goals as goal

pub invariant_of-result : goal.invariant_of-result
invariant_of-result c =
    let text = c.args.text.now in
    let fields = c.rest.result.now in
    let kind = plain_kind c.in-Some-read_kind.kind in
    let left : fields ≡ drop 1 (drop 4 text) = c.rest.ensures ∙ c.in-Some-u8.ensures.2 ∙ ap (drop 1) (c.in-Some.ensures.2 ∙ ap (drop 4) c.new-cursor.ensures) in
    let fit : AreBytes fields = rw left (bytes-drop 1 (drop 4 text) (bytes-drop 4 text (λ i. omega (arith, c.type_inv.text i)))) in
    let short : length fields ≤ greatest_fields = omega (arith, ap length left, c.requires.1, length-drop 1 (drop 4 text), length-drop 4 text) in
    let below : c.in-Some.serial < 2 ^ 32 = omega arith in
    let read : kind_of c.in-Some-u8.opcode fields ≡ Some kind = sym c.read_kind.ensures ∙ ap (option_map plain_kind) c.in-Some-read_kind.is in
    let beyond : c.u32.new.self ≡ drop 4 text = c.in-Some.ensures.2 ∙ ap (drop 4) c.new-cursor.ensures in
    let whole_fields : fields ≡ drop 5 text = left ∙ drop-drop 1 4 text in
    let whole : frame_of text ≡ Whole (4 + length text) (record { serial = c.in-Some.serial; kind = kind }) =
    frame_read text c.in-Some.serial c.in-Some-u8.opcode kind
    (c.in-Some.ensures.1 ∙ ap (λ (l : List ℕ). from_be_bytes w32 (take 4 l)) c.new-cursor.ensures)
    (c.in-Some-u8.ensures.1 ∙ ap (λ (l : List ℕ). slice_index (take 1 l) 0) beyond
    ∙ get_or-take 1 (drop 4 text) 0 0 (omega arith) ∙ get_or-drop 4 text 0 0) (omega arith) (ap (kind_of c.in-Some-u8.opcode) (sym whole_fields) ∙ read) in
    record {
      frame = kind_framed c.in-Some-u8.opcode c.in-Some.serial fields kind (omega arith) below fit short read;
      spelled = (request_read text (4 + length text) (record { serial = c.in-Some.serial; kind = kind }) (λ i. omega (arith, c.type_inv.text i))
          (omega (arith, c.requires.0)) (omega (arith, c.requires.1)) whole).1;
    }
