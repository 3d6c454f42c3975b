use Rattle.std.proofs.Common.{◌≡◌, ◌+◌, ◌∙◌, arith, length, ap, sym}
use Rattle.std.proofs.lemmas.List.{length-drop, length-take}
use Rattle.ipc_wire.proofs.Frames.{frame_takes, frame_waits}
use Rattle.ipc_wire.proofs.Read.{whole_framed}
use Rattle.ipc_wire.proofs.reading.read_frame.Goals as goal

pub returns-in-Some-bytes-clause-used : goal.returns-in-Some-bytes-clause-used
returns-in-Some-bytes-clause-used c =
    let read = c.in-Some-bytes.ensures in
    let header = c.in-Some.ensures in
    let size : length c.in-Some-bytes.text.now ≡ c.in-Some.length = ap length read.1 ∙ omega (arith, read.0, length-take c.in-Some.length c.u32.new.self) in
    let left : length c.u32.new.self + 4 ≡ length c.args.bytes.now = omega
    (arith, header.0, ap length header.2, length-drop 4 c.new-cursor.result, ap length c.new-cursor.ensures) in
    rw c.whole_frame.ensures (frame_takes c.in-Some-bytes.text.now (length c.args.bytes.now) (omega arith) (omega (arith, read.0)))

pub returns-in-Some-bytes-clause-waiting : goal.returns-in-Some-bytes-clause-waiting
returns-in-Some-bytes-clause-waiting c = λ w. absurd (frame_waits c.in-Some-bytes.text.now (sym c.whole_frame.ensures ∙ w))

pub returns-in-Some-bytes-clause-has_frame : goal.returns-in-Some-bytes-clause-has_frame
returns-in-Some-bytes-clause-has_frame c = whole_framed c.whole_frame.result
