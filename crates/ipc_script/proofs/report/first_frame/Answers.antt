use Rattle.std.proofs.Common.{◌≡◌, length, take, arith, ap, ◌∙◌}
use Rattle.std.specs.Int.{w32, from_be_bytes}
use Rattle.std.proofs.lemmas.List.{length-append}
use Rattle.ipc_script.proofs.FirstFrame.{frame_length}
use Rattle.ipc_script.proofs.report.first_frame.Goals as goal

pub returns-in-Some-clause-frame : goal.returns-in-Some-clause-frame
returns-in-Some-clause-frame c = λ frame rest f e.
    let sized = frame_length frame rest c.args.output.now f e in
    let value : c.from_be_bytes.result ≡ from_be_bytes w32 (take 4 c.args.output.now) =
    c.from_be_bytes.ensures ∙ ap (from_be_bytes w32) c.in-Some.ensures.cases.0 in
    omega (arith, ap length e, length-append frame rest, c.in-Some.ensures.cases.2, sized.0, sized.1)

pub returns-in-None-clause-frame : goal.returns-in-None-clause-frame
returns-in-None-clause-frame c = λ frame rest f e.
    let sized = frame_length frame rest c.args.output.now f e in
    absurd (omega (arith, ap length e, length-append frame rest, c.in-None.ensures.cases, sized.0))
