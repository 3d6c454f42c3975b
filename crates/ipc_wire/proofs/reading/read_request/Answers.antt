use Rattle.std.proofs.Common.{◌≡◌, ◌∙◌, sym, ap, arith}
use Rattle.ipc_wire.specs.View.{plain_request}
use Rattle.ipc_wire.specs.Stream.{plain_frame, frame_of}
use Rattle.ipc_wire.specs.Stream.PlainFrame.{Whole, Fault, More}
use Rattle.ipc_base.proofs.CallerLemmas.{AreBytes}
use Rattle.ipc_wire.proofs.Read.{request_read, request_text, one_request}
use Rattle.ipc_wire.proofs.reading.read_request.Goals as goal

pub returns-in-Whole-clause-some : goal.returns-in-Whole-clause-some
returns-in-Whole-clause-some c =
    let fits : AreBytes c.args.text.now = λ i. omega (arith, c.type_inv.text i) in
    let is : frame_of c.args.text.now ≡ Whole c.in-Whole.used (plain_request c.in-Whole.request) =
    sym c.whole_frame.ensures ∙ ap plain_frame c.in-Whole.is in
    request_read c.args.text.now c.in-Whole.used (plain_request c.in-Whole.request) fits (omega (arith, c.if-text.false)) (omega (arith, c.if-text-2.false)) is

pub returns-in-Whole-clause-only : goal.returns-in-Whole-clause-only
returns-in-Whole-clause-only c r has is =
    let known : frame_of c.args.text.now ≡ Whole c.in-Whole.used (plain_request c.in-Whole.request) =
    sym c.whole_frame.ensures ∙ ap plain_frame c.in-Whole.is in
    one_request (frame_of c.args.text.now) c.in-Whole.used _ (plain_request c.in-Whole.request) r known (request_text c.args.text.now r has is).whole

pub returns-in-More-clause-only : goal.returns-in-More-clause-only
returns-in-More-clause-only c r has is =
    let known : frame_of c.args.text.now ≡ More = sym c.whole_frame.ensures ∙ ap plain_frame c.in-More.is in
    let whole = (request_text c.args.text.now r has is).whole in
    cc

pub returns-in-Fault-clause-only : goal.returns-in-Fault-clause-only
returns-in-Fault-clause-only c r has is =
    let known : frame_of c.args.text.now ≡ Fault c.in-Fault.serial = sym c.whole_frame.ensures ∙ ap plain_frame c.in-Fault.is in
    let whole = (request_text c.args.text.now r has is).whole in
    cc
