use Rattle.std.proofs.Common.{◌∙◌, Bool, true, sym, ap}
use Rattle.ipc_base.specs.Numbers.{fields_bytes}
use Rattle.ipc_image.specs.Saved.{head_numbers, head_sizes, messages_bytes, queue_bytes, queue_numbers, queue_sizes}
use Rattle.ipc_image.specs.Window.{passed}
use Rattle.ipc_image.proofs.Windows.{passed-three}
use Rattle.ipc_image.proofs.marked_queue.put_queue.Goals as goal

pub returns-then-marks-clause-passed : goal.returns-then-marks-clause-passed
returns-then-marks-clause-passed c =
    let e = c.args.queue.now in
    let own = fields_bytes queue_sizes (queue_numbers e.object) in
    let all = messages_bytes true e.object.messages in
    c.put_messages.ensures.passed ∙ ap (passed all) (c.put_numbers.ensures ∙ ap (passed own) c.put_head.ensures)
    ∙ passed-three c.args.window.now (fields_bytes head_sizes (head_numbers e.bound e.perm)) own all
    ∙ ap (λ (marks : Bool). passed (queue_bytes marks e) c.args.window.now) (sym c.if-marks.true)
