use Rattle.std.proofs.Common.{ℕ, true, List, ◌++◌, ◌∙◌, ap}
use Rattle.std.specs.List.{flat_map}
use Rattle.ipc_image.specs.Saved.{count_bytes, message_bytes, token_bytes}
use Rattle.ipc_image.specs.Window.{passed}
use Rattle.ipc_image.proofs.Windows.{passed-three}
use Rattle.ipc_image.proofs.marked_queue.put_messages.Goals as goal

pub returns-clause-passed : goal.returns-clause-passed
returns-clause-passed c =
    let all : List ℕ = flat_map (message_bytes true) c.args.queue.now.messages in
    let w = c.args.window.now in
    c.put_list.ensures.passed ∙ ap (passed all) (c.put_fields.ensures ∙ ap (passed (token_bytes true)) c.put_count.ensures)
    ∙ passed-three w (count_bytes c.len.result) (token_bytes true) all
    ∙ ap (λ (n : ℕ). passed (count_bytes n ++ (token_bytes true ++ all)) w) c.len.ensures
