use Rattle.std.proofs.Common.{ℕ, List, [], ◌∷◌, ◌++◌, ◌∙◌, ap}
use Rattle.ipc_base.specs.Numbers.{fields_bytes}
use Rattle.ipc_wire.specs.Spelling.{request_bytes}
use Rattle.ipc_image.specs.Saved.{waiting_sizes, deadline_number}
use Rattle.ipc_image.specs.Window.{passed}
use Rattle.ipc_image.proofs.Windows.{passed-both}
use Rattle.ipc_image.proofs.waiting.WaitingAwaitedParkedSaved.put.Goals as goal

pub returns : goal.returns
returns c =
    let call : List ℕ = request_bytes c.args.self.now.call in
    let w = c.args.window.now in
    let pid : ℕ = c.args.self.now.pid.0 in
    c.put_call.ensures ∙ ap (passed call) c.put_fields.ensures
    ∙ passed-both w (fields_bytes waiting_sizes (pid ∷ c.deadline_number.result ∷ c.call_len.result ∷ [])) call
    ∙ ap (λ (n : ℕ). passed (fields_bytes waiting_sizes (pid ∷ n ∷ c.call_len.result ∷ []) ++ call) w) c.deadline_number.ensures
    ∙ ap (λ (n : ℕ). passed (fields_bytes waiting_sizes (pid ∷ deadline_number c.args.self.now.deadline ∷ n ∷ []) ++ call) w) c.call_len.ensures
