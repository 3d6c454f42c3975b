-- What follows the count does not begin with the token.
use Rattle.std.proofs.Common.{◌∙◌, true, drop, sym, ap}
use Rattle.std.specs.List.{flat_map}
use Rattle.ipc_image.specs.Saved.{message_bytes}
use Rattle.ipc_image.proofs.marked_queue.read_messages.Goals as goal

pub returns-in_err-rest-clause-damaged : goal.returns-in_err-rest-clause-damaged
returns-in_err-rest-clause-damaged c is ms few fit same =
    let found = rw c.in_ok-count.ensures.ok_part at c.take_count.ensures.some in
    let none = rw c.in_err-rest.ensures.ok_part at c.take_token.ensures.none in
    none (flat_map (message_bytes true) ms) (ap (drop 4) (sym found ∙ same))
