use Rattle.std.proofs.Common.{◌≡◌, take, true}
use Rattle.std.specs.List.{list_all}
use Rattle.ipc_state.specs.Tests.{is_sound_message}
use Rattle.ipc_state.proofs.msg_queues.has_sound_messages.Given as goal

-- those before this one are sound
abbrev pub invariant-loop-at : goal.invariant-loop-at
invariant-loop-at l = list_all (is_sound_message l.limits) (take l.at l.queue.messages) ≡ true
