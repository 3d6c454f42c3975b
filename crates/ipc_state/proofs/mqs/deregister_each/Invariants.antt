use Rattle.ipc_state.specs.Opening.{deregistered, is_by}
use Rattle.ipc_state.proofs.Clearing.{SeenUpTo}
use Rattle.ipc_state.proofs.mqs.deregister_each.Given as goal

-- those before this one have lost theirs
abbrev pub invariant-loop-item : goal.invariant-loop-item
invariant-loop-item l = SeenUpTo (deregistered (is_by l.pid l.fd)) l.item-index l.initial.items l.items
