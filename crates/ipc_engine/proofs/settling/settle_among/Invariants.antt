use Rattle.std.proofs.Common.{◌+◌, ◌*◌, ◌-◌, ◌≤◌, length, vec_capacity}
use Rattle.std.specs.Global.{Vec}
use Rattle.ipc_state.specs.Held.{Held}
use Rattle.ipc_state.specs.Sound.{HasSoundParts}
use Rattle.ipc_engine.specs.Buffer.{room_in}
use Rattle.ipc_engine.specs.Does.{Does}
use Rattle.ipc_engine.specs.Settling.{AreLinked, RestWaits, SparedWait}
use Rattle.ipc_engine.specs.Step.{settle as settled, settle_within}
use Rattle.ipc_engine.specs.declared.event.Outcome.{Outcome}
use Rattle.ipc_engine.proofs.settling.settle_among.Given as goal

-- what is left to be done comes to what was asked for
abbrev pub invariant-loop-gone : goal.invariant-loop-gone
invariant-loop-gone l =
    let left = length l.fn.state.state.wait - l.gone in
    record {
      parts : HasSoundParts l.state.limits l.state.state;
      linked : AreLinked l.state.state;
      rest : RestWaits l.state.limits l.state.state l.among;
      spared : SparedWait l.state.limits l.state.state l.change;
      room : length l.outcomes.items + 2 * length l.state.state.wait ≤ vec_capacity l.outcomes;
      buffer : room_in l.fn.outcomes.items ≤ room_in l.outcomes.items;
      does : (new : Held) (last : Vec Outcome) → Does (settle_within l.state.limits left l.state.state) l.state new l.outcomes last
          → Does (settled l.fn.state.limits l.fn.state.state) l.fn.state new l.fn.outcomes last;
    }
