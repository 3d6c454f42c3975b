-- What is kept of a state, as the state of the definitions.
use Rattle.std.proofs.Common.{◌≡◌, subst}
use Rattle.std.specs.Prelude.{ℕ, Bool, ◌&&◌, List, length, is_some, option_map}
use Rattle.sem_undo.specs.Undo.{Undo}
use Rattle.ipc_state.specs.contracts.state.State.{the_view}
use Rattle.ipc_state.specs.declared.state.State.TheInside.{Inside}
use Rattle.ipc_state.specs.Held.{Held, Ready, ready_of}
use Rattle.ipc_state.specs.State.{State}
use Rattle.ipc_state.specs.Tables.{numbered_of, has_place}
use Rattle.ipc_state.proofs.Reserved.{HasReady, ready-there}

abbrev pub state_in : Inside → State
state_in s =
    record {
      clock = s.clock.0;
      processes = numbered_of s.processes;
      wait = s.wait.calls;
      undo = (numbered_of s.undo).entries;
      msg = s.msg.objects;
      semset = s.semset.objects;
      shm = s.shm.objects;
      mq = s.mq.objects;
      psem = s.psem.objects;
      pshm = s.pshm.objects;
    }

-- what a contract sees of it, with other adjustments and this place for more
abbrev pub with_undo_in : Inside → List (ℕ × Undo) → Bool → Held
with_undo_in s undo place =
    let v = the_view s in
    record v {
      state = record v.state { undo = undo };
      ready = ready_of (is_some s.fresh && (has_place s.processes && place)) (option_map (λ r. r.0) s.msg.ready)
          (option_map (λ r. (r.0, length r.1.semaphores)) s.semset.ready) (option_map (λ r. (r.0, r.1.memory)) s.shm.ready)
          (option_map (λ r. r.0) s.mq.ready) (option_map (λ r. r.0) s.psem.ready) (option_map (λ r. r.0) s.pshm.ready) s.zeros;
    }

-- what is reserved stands ready in its part
abbrev pub HasReadyIn : Inside → Ready → Type 0
HasReadyIn s r =
    HasReady r (is_some s.fresh && (has_place s.processes && has_place s.undo)) (option_map (λ r. r.0) s.msg.ready)
    (option_map (λ r. (r.0, length r.1.semaphores)) s.semset.ready) (option_map (λ r. (r.0, r.1.memory)) s.shm.ready)
    (option_map (λ r. r.0) s.mq.ready) (option_map (λ r. r.0) s.psem.ready) (option_map (λ r. r.0) s.pshm.ready) s.zeros

pub ready-in : (s : Inside) (r : Ready) → (the_view s).ready ≡ r → HasReadyIn s r
ready-in s r is = subst (HasReadyIn s) is (ready-there _ _ _ _ _ _ _ _)
