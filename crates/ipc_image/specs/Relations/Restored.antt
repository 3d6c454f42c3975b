-- What is read of the clock's object.
use Rattle.std.specs.Prelude.{◌≡◌, ℕ, List, [], if◌then◌else◌}
use Rattle.ipc_state.specs.declared.state.Numbers.{Numbers}
use Rattle.ipc_state.specs.State.{State}
use Rattle.ipc_base.specs.Numbers.{FitFields}
use Rattle.ipc_image.specs.declared.format.Format.{Format}
use Rattle.ipc_image.specs.Format.{has_shms}
use Rattle.ipc_image.specs.Saved.{clock_sizes, clock_numbers, clock_bytes, count_bytes}

-- the next number of System V segments stands at the end, if the version has it
abbrev pub next_shm_bytes : Format → ℕ → List ℕ
next_shm_bytes form n = if has_shms form then count_bytes n else []

-- the bytes are the clock's object of every state with this clock and these next numbers
abbrev pub IsClockOf : Format → Numbers → List ℕ → Type 0
IsClockOf form n bytes =
    (s : State) → s.clock ≡ n.clock.0 → s.processes.next ≡ n.next_pid → s.msg.next ≡ n.next_msg_queue
    → s.semset.next ≡ n.next_semset → s.mq.next ≡ n.next_mq → s.psem.next ≡ n.next_psem
    → s.pshm.next ≡ n.next_pshm → s.shm.next ≡ n.next_shm
    → FitFields clock_sizes (clock_numbers s) × (bytes ≡ clock_bytes form s)
