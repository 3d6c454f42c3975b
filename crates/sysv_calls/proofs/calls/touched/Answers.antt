use Rattle.ipc_state.proofs.CallerLemmas.{held-positive}
use Rattle.sysv_calls.proofs.calls.touched.Goals as goal

pub made_by-requires : goal.made_by-requires
made_by-requires c = held-positive c.msg.result.now c.args.state.now.state.msg c.msg.ensures.queues c.requires.sound.msg.held.bound

pub made_by-requires-in-Semget : goal.made_by-requires-in-Semget
made_by-requires-in-Semget c = held-positive c.semset.result.now c.args.state.now.state.semset c.semset.ensures.sets c.requires.sound.semset.held.bound

pub made_by-requires-in-Shmget : goal.made_by-requires-in-Shmget
made_by-requires-in-Shmget c = held-positive c.shm.result.now c.args.state.now.state.shm c.shm.ensures.segments c.requires.sound.shm.held.bound
