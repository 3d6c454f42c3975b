use Rattle.ipc_engine.proofs.engine.Engine.from_state.Goals as goal

pub of-requires : goal.of-requires
of-requires c =
    record { parts = c.is_sound.ensures.0 c.if-not-is_sound.false; waits = c.all_have_to_wait.ensures.0 c.if-not-all_have_to_wait.false }
