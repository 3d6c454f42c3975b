use Rattle.ipc_engine.proofs.trying.only_asks.Goals as goal

pub returns-in-Posix : goal.returns-in-Posix
returns-in-Posix c = λ s pid is. rw c.in-Posix.is (c.posix_only_asks.ensures s)
