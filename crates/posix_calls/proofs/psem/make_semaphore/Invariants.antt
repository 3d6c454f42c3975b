use Rattle.posix_calls.proofs.psem.make_semaphore.Given as goal

-- the name for which there is memory
abbrev pub ghost-add_psem : goal.ghost-add_psem
ghost-add_psem g a = g.name
