use Rattle.posix_calls.proofs.pshm.make_pshm.Given as goal

-- the name for which there is memory
abbrev pub ghost-add_pshm : goal.ghost-add_pshm
ghost-add_pshm g a = g.name
