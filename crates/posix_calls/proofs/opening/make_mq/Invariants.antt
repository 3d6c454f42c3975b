use Rattle.posix_calls.proofs.opening.make_mq.Given as goal

-- the name for which there is memory
abbrev pub ghost-add_mq : goal.ghost-add_mq
ghost-add_mq g a = g.name
