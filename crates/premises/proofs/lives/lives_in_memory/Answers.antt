use Rattle.premises.proofs.lives.lives_in_memory.Goals as goal

pub returns : goal.returns
returns c = λ past disk lives opened stands all.
    c.no_answer_is_taken_back.ensures.history past disk lives opened
    (record { honest = c.disks_in_memory_are_honest.ensures.memory disk; stands = stands }) all
