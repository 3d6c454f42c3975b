use Rattle.premises.proofs.lives.new_device.Goals as goal

pub returns-in-Ok-format : goal.returns-in-Ok-format
returns-in-Ok-format c =
    let honest = c.disks_in_memory_are_honest.ensures.memory in
    record { honest = honest c.format.new.disk; stands = c.in-Ok-format.ensures.ok (honest c.in-Ok.disk) }
