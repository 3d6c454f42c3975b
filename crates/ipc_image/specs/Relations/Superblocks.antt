-- The limits that a sector names, each by its place. The version and the journal are those of the form.
use Rattle.std.specs.Prelude.{ℕ, List}
use Rattle.ipc_limits.specs.declared.limits.Limits.{Limits}
use Rattle.ipc_image.specs.Superblock.{limit_in}
use Rattle.ipc_image.specs.declared.format.Format.{Format}

abbrev pub limits_in : Format → List ℕ → Limits
limits_in form sector =
    record {
      version = form.version;
      journal = form.journal;
      processes = limit_in form 0 sector;
      msgmni = limit_in form 1 sector;
      msgmax = limit_in form 2 sector;
      msgmnb = limit_in form 3 sector;
      semmni = limit_in form 4 sector;
      semmsl = limit_in form 5 sector;
      semmns = limit_in form 6 sector;
      semopm = limit_in form 7 sector;
      queues = limit_in form 8 sector;
      maxmsg = limit_in form 9 sector;
      msgsize = limit_in form 10 sector;
      named_semaphores = limit_in form 11 sector;
      segments = limit_in form 12 sector;
      segment_bytes = limit_in form 13 sector;
      call_bytes = limit_in form 14 sector;
      descriptors = limit_in form 15 sector;
      shmmni = limit_in form 16 sector;
      shmmax = limit_in form 17 sector;
      shmall = limit_in form 18 sector;
      msgqlen = limit_in form 19 sector;
      semume = limit_in form 20 sector;
      queue_bytes = limit_in form 21 sector;
    }
