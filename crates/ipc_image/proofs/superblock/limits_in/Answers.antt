use Rattle.ipc_image.proofs.superblock.limits_in.Goals as goal

pub returns : goal.returns
returns c = λ i. record {
  version = c.args.form.version;
  journal = c.args.form.journal;
  processes = c.limit_at.ensures i;
  msgmni = c.limit_at-2.ensures i;
  msgmax = c.limit_at-3.ensures i;
  msgmnb = c.limit_at-4.ensures i;
  semmni = c.limit_at-5.ensures i;
  semmsl = c.limit_at-6.ensures i;
  semmns = c.limit_at-7.ensures i;
  semopm = c.limit_at-8.ensures i;
  queues = c.limit_at-9.ensures i;
  maxmsg = c.limit_at-10.ensures i;
  msgsize = c.limit_at-11.ensures i;
  named_semaphores = c.limit_at-12.ensures i;
  segments = c.limit_at-13.ensures i;
  segment_bytes = c.limit_at-14.ensures i;
  call_bytes = c.limit_at-15.ensures i;
  descriptors = c.limit_at-16.ensures i;
  shmmni = c.limit_at-17.ensures i;
  shmmax = c.limit_at-18.ensures i;
  shmall = c.limit_at-19.ensures i;
  msgqlen = c.limit_at-20.ensures i;
  semume = c.limit_at-21.ensures i;
  queue_bytes = c.limit_at-22.ensures i;
}
