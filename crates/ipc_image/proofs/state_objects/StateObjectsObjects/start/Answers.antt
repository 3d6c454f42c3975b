use Rattle.std.proofs.Common.{◌-◌, refl}
use Rattle.ipc_image.specs.SavedParts.{IsAnyMark, IsMarkOfQueue, IsMarkOfSet, IsMarkOfMq}
use Rattle.ipc_image.proofs.Marks.{mark-each}
use Rattle.ipc_image.proofs.state_objects.StateObjectsObjects.start.Goals as goal

pub returns : goal.returns
returns c =
    let s = c.args.self.now.1 in
    record {
      processes = λ one. refl;
      waits = λ two. refl;
      things = λ le. mark-each (IsMarkOfQueue c.args.self.now.0.marks) _ (record { parts = 0; bytes = 0 }) (λ e. refl)
          (mark-each IsMarkOfSet _ (record { parts = 0; bytes = 0 }) (λ e. refl)
          (mark-each IsMarkOfMq _ (record { parts = 0; bytes = 0 }) (λ e. refl)
          (mark-each IsAnyMark _ (record { parts = 0; bytes = 0 }) (λ e. tt)
          (mark-each IsAnyMark _ (record { parts = 0; bytes = 0 }) (λ e. tt)
          (mark-each IsAnyMark _ (record { parts = 0; bytes = 0 }) (λ e. tt) (λ at. tt) s.shm.entries) s.pshm.entries) s.psem.entries)
          s.mq.entries) s.semset.entries) s.msg.entries (c.args.i - 4);
    }
