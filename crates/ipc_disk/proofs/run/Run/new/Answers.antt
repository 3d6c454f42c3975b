-- A new run has sectors of zeros.
use Rattle.std.proofs.Common.{◌<◌, replicate, arith, refl}
use Rattle.std.proofs.lemmas.List.Elements.{All-replicate}
use Rattle.ipc_disk.specs.Medium.{IsSector}
use Rattle.ipc_disk.proofs.run.Run.new.Goals as goal

pub invariant_of-result : goal.invariant_of-result
invariant_of-result c = record {
  short = omega arith;
  all = refl;
  whole = All-replicate IsSector 64 (replicate 512 0) (record { size = refl; bytes = All-replicate (λ b. b < 256) 512 0 (omega arith) });
}
