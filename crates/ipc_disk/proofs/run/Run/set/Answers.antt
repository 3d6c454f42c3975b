-- A sector that the run has is written among those that it has.
use Rattle.std.proofs.Common.{◌≡◌, ◌<◌, arith, ◌∙◌, sym, ap, subst, ◌-◌, List, ℕ, get_or, length, take}
use Rattle.std.specs.Prelude.{slice_set}
use Rattle.std.proofs.Math.Seq.{take-set-lt}
use Rattle.std.proofs.Math.ListN.{length-set}
use Rattle.std.proofs.lemmas.List.{get_or_default}
use Rattle.std.proofs.lemmas.List.Elements.{All-set}
use Rattle.ipc_disk.specs.Medium.{IsSector}
use Rattle.ipc_disk.proofs.run.Run.set.Goals as goal

-- an array of as many bytes is a sector
sector_of : (sector from : List ℕ) → sector ≡ from → length from ≡ 512 → ((i : ℕ) → get_or from i 0 < 256) → IsSector sector
sector_of sector from same long fits =
    subst IsSector (sym same) (record { size = long; bytes = λ k d lt. subst (λ (b : ℕ). b < 256) (get_or_default from k 0 d lt) (fits k) })

pub invariant_of-self : goal.invariant_of-self
invariant_of-self c = record {
  short = omega arith;
  all = length-set _ _ _ ∙ c.args.self.now.all;
  whole = All-set IsSector _ _ _ (sector_of _ c.args.from.now c.copy_from_slice.ensures.after c.told-from c.fits-from) c.args.self.now.whole;
}

pub invariant_of-self-else-place-self : goal.invariant_of-self-else-place-self
invariant_of-self-else-place-self c = record {
  short = omega arith;
  all = length-set _ _ _ ∙ c.args.self.now.all;
  whole = All-set IsSector _ _ _ (sector_of _ c.args.from.now c.copy_from_slice.ensures.after c.told-from c.fits-from) c.args.self.now.whole;
}

pub returns-else-place-self-clause-replaces : goal.returns-else-place-self-clause-replaces
returns-else-place-self-clause-replaces c = λ inside.
    let run = c.args.self.now in
    let place : ℕ = c.args.at - run.range.first in
    take-set-lt run.range.count run.sectors place c.copy_from_slice.new.self (omega arith)
    ∙ ap (λ (s : List ℕ). slice_set (take run.range.count run.sectors) place s) c.copy_from_slice.ensures.after
