use Rattle.std.proofs.Common.{◌≡◌, ℕ, List, Some, true, false, sym, subst, ◌∙◌, arith}
use Rattle.ipc_limits.specs.declared.limits.Limits.{Limits}
use Rattle.ipc_image.specs.declared.format.Format.{Format}
use Rattle.ipc_image.specs.Superblock.{IsSuperblockIn}
use Rattle.ipc_image.proofs.Reading.{has_limits, has_sectors}
use Rattle.ipc_image.proofs.superblock.superblock_in.Goals as goal
use Rattle.ipc_image.proofs.superblock.superblock_in.Goals.{then-found-sectors-via-then-found-sectors}
use Rattle.ipc_image.proofs.superblock.superblock_in.Goals.{then-found-sectors-via-else-found-sectors+then-not-is_superblock}

-- a superblock by the numbers that are read
read : (form : Format) (sector : List ℕ) (n sectors : ℕ) (l limits : Limits) → n ≡ sectors → l ≡ limits → IsSuperblockIn form sectors limits sector
    → IsSuperblockIn form n l sector
read form sector n sectors l limits count all is =
    subst (λ (m : ℕ). IsSuperblockIn form m l sector) (sym count) (subst (λ (m : Limits). IsSuperblockIn form sectors m sector) (sym all) is)

pub returns-then-found-sectors-clause-only : goal.returns-then-found-sectors-clause-only
returns-then-found-sectors-clause-only c named limits within is =
    let form : Format = c.args.form in
    let sector : List ℕ = c.args.sector.now in
    let count = c.number_at.ensures ∙ has_sectors form c.requires.known named limits sector is (omega (arith, within)) in
    absurd (elim c.then-found-sectors.branch [
      | then-found-sectors-via-then-found-sectors w ↦ omega (arith, count, within, w.if-found-sectors.true)
      | then-found-sectors-via-else-found-sectors+then-not-is_superblock w ↦
          let all = c.limits_in.ensures ∙ has_limits form c.requires.known named limits sector is in
          let yes = w.is_superblock.ensures.1 (read form sector _ named _ limits count all is) in
          let no : true ≡ false = sym yes ∙ w.if-not-is_superblock.true in
          cc
    ])

pub returns-clause-only : goal.returns-clause-only
returns-clause-only c named limits within is =
    let form : Format = c.args.form in
    let sector : List ℕ = c.args.sector.now in
    let count = c.number_at.ensures ∙ has_sectors form c.requires.known named limits sector is (omega (arith, within)) in
    let all = c.limits_in.ensures ∙ has_limits form c.requires.known named limits sector is in
    λ i. Some (record { sectors = count i; limits = all i })
