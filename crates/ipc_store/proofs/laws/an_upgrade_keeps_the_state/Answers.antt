use Rattle.std.proofs.Common.{◌<◌, ◌^◌, length, arith}
use Rattle.ipc_disk.specs.Medium.{IsHonest}
use Rattle.ipc_store.proofs.Upgrades.{upgrades-rest, upgrade-stands}
use Rattle.ipc_store.proofs.laws.an_upgrade_keeps_the_state.Given.{Over}
use Rattle.ipc_store.proofs.laws.an_upgrade_keeps_the_state.Goals as goal

-- a disk has no more sectors than can be counted
few : (g : Over) (d : _) → IsHonest (g.D.SectorDisk.medium d) → length (g.D.SectorDisk.medium d).contents < 2 ^ 32
few g d honest = omega (arith, (g.met.D.SectorDisk.shaped d (g.D.SectorDisk.medium d).contents honest.reads).count, g.met.D.SectorDisk.fits d)

pub returns-clause-rests : goal.returns-clause-rests
returns-clause-rests g c = λ own limits s left disk rests upgrades.
    upgrades-rest g.D.SectorDisk.medium (few g) own limits s left disk rests upgrades

pub returns-clause-stands : goal.returns-clause-stands
returns-clause-stands g c = λ own limits s disk new rests is.
    upgrade-stands g.D.SectorDisk.medium (few g) own limits s disk new rests is
