use Rattle.std.proofs.Common.{◌<◌, ◌^◌, length, arith, refl}
use Rattle.ipc_store.proofs.Leaving.{rests-standing, reopens}
use Rattle.ipc_store.specs.Histories.{state_after}
use Rattle.ipc_store.proofs.laws.an_open_finds_what_stands_there.Goals as goal

pub returns-clause-rests : goal.returns-clause-rests
returns-clause-rests g c = λ past disk is. rests-standing past (g.D.SectorDisk.medium disk) is

pub returns-clause-keeps : goal.returns-clause-keeps
returns-clause-keeps g c = λ past disk opened is on.
    let m = g.D.SectorDisk.medium in
    let fits : length (m disk).contents < 2 ^ 32 =
    omega (arith, (g.met.D.SectorDisk.shaped disk (m disk).contents is.honest.reads).count, g.met.D.SectorDisk.fits disk) in
    reopens (m opened.disk) opened (m disk).contents past (state_after past) fits
    (is.stands (m disk).contents is.honest.reads) refl on
