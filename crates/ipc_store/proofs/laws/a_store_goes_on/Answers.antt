-- There was one image before; and what the first one needs the next one needs too.
use Rattle.std.proofs.Common.{subst}
use Rattle.ipc_disk.specs.Medium.{Image}
use Rattle.ipc_store.specs.Meanwhile.{GoesOn}
use Rattle.ipc_store.proofs.Meanwhile.{goes-on-then}
use Rattle.ipc_store.proofs.laws.a_store_goes_on.Goals as goal

pub returns-clause-call : goal.returns-clause-call
returns-clause-call g c = λ store new base pending at durable stays image since.
    let from = (stays.goes_on base pending at).each image since in
    subst (λ (first : Image). GoesOn first image) (durable from.0 from.1) from.2

pub returns-clause-calls : goal.returns-clause-calls
returns-clause-calls g c = goes-on-then

pub returns-clause-life : goal.returns-clause-life
returns-clause-life g c = λ store next before events keeps durable takes image since.
    let from = (takes before keeps).later.each image since in
    subst (λ (first : Image). GoesOn first image) (durable from.0 from.1) from.2

pub returns-clause-next : goal.returns-clause-next
returns-clause-next g c = λ disk new first now later image since.
    let from = later.each image since in
    goes-on-then first from.0 image (now from.0 from.1) from.2
