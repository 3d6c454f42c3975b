use Rattle.std.proofs.Common.{◌≡◌, List, map, subst, ap}
use Rattle.std.specs.Prelude.{IfOk}
use Rattle.ipc_engine.specs.Engine.{Machine}
use Rattle.ipc_engine.specs.Listing.{PlainRow, plain_row, rows_of}
use Rattle.ipc_engine.proofs.engine.Engine.list.Goals as goal

pub returns : goal.returns
returns c =
    subst (λ (rows : List PlainRow). IfOk c.list_objects.result (λ v. map plain_row v.items ≡ rows)) (ap (λ (m : Machine). rows_of m.state) c.self.view_is)
    c.list_objects.ensures
