-- That a request has a frame is proved in one way at most: the type of requests keeps it as a fact.
use Rattle.std.specs.Prelude.{ℕ, List, [], ◌∷◌}
use Rattle.std.proofs.Props.{props}
use Rattle.ipc_base.specs.Numbers.{Kind, Number, Unsigned, Signed, Values, IsInRange, AreInRange}
use Rattle.ipc_wire.specs.Fields.{Rest, Nothing, Bytes, Units, MayHave}
use Rattle.ipc_wire.specs.Request.{PlainRequest}
use Rattle.ipc_wire.specs.Spelling.{HasFrame}

IsInRange-prop : (k : Kind) (n : Number k) → IsProp (IsInRange k n)
IsInRange-prop (Unsigned s) n = hlevel props
IsInRange-prop (Signed s) n = hlevel props

AreInRange-prop : (ks : List Kind) (values : Values ks) → IsProp (AreInRange ks values)
AreInRange-prop [] values = hlevel props
AreInRange-prop (k ∷ ks) values = hlevel (IsInRange-prop, AreInRange-prop ks values.1)

MayHave-prop : (rest : Rest) (len : ℕ) → IsProp (MayHave rest len)
MayHave-prop Nothing len = hlevel props
MayHave-prop Bytes len = hlevel props
MayHave-prop (Units size) len = hlevel props

pub HasFrame-prop : {r : PlainRequest} → IsProp (HasFrame r)
HasFrame-prop = hlevel (props, AreInRange-prop, MayHave-prop)
