-- How objects in memory are kept.
use Rattle.std.specs.Prelude.{ℕ, List}
use Rattle.ipc_base.specs.declared.objects.Object.{Object}

-- an object as its number and its bytes
abbrev pub object_row : Object → ℕ × List ℕ
object_row o = (o.number, o.bytes.items)
