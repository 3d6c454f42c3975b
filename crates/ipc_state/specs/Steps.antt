-- What the functions of a program's call answer, as steps of its definition.
use Rattle.std.specs.Prelude.{Result, Ok, Err}
use Rattle.ipc_base.specs.declared.errno.Errno.{Errno}
use Rattle.ipc_state.specs.Finish.{Attempt, Halt, Fails, Blocks}
use Rattle.ipc_state.specs.declared.answers.Halt.{Halt as Stops}
use Rattle.ipc_state.specs.declared.answers.Halt.TheVariants as stops

-- a value, or why there is none
abbrev pub result_of : {X : Type 0} → Result X Errno → Attempt X
result_of (Ok x) = Ok x
result_of (Err e) = Err (Fails e)

-- why a call does not go on
abbrev pub plain_halt : Stops → Halt
plain_halt (stops.Fails e) = Fails e
plain_halt stops.Blocks = Blocks

-- a value, or why there is none
abbrev pub attempted : {X : Type 0} → Result X Stops → Attempt X
attempted (Ok x) = Ok x
attempted (Err h) = Err (plain_halt h)

-- a part of what a call has on its way
abbrev pub seen : {X Y : Type 0} → (X → Y) → Attempt X → Attempt Y
seen f (Ok x) = Ok (f x)
seen f (Err h) = Err h
