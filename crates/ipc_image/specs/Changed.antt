-- Which objects of a state may be otherwise than when it was saved.
use Rattle.std.specs.Prelude.{ℕ, ◌/◌, ◌%◌, ◌^◌, Bool, false, List, option_map, slice_get, unwrap_or}
use Rattle.ipc_base.specs.Objects.{PlainObjects}
use Rattle.ipc_state.specs.declared.parked.Object.{Object}
use Rattle.ipc_engine.specs.Changes.{is_changed}

-- the i-th of these objects does, by its number: that of its kind, and its own; those that every state has do always
abbrev pub differs_in : List Object → PlainObjects → ℕ → Bool
differs_in marks objects i =
    unwrap_or (option_map (λ o. is_changed marks (o.0 / 2 ^ 32) (o.0 % 2 ^ 32)) (slice_get objects i)) false
