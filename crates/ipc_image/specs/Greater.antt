-- Whether limits are at least as great as others, field by field.
use Rattle.std.specs.Prelude.{◌≡◌, Bool, not, List, map, zip, nat_le, position, None}
use Rattle.ipc_limits.specs.declared.limits.Limits.{Limits}
use Rattle.ipc_image.specs.Superblock.{limit_fields}

-- whether each field is, in the order of the fields
abbrev pub at_least : Limits → Limits → List Bool
at_least new old = map (λ p. nat_le p.1 p.0) (zip (limit_fields new) (limit_fields old))

-- each field is
abbrev pub AreAtLeast : Limits → Limits → Type 0
AreAtLeast new old = position not (at_least new old) ≡ None
