-- An object that was lent, as it is put back.
use Rattle.std.proofs.Common.{◌≡◌, ℕ, true, Option, Some, None, refl}
use Rattle.std.specs.Prelude.{is_some, option_map, unwrap_or}
use Rattle.ipc_state.specs.declared.objects.Entry.{Entry}
use Rattle.ipc_state.specs.Bound.{holding, putting}
use Rattle.ipc_state.specs.Lends.{HasPutObject}
use Rattle.ipc_state.specs.Numbered.{entry_of, with_entry}
use Rattle.ipc_state.specs.Tables.{HeldObjects}

-- the number, which has an object, has this one now
pub put-back : {B X : Type 0} (old : HeldObjects B X) (n : ℕ) (x : X) (new : HeldObjects B X) → HasPutObject old n x new
    → is_some (entry_of old.objects n) ≡ true → new ≡ record old { objects = putting old.objects n x }
put-back {B} {X} old n x new put there = by_entry (entry_of old.objects n) refl there
  where
    by_entry : (r : Option (Entry B X)) → entry_of old.objects n ≡ r → is_some r ≡ true
        → new ≡ record old { objects = unwrap_or (option_map (λ (e : Entry B X). with_entry old.objects n (holding e x)) r) old.objects }
    by_entry None is some = cc
    by_entry (Some e) is some = put e is
