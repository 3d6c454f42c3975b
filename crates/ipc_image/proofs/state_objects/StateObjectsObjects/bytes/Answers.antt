use Rattle.std.proofs.Common.{◌≡◌, Some, ap, sym, ◌∙◌}
use Rattle.std.specs.List.{slice_get}
use Rattle.std.specs.Prelude.{option_map}
use Rattle.ipc_image.specs.Saved.{saved_in}
use Rattle.ipc_image.specs.Window.{at_place, passed}
use Rattle.ipc_image.proofs.Windows.{object-shown}
use Rattle.ipc_image.proofs.state_objects.StateObjectsObjects.bytes.Goals as goal

pub returns-clause-bytes : goal.returns-clause-bytes
returns-clause-bytes c =
    let found = slice_get (saved_in c.args.self.now.0 c.args.self.now.1) c.args.i in
    let put : option_map (λ o. passed o.1 (at_place c.args.place)) found ≡ Some c.put_object.new.window =
    rw c.new-window.ensures at c.put_object.ensures.passed in
    (object-shown c.args.place found c.put_object.new.window put ∙ ap Some (sym c.finish.ensures))
