use Rattle.std.proofs.Common.{◌++◌, ◌∷◌, [], ap, sym, ◌∙◌, arith}
use Rattle.std.specs.Prelude.{Err}
use Rattle.ipc_image.specs.Shape.{bytes_in}
use Rattle.ipc_image.specs.SavedParts.{with_more}
use Rattle.ipc_image.specs.Relations.Shapes.{plain_one}
use Rattle.ipc_image.proofs.ReadLists.{none-read, one-read, stuck, none-more, more-more}
use Rattle.ipc_image.proofs.saved.take_list.Goals as goal

pub loop-init : goal.loop-init
loop-init g c =
    let t = g.T.Saved in
    let none = none-read (bytes_in t.shape t.tree) t.Fits c.args.bytes.now in
    record { items = []; so_far = none; added = sym (none-more t.items t.put g.met.T.Saved.place (t.seen c.args.into.now)) }

pub returns-in_err-left-clause-damaged : goal.returns-in_err-left-clause-damaged
returns-in_err-left-clause-damaged g c is xs rest long fit same =
    let t = g.T.Saved in
    let why = rw is at c.from_residual.ensures in
    let one = plain_one t.shape t.tree t.Fits g.met.T.Saved.known g.met.T.Saved.one in
    absurd (stuck (bytes_in t.shape t.tree) t.Fits one c.loop.invariant.items c.loop.counter c.args.bytes.now c.loop.left.now c.loop.invariant.so_far
    xs rest fit same (omega (arith, c.loop-test.true, long)) (c.in_err-left.ensures.damaged (ap (λ e. Err e) (sym why.1))))

pub loop-preserved : goal.loop-preserved
loop-preserved g c =
    let t = g.T.Saved in
    let some = c.in_ok-left.ensures.ok in
    let one = plain_one t.shape t.tree t.Fits g.met.T.Saved.known g.met.T.Saved.one in
    record {
      items = c.loop.invariant.items ++ some.0 ∷ [];
      so_far = one-read (bytes_in t.shape t.tree) t.Fits one c.loop.invariant.items c.loop.counter c.args.bytes.now c.loop.left.now
          c.loop.invariant.so_far c.in_ok-left.left.now some.0 some.1 some.2;
      added = some.3 ∙ ap (λ s. with_more t.items t.put s (some.0 ∷ [])) c.loop.invariant.added
          ∙ more-more t.items t.put g.met.T.Saved.place (t.seen c.args.into.now) c.loop.invariant.items (some.0 ∷ []);
    }
