use Rattle.std.proofs.Common.{◌≡◌, ◌∙◌, ℕ, ◌++◌, ◌∷◌, [], ◌+◌, ap, sym, refl, map, drop, arith}
use Rattle.std.specs.Prelude.{Err, slice_get}
use Rattle.std.proofs.lemmas.List.{drop_all}
use Rattle.std.proofs.lemmas.List.Elements.{All-nil, All-push}
use Rattle.ipc_base.specs.Objects.{PlainObjects}
use Rattle.ipc_image.specs.Kind.{object_in, FitsIn}
use Rattle.ipc_image.specs.SavedParts.{with_more}
use Rattle.ipc_image.proofs.ReadLists.{none-more, more-more}
use Rattle.ipc_image.proofs.ReadKinds.{both_parts, object_at, other-at, one-more, left-over, none-left, not-read}
use Rattle.ipc_image.proofs.stored.restore_kind.Goals as goal

pub returns-in_default-clause-whole : goal.returns-in_default-clause-whole
returns-in_default-clause-whole g c xs rest other same fit =
    let t = g.T.Stored in
    let so_far = c.loop-i.invariant in
    let here = drop c.loop-i.i c.args.objects.now in
    let over = left-over t.FIRST t.bytes_of t.Fits so_far.items xs here rest so_far.fit fit other (sym so_far.read ∙ same) in
    none-left t.FIRST t.bytes_of t.Fits over.0 here rest over.1
    (other-at c.args.objects.now c.loop-i.i t.FIRST c.number.result c.number.ensures (rw c.FIRST.ensures at c.in_default.ensures.none)) over.2

pub returns-in_err-thing-clause-damaged : goal.returns-in_err-thing-clause-damaged
returns-in_err-thing-clause-damaged g c is xs rest other fit same =
    let t = g.T.Stored in
    let why = rw is at c.from_residual.ensures in
    let objects = c.args.objects.now in
    let so_far = c.loop-i.invariant in
    let here = object_at objects c.loop-i.i (c.number.result, c.object.result.now)
    (both_parts (slice_get objects c.loop-i.i) c.number.result c.object.result.now c.number.ensures c.object.ensures) in
    let over = left-over t.FIRST t.bytes_of t.Fits so_far.items xs (drop c.loop-i.i objects) rest so_far.fit fit other
    (sym so_far.read ∙ same) in
    not-read t.FIRST t.bytes_of t.Fits over.0 c.number.result c.in-Some.own c.object.result.now (drop (c.loop-i.i + 1) objects) rest
    over.1 other (omega arith) (rw c.FIRST.ensures at c.in-Some.ensures.some) (sym here ∙ over.2) (c.in_err-thing.ensures.damaged (ap (λ e. Err e) (sym why.1)))

pub loop-i-init : goal.loop-i-init
loop-i-init g c =
    let t = g.T.Stored in
    record {
      items = [];
      fit = All-nil _;
      read = refl;
      added = sym (none-more t.items t.put g.met.T.Stored.place (c.args.state.now.state, c.args.state.now.limits));
    }

pub loop-i-preserved : goal.loop-i-preserved
loop-i-preserved g c =
    let t = g.T.Stored in
    let objects = c.args.objects.now in
    let so_far = c.loop-i.invariant in
    let here = object_at objects c.loop-i.i (c.number.result, c.object.result.now)
    (both_parts (slice_get objects c.loop-i.i) c.number.result c.object.result.now c.number.ensures c.object.ensures) in
    let x : ℕ × g.row.T.Denot = (c.in-Some.own, c.in_ok-thing.thing) in
    let read = c.in_ok-thing.ensures.ok in
    let added = c.in_ok-add.ensures in
    record {
      items = so_far.items ++ x ∷ [];
      fit = All-push (FitsIn t.Fits) so_far.items x so_far.fit (omega arith, read.0);
      read = one-more t.FIRST t.bytes_of t.Fits so_far.items x (drop c.args.from objects) (drop (c.loop-i.i + 1) objects) c.number.result
          c.object.result.now (so_far.read ∙ ap (λ (l : PlainObjects). map (object_in t.FIRST t.bytes_of) so_far.items ++ l) here)
          (rw c.FIRST.ensures at c.in-Some.ensures.some) read.1;
      added = added ∙ ap (λ s. with_more t.items t.put s (x ∷ [])) so_far.added
          ∙ more-more t.items t.put g.met.T.Stored.place (c.args.state.now.state, c.args.state.now.limits) so_far.items (x ∷ []);
    }

pub returns-clause-whole : goal.returns-clause-whole
returns-clause-whole g c xs rest other same fit =
    let t = g.T.Stored in
    let objects = c.args.objects.now in
    let so_far = c.loop-i.invariant in
    let past : drop c.loop-i.i objects ≡ [] = drop_all c.loop-i.i objects (omega (arith, c.loop-i-test.false, c.count-i-end.ensures.count)) in
    let read = so_far.read ∙ ap (λ (l : PlainObjects). map (object_in t.FIRST t.bytes_of) so_far.items ++ l) past in
    let over = left-over t.FIRST t.bytes_of t.Fits so_far.items xs [] rest so_far.fit fit other (sym read ∙ same) in
    drop_all c.count.result objects (omega (arith, c.count.ensures.count))
    ∙ none-left t.FIRST t.bytes_of t.Fits over.0 [] rest over.1 tt over.2
