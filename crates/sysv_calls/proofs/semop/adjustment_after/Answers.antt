use Rattle.std.proofs.Common.{◌≡◌, ◌<◌, ◌+◌, ◌∙◌, ℤ, length, take, sym, ap, subst, refl, arith, to_z, of_z, FitsSigned, rules, get_or}
use Rattle.std.specs.Int.{w16}
use Rattle.std.specs.List.{fold}
use Rattle.std.proofs.lemmas.Int.{to_z-of_z}
use Rattle.std.proofs.lemmas.List.Sums.{fold_more}
use Rattle.std.proofs.lemmas.Option.{get_or_from_slice_get}
use Rattle.ipc_wire.specs.SemBufs.{bytes_of}
use Rattle.ipc_state.specs.State.{undo_of}
use Rattle.sem_undo.specs.Undo.{Undo, IsSoundUndo, adjustment}
use Rattle.sysv_sem.specs.declared.operation.Operation.{Operation}
use Rattle.sysv_sem.specs.Trial.{adjustment_of}
use Rattle.sysv_calls.specs.Relations.{noted_by}
use Rattle.sysv_calls.specs.Semop.{noted, operations_of}
use Rattle.sysv_calls.proofs.Noting.{adjustment-fits, noted-one, passed-kept}
use Rattle.sysv_calls.proofs.semop.adjustment_after.Goals.{After-at}
use Rattle.sysv_calls.proofs.semop.adjustment_after.Goals as goal

module _ (c : After-at) where
  -- the operation at this place, and what it leaves there
  next : adjustment_of c.args.num (to_z w16 c.loop-place.adjustment-bits) c.at.result
      ≡ adjustment (noted_by c.args.list.now.state.now.state c.args.list.now.pid.0 c.args.list.now.id.0 (operations_of (bytes_of c.args.list.now.operations))
      (c.loop-place.place + 1)) (c.args.list.now.id.0, c.args.num)
  next =
      let ops = operations_of (bytes_of c.args.list.now.operations) in
      let id = c.args.list.now.id.0 in
      let u = undo_of c.args.list.now.state.now.state c.args.list.now.pid.0 in
      let within : c.loop-place.place < length ops = omega (arith, c.loop-place-test.true, c.requires.count) in
      let here : get_or ops c.loop-place.place c.at.result ≡ c.at.result =
      get_or_from_slice_get ops c.loop-place.place c.at.result c.at.result c.at.ensures in
      ap (λ (a : ℤ). adjustment_of c.args.num a c.at.result) c.loop-place.invariant
      ∙ noted-one id (fold (noted id) u (take c.loop-place.place ops)) c.at.result c.args.num
      ∙ ap (λ (v : Undo). adjustment v (id, c.args.num)) (ap (noted id (fold (noted id) u (take c.loop-place.place ops))) (sym here)
      ∙ sym (fold_more (noted id) u ops c.loop-place.place c.at.result within))

pub loop-place-init : goal.loop-place-init
loop-place-init c =
    let fit : FitsSigned w16 c.adjustment-adjustment.result = search rules in
    to_z-of_z w16 c.adjustment-adjustment.result fit ∙ c.adjustment-adjustment.ensures

pub adjusted-adjustment-requires : goal.adjusted-adjustment-requires
adjusted-adjustment-requires c =
    subst (FitsSigned w16) (sym (next (goal.at.adjusted-adjustment-requires c).After-at))
    (adjustment-fits _ (passed-kept c.args.list.now.state.now.state c.args.list.now.pid.0 c.args.list.now.id.0
    (operations_of (bytes_of c.args.list.now.operations)) c.requires.passes (c.loop-place.place + 1) c.requires.kept) (c.args.list.now.id.0, c.args.num))

pub loop-place-preserved : goal.loop-place-preserved
loop-place-preserved c =
    let fit : FitsSigned w16 c.adjusted-adjustment.result = search rules in
    to_z-of_z w16 c.adjusted-adjustment.result fit ∙ c.adjusted-adjustment.ensures
    ∙ next (goal.at.loop-place-preserved c).After-at
