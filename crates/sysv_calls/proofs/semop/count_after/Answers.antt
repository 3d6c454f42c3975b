use Rattle.std.proofs.Common.{◌≡◌, ◌≢◌, ◌<◌, ◌≤◌, ◌+◌, ◌-ℤ◌, ◌∙◌, Bool, ℕ, ℤ, pos, true, false, List, FitsSigned}
use Rattle.std.proofs.Common.{length, take, sym, ap, subst, refl, arith, get_or, rules}
use Rattle.std.specs.Prelude.{if◌then◌else◌}
use Rattle.std.specs.FinMap as fin
use Rattle.std.specs.Int.{w16}
use Rattle.std.proofs.lemmas.Int.{to_z-of_z}
use Rattle.std.proofs.lemmas.List.Sums.{fold_more}
use Rattle.std.proofs.lemmas.Option.{get_or_from_slice_get}
use Rattle.ipc_wire.specs.SemBufs.{bytes_of}
use Rattle.ipc_state.specs.State.{undo_of}
use Rattle.sem_undo.specs.Undo.{Undo, IsSoundUndo, adjustment, subtracted}
use Rattle.sysv_sem.specs.declared.operation.Operation.{Operation}
use Rattle.sysv_sem.specs.Operation.{has_undo}
use Rattle.sysv_calls.specs.Relations.{noted_by, one_if_kept}
use Rattle.sysv_calls.specs.Semop.{noted, operations_of}
use Rattle.sem_undo.proofs.CallerLemmas.{subtracted_there}
use Rattle.sysv_calls.proofs.Noting.{count-subtracted, noted-undone, passed-kept, some-kept}
use Rattle.sysv_calls.proofs.semop.count_after.Goals.{After-at-operation, After-adjustment_after-after}
use Rattle.sysv_calls.proofs.semop.count_after.Goals as goal

module _ (c : After-at-operation) where
  abbrev ops : List Operation
  ops = operations_of (bytes_of c.args.list.now.operations)

  -- the adjustments after so many operations
  abbrev after : ℕ → Undo
  after n = noted_by c.args.list.now.state.now.state c.args.list.now.pid.0 c.args.list.now.id.0 ops n

  kept : (n : ℕ) → IsSoundUndo (after n)
  kept n = passed-kept c.args.list.now.state.now.state c.args.list.now.pid.0 c.args.list.now.id.0 ops c.requires.passes n c.requires.kept

  -- this operation is the one more
  next : after (c.args.place + 1) ≡ noted c.args.list.now.id.0 (after c.args.place) c.at-operation.result
  next =
      let o = c.at-operation.result in
      let id = c.args.list.now.id.0 in
      let here : get_or ops c.args.place o ≡ o = get_or_from_slice_get ops c.args.place o o c.at-operation.ensures in
      fold_more (noted id) (undo_of c.args.list.now.state.now.state c.args.list.now.pid.0) ops c.args.place o c.requires.place
      ∙ ap (noted id (after c.args.place)) here

-- one that is not undone leaves as many
pub returns-then-not-contains-clause-count : goal.returns-then-not-contains-clause-count
returns-then-not-contains-clause-count c =
    let o = (goal.at.returns-then-not-contains-clause-count c).After-at-operation in
    let none : has_undo c.at-operation.result ≡ false = search rules in
    c.requires.count ∙ sym (ap (λ (u : Undo). fin.len u) (next o ∙ noted-undone c.args.list.now.id.0 (after o c.args.place) c.at-operation.result none))

pub counted-requires-clause-some : goal.counted-requires-clause-some
counted-requires-clause-some c other =
    let fit : FitsSigned w16 c.adjustment_after-before.result = search rules in
    let o = (goal.at.counted-requires-clause-some c).After-at-operation in
    subst (λ (n : ℕ). 0 < n) (sym c.requires.count) (some-kept (after o c.args.place) (kept o c.args.place) (c.args.list.now.id.0, c.at-operation.result.num)
    (λ none. other (to_z-of_z w16 _ fit ∙ c.adjustment_after-before.ensures ∙ none)))

pub returns-clause-count : goal.returns-clause-count
returns-clause-count c =
    let o = (goal.at.returns-clause-count c).After-at-operation in
    let op = c.at-operation.result in
    let k : ℕ × ℕ = (c.args.list.now.id.0, op.num) in
    let undone : has_undo op ≡ true = search rules in
    let u = after o c.args.place in
    let now : after o (c.args.place + 1) ≡ subtracted u k op.sem_op = next o ∙ ap (λ (b : Bool). if b then subtracted u k op.sem_op else u) undone in
    let first : FitsSigned w16 c.adjustment_after-before.result = search rules in
    let second : FitsSigned w16 c.adjustment_after-after.result = search rules in
    let step = count-subtracted u (kept o c.args.place) k op.sem_op in
    let left : adjustment (after o (c.args.place + 1)) k ≡ adjustment u k -ℤ op.sem_op =
    ap (λ (v : Undo). adjustment v k) now ∙ subtracted_there u k op.sem_op in
    omega (
      arith,
      c.counted.ensures.count,
      c.requires.count,
      step,
      ap (λ (v : Undo). fin.len v) now,
      ap one_if_kept (to_z-of_z w16 _ first ∙ c.adjustment_after-before.ensures),
      ap one_if_kept (to_z-of_z w16 _ second ∙ c.adjustment_after-after.ensures ∙ left),
    )
