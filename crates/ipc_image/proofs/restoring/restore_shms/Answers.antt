use Rattle.std.proofs.Common.{◌≡◌, ◌∙◌, ◌++◌, ℕ, List, [], true, false, map, refl, sym, ap}
use Rattle.std.specs.Prelude.{Err}
use Rattle.std.proofs.lemmas.List.{append-nil}
use Rattle.std.proofs.lemmas.List.Elements.{All-nil}
use Rattle.std.proofs.lemmas.Result.{on_ok_weaker}
use Rattle.ipc_limits.specs.declared.limits.Limits.{Limits}
use Rattle.ipc_base.specs.Objects.{PlainObjects}
use Rattle.shm_segment.specs.SysSegment.{SysSegment}
use Rattle.ipc_state.specs.Keyed.{KeyedEntry}
use Rattle.ipc_state.specs.State.{State}
use Rattle.ipc_image.specs.Format.{has_shms}
use Rattle.ipc_image.specs.Saved.{shm_object}
use Rattle.ipc_image.specs.SavedParts.{put_shms}
use Rattle.ipc_image.proofs.restoring.restore_shms.Goals as goal

-- none was added
as_it_is : (s : State) (limits : Limits) → (s, limits) ≡ put_shms (s, limits) (s.shm.entries ++ [])
as_it_is s limits = ap (put_shms (s, limits)) (sym (append-nil s.shm.entries))

-- all that is left
all_of : (xs : List (ℕ × KeyedEntry SysSegment)) → map shm_object xs ≡ map shm_object xs ++ []
all_of xs = sym (append-nil (map shm_object xs))

pub returns-then-not-has_shms-clause-ok : goal.returns-then-not-has_shms-clause-ok
returns-then-not-has_shms-clause-ok c =
    on_ok_weaker c.none_left.result (λ left. ([], All-nil _, λ none. refl, left, as_it_is c.args.state.now.state c.args.state.now.limits))
    c.none_left.ensures.ok

pub returns-then-not-has_shms-clause-damaged : goal.returns-then-not-has_shms-clause-damaged
returns-then-not-has_shms-clause-damaged c is xs fit none are =
    let other : has_shms c.args.form ≡ false = sym c.has_shms.ensures ∙ c.if-not-has_shms.true in
    c.none_left.ensures.damaged is (are ∙ ap (map shm_object) (none other))

pub returns-in_err-next-clause-damaged : goal.returns-in_err-next-clause-damaged
returns-in_err-next-clause-damaged c is xs fit none are =
    let why = rw is at c.from_residual.ensures in
    c.in_err-next.ensures.damaged (ap (λ e. Err e) (sym why.1)) xs [] tt fit (are ∙ all_of xs)

pub returns-clause-ok : goal.returns-clause-ok
returns-clause-ok c =
    let has : has_shms c.args.form ≡ true = sym c.has_shms.ensures ∙ c.if-not-has_shms.false in
    let hs = c.in_ok-next.ensures.ok in
    on_ok_weaker c.none_left-2.result
    (λ left. (hs.0, hs.1, λ none. absurd cc, hs.2 ∙ ap (λ (l : PlainObjects). map shm_object hs.0 ++ l) left ∙ sym (all_of hs.0), hs.3))
    c.none_left-2.ensures.ok

pub returns-clause-damaged : goal.returns-clause-damaged
returns-clause-damaged c is xs fit none are =
    c.none_left-2.ensures.damaged is (c.in_ok-next.ensures.whole xs [] tt (are ∙ all_of xs) fit)
