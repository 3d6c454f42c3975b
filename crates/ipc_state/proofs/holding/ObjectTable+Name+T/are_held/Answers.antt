use Rattle.std.proofs.Common.{◌≡◌, ℕ, List, true, map, sym, subst}
use Rattle.std.specs.Prelude.{All, Bool}
use Rattle.std.specs.Bool.{Decides}
use Rattle.ipc_state.specs.Named.{NamedEntry, is_named_so}
use Rattle.ipc_state.specs.Tables.{item_row}
use Rattle.ipc_state.proofs.SoundMqs.{all-tests}
use Rattle.ipc_state.proofs.holding.ObjectTable+Name+T.are_held.Goals as goal

pub returns-then-are_kept : goal.returns-then-are_kept
returns-then-are_kept g c =
    let Named' : List (ℕ × NamedEntry _) → Type 0 = λ es. All (λ e. is_named_so c.args.kind e ≡ true) es in
    let items = c.items.result.now in
    let formed = subst (λ es. Decides c.have_forms.result (Named' es)) c.items.ensures
    (subst (λ (b : Bool). Decides b (Named' (map item_row items))) (sym c.have_forms.ensures) (all-tests (is_named_so c.args.kind) item_row items)) in
    let kept = c.are_kept.ensures.0 c.if-are_kept.true in
    (λ yes. record { bound = kept.0; forms = formed.0 yes; stay = kept.1 }, λ h. formed.1 h.forms)

pub returns-else-are_kept : goal.returns-else-are_kept
returns-else-are_kept g c = (λ yes. let no = c.if-are_kept.false in cc, λ h. c.are_kept.ensures.1 (h.bound, h.stay))
