use Rattle.std.proofs.Common.{◌≡◌, ◌≤◌, ◌∙◌, ℕ, List, true, map, sym, ap, subst}
use Rattle.std.specs.Prelude.{All, Bool}
use Rattle.std.specs.Bool.{Decides}
use Rattle.std.specs.List.{list_all}
use Rattle.shm_segment.specs.SysSegment.{SysSegment}
use Rattle.ipc_state.specs.declared.numbered.Item.{Item}
use Rattle.ipc_state.specs.declared.parked.ObjectKind.TheVariants as kinds
use Rattle.ipc_state.specs.Held.{Held}
use Rattle.ipc_state.specs.Keyed.{AreKeyed, KeyedEntry}
use Rattle.ipc_state.specs.Kinds.{EntryOf, is_bound_so}
use Rattle.ipc_state.specs.Opening.{stays}
use Rattle.ipc_state.specs.Sound.{IsSoundShm, shm_bytes}
use Rattle.ipc_state.specs.Tables.{item_row}
use Rattle.ipc_state.proofs.SoundMqs.{all-tests}
use Rattle.ipc_state.proofs.state.State.are_shms_sound.Goals.{After-are_kept, then-are_kept, else-are_kept}
use Rattle.ipc_state.proofs.state.State.are_shms_sound.Goals as goal

abbrev Kept : Held → Type 0
Kept s = AreKeyed s.limits.shmmni (IsSoundShm s.limits) s.state.shm × All (λ e. stays kinds.Shm s.state.processes.entries e ≡ true) s.state.shm.entries

told : (c : After-are_kept) → Decides c.are_kept.result (Kept c.args.self.now)
told c = subst (λ (m : Held). Decides c.are_kept.result (Kept m)) c.self.view_is c.are_kept.ensures

abbrev test : ℕ × EntryOf kinds.Shm → Bool
test e = is_bound_so kinds.Shm e.1.bound e.1.perm e.1.object

abbrev Forms : List (ℕ × EntryOf kinds.Shm) → Type 0
Forms es = All (λ e. test e ≡ true) es

formed : (es : List (ℕ × EntryOf kinds.Shm)) (b : Bool) (items : List (Item (KeyedEntry SysSegment))) → b ≡ list_all (λ e. test (item_row e)) items
    → map item_row items ≡ es → Decides b (Forms es)
formed es b items is same =
    subst (λ (fs : List (ℕ × EntryOf kinds.Shm)). Decides b (Forms fs)) same
    (subst (λ (a : Bool). Decides a (Forms (map item_row items))) (sym is) (all-tests test item_row items))

pub returns-then-are_bound_so : goal.returns-then-are_bound_so
returns-then-are_bound_so c =
    let count = subst (λ (m : Held). Decides c.count_at_most.result (shm_bytes m.state.shm ≤ m.limits.shmall)) c.self.view_is
    c.count_at_most.ensures in
    let entries = ap (λ (m : Held). m.state.shm.entries) c.self.view_is in
    let kept = told ((goal.at.returns-then-are_bound_so c).After-are_kept) in (
      λ yes. elim c.if-are_kept.branch [
        | then-are_kept w ↦ record {
          held = record {
            bound = (kept.0 w.if-are_kept.true).0;
            forms = (formed c.args.self.now.state.shm.entries w.are_bound_so.result w.items.result.now w.are_bound_so.ensures
                (w.items.ensures ∙ entries)).0 (sym w.value-is ∙ c.if-are_bound_so.true);
            stay = (kept.0 w.if-are_kept.true).1;
          };
          together = count.0 yes;
        }
        | else-are_kept w ↦ let no = sym w.value-is ∙ c.if-are_bound_so.true in cc
      ],
      λ h. count.1 h.together,
    )

pub returns-else-are_bound_so : goal.returns-else-are_bound_so
returns-else-are_bound_so c =
    let entries = ap (λ (m : Held). m.state.shm.entries) c.self.view_is in
    let kept = told ((goal.at.returns-else-are_bound_so c).After-are_kept) in (
      λ yes. let no = c.if-are_bound_so.false in cc,
      λ h. elim c.if-are_kept.branch [
        | then-are_kept w ↦ w.value-is ∙ (formed c.args.self.now.state.shm.entries w.are_bound_so.result w.items.result.now w.are_bound_so.ensures
            (w.items.ensures ∙ entries)).1 h.held.forms
        | else-are_kept w ↦ w.value-is ∙ kept.1 (h.held.bound, h.held.stay)
      ],
    )
