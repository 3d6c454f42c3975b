use Rattle.std.proofs.Common.{◌≡◌, ◌∙◌, ◌<◌, ◌^◌, ℕ, List, map, sym, ap, subst}
use Rattle.ipc_limits.specs.Limits.{ArePassed}
use Rattle.ipc_state.specs.declared.parked.ObjectKind.TheVariants as kinds
use Rattle.ipc_state.specs.declared.processes.Process.{Process}
use Rattle.ipc_state.specs.Held.{Held}
use Rattle.ipc_state.specs.Opening.{object_as, open_count}
use Rattle.ipc_state.specs.Tables.{item_row}
use Rattle.ipc_state.proofs.Attachments.{few-open}
use Rattle.ipc_state.proofs.state.State.attachments.Goals.{After-items}
use Rattle.ipc_state.proofs.state.State.attachments.Goals as goal

listed : (c : After-items) → map item_row c.items.result.now ≡ c.args.self.now.state.processes.entries
listed c = ap (map item_row) c.items.ensures ∙ ap (λ (m : Held). m.state.processes.entries) c.self.view_is

few : (c : After-items) → open_count c.args.self.now.state.processes.entries (object_as kinds.Shm c.args.id.0) < 2 ^ 32
few c =
    let passed = subst (λ (m : Held). ArePassed m.limits) c.self.view_is c.self.invariant in
    few-open c.args.self.now.limits passed c.args.self.now.state c.requires (object_as kinds.Shm c.args.id.0)

pub count_open-requires : goal.count_open-requires
count_open-requires c = subst (λ (ps : List (ℕ × Process)). open_count ps (object_as kinds.Shm c.args.id.0) < 2 ^ 32) (sym (listed c)) (few c)

pub returns-clause-count : goal.returns-clause-count
returns-clause-count c =
    c.count_open.ensures
    ∙ ap (λ (ps : List (ℕ × Process)). open_count ps (object_as kinds.Shm c.args.id.0)) (listed (goal.at.returns-clause-count c).After-items)

pub returns-clause-few : goal.returns-clause-few
returns-clause-few c =
    let a = (goal.at.returns-clause-few c).After-items in
    subst (λ (n : ℕ). n < 2 ^ 32)
    (sym (c.count_open.ensures ∙ ap (λ (ps : List (ℕ × Process)). open_count ps (object_as kinds.Shm c.args.id.0)) (listed a))) (few a)
